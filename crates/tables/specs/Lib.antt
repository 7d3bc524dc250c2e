-- What a reader must believe of the tables, file by file. Assumes nothing.
pub mod Tree
pub mod Column
pub mod Document
pub mod Pattern
pub mod Refusal
pub mod Bits
pub mod Checks
pub mod inner
