-- What a reader must believe of the calls on packets of patterns, file by file. Assumes nothing.
pub mod Patterns
pub mod Contained
