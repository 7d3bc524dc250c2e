-- The laws of the calls on lists, file by file. Assumes nothing.
pub mod Unique
