-- Rows of bytes written after each other. Assumes nothing.
pub mod Rows
