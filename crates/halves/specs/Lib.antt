-- What a reader must believe of bytes and 16-bit numbers. Assumes nothing.
pub mod Bytes
