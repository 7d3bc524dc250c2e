-- The laws of the station, file by file. Assumes nothing.
pub mod Signed
pub mod Small
pub mod Unique
pub mod Sign
