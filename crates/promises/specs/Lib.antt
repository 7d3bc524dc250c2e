-- What a reader must believe of the promises that several calls make together, file by file. Assumes nothing.
pub mod Gives
pub mod SameSteps
