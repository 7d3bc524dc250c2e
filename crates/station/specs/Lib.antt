-- What a reader must believe of the station, file by file. Assumes nothing.
pub mod Code
