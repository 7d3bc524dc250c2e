-- What a reader must believe of joining, file by file. Assumes nothing.
pub mod Join
