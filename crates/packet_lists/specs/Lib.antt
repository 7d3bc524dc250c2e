-- What a reader must believe of the calls on lists, file by file. Assumes nothing.
pub mod Lists
