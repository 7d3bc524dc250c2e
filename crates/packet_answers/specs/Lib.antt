-- What a reader must believe of the calls on packets of documents, file by file. Assumes nothing.
pub mod Documents
pub mod inner
