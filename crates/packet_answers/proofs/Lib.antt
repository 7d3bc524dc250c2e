-- The laws of the calls on packets of documents, file by file. Assumes nothing.
pub mod ReadingCalls
pub mod DocumentCalls
pub mod StartCalls
pub mod Unique
