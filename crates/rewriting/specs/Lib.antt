-- What a reader must believe of rewriting, file by file. Assumes nothing.
pub mod Candidate
pub mod Rewriting
-- what only private functions cite: nobody has to read it
pub mod inner
