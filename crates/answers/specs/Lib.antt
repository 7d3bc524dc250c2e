-- What a reader must believe of the Answers call, file by file. Assumes nothing.
pub mod Working
pub mod Answers
-- what only private functions cite: nobody has to read it
pub mod inner
