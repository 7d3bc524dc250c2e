-- What a reader must believe of what `ask` prints, file by file. Assumes nothing.
pub mod Text
pub mod Parts
pub mod Replies
-- what only private functions cite: nobody has to read it
pub mod inner
