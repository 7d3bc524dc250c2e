-- What a reader must believe of containment, file by file. Assumes nothing.
pub mod Mapping
pub mod Witness
pub mod Containment
pub mod Equality
-- what only private functions cite: nobody has to read it
pub mod inner
