-- What the private functions of the Answers call leave in its lists. Assumes nothing.
pub mod Entries
