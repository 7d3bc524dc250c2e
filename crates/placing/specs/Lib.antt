-- What a reader must believe of placements and answers, file by file. Assumes nothing.
pub mod Placement
pub mod Answer
pub mod Smallest
