-- What the private functions of containment find of two patterns. Assumes nothing.
pub mod Fits
