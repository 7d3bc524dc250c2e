-- The theory of placements and mappings. Assumes nothing.
pub mod Compose
pub mod Fit
pub mod Probe
pub mod Least
pub mod Sending
pub mod Listing
