-- What the passes over rows look up of a pattern. Only private functions of the calls cite this crate's specs: a reader of the public contracts need not read
-- them. Assumes nothing.
pub mod Steps
pub mod Leading
pub mod Plans
pub mod Rising
