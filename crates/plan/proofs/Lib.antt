-- What a plan finds, and the upward pass over rows. Assumes nothing.
pub mod Steps
pub mod Bytes
pub mod Shifts
pub mod Groups
pub mod FitSteps
pub mod Rising
