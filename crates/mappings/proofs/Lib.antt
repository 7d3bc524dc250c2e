-- The steps that fit and the smallest of them. Assumes nothing.
pub mod StepFits
pub mod Images
