-- The theory of containment. Assumes nothing.
pub mod Free
pub mod Nodes
pub mod Written
pub mod Complete
pub mod Shows
pub mod Maps
pub mod FreshLabel
pub mod Contained
pub mod Deciding
pub mod Unique
pub mod Greedily
pub mod Verdicts
pub mod WitnessSteps
pub mod UsedLabels
pub mod Answering
pub mod Called
