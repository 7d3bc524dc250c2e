-- The first pass over the nodes, and the lists that the marks go to. Assumes nothing.
pub mod Upward
pub mod Starts
