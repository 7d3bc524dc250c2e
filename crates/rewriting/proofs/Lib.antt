-- The theory of rewriting. Assumes nothing.
pub mod MainPath
pub mod MainClimb
pub mod CutSize
pub mod Cuts
pub mod CutTable
pub mod CutSends
pub mod Depths
pub mod Serving
pub mod Paths
pub mod Rewritten
pub mod Unique
pub mod Deciding
