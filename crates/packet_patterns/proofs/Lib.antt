-- The laws of the calls on packets of patterns, file by file. Assumes nothing.
pub mod PatternCalls
pub mod Shown
pub mod ContainCalls
pub mod Unique
