-- The table of flight line seven, proved by computation. Assumes nothing.
pub mod Checking
pub mod Proved
