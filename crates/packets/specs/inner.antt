-- What only functions of the crates above cite: a reader of the public contracts need not read it. Assumes nothing.
pub mod Putting
