-- Flight line seven: what a fact is, and the table of facts. Assumes nothing.
pub mod Fact
pub mod Table
