-- The theory of joining. Assumes nothing.
pub mod Parts
pub mod Joined
pub mod Glue
pub mod Order
pub mod Started
pub mod Unique
pub mod Assoc
pub mod Called
