-- The text of `ask`: decimal numbers, the laws of the writers, of the input's parts and of the reply, and that no second text fits. Assumes nothing.
pub mod Decimal
pub mod Writing
pub mod Parts
pub mod Answering
pub mod Replying
pub mod Unique
pub mod Shown
pub mod Front
