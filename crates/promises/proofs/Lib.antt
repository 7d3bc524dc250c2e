-- Theorems over the contracts of several calls. Assumes nothing.
pub mod Joining
pub mod Rewriting
pub mod Containment
pub mod Lines
pub mod Asking
pub mod Refused
pub mod Agreeing
pub mod AgreeingPairs
pub mod Starting
pub mod Moved
pub mod MovedPairs
pub mod Unread
