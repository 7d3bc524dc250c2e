-- Laws of packets. Assumes nothing.
pub mod Halves
pub mod Views
pub mod PatternTrip
pub mod Reading
pub mod RoundTrip
pub mod DocumentTrip
pub mod Putting
pub mod Turns
