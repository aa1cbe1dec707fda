pub mod Forward
pub mod WellFormed
pub mod Writing
pub mod RoundTrip
pub mod Readers
