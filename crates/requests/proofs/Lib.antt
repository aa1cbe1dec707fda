pub mod Handed
pub mod Joining
pub mod StoredBack
pub mod Stored
