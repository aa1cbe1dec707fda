pub mod ReservedBits
