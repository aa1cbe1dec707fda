pub mod Summing
pub mod PerDesk
pub mod Walking
pub mod Verdicts
pub mod OneWord
