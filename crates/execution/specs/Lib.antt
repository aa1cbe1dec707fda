pub mod Run
pub mod Answer
pub mod Effect
pub mod Telling
pub mod Actions
