pub mod Request
pub mod Route
pub mod Answer
pub mod Step
