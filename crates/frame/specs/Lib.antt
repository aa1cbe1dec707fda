pub mod Frame
pub mod Admission
pub mod Answer
pub mod OneWord
