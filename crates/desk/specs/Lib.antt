pub mod Queueing
pub mod Priority
pub mod Holding
pub mod Admission
pub mod Asked
pub mod Answer
