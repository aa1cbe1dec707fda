pub mod Waiting
pub mod Admission
pub mod Snapshot
pub mod Running
pub mod Core
pub mod Visit
pub mod Answer
