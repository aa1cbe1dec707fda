pub mod Filling
pub mod Cost
pub mod Best
pub mod Touched
pub mod Sets
pub mod Shared
pub mod Answer
pub mod Choosing
