pub mod Operation
pub mod Admission
pub mod Store
pub mod Named
pub mod Cells
