pub mod Admitted
pub mod NamedCells
pub mod StepKinds
pub mod CellNumbers
pub mod Bounds
pub mod CellSteps
