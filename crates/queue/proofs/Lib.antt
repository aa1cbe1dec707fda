pub mod Copying
pub mod Inserting
pub mod Rows
pub mod RowsLeft
pub mod StoringBack
pub mod WaitingRecords
