pub mod Field
pub mod Reserved
pub mod Words
