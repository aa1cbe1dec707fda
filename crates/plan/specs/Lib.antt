pub mod Plan
pub mod Decode
pub mod Admission
pub mod Place
pub mod Step
pub mod Form
pub mod Transaction
pub mod Accepted
