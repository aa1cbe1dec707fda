pub mod Asked
pub mod Priority
pub mod QuestionSix
pub mod SameWaiting
