pub mod Updates
pub mod Running
pub mod Runs
pub mod RunAppend
pub mod Telling
pub mod Actions
