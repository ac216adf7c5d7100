pub mod Answers
pub mod Command
pub mod Output
pub mod Shown
