pub mod Answers
pub mod Places
pub mod Rows
pub mod Spelling
pub mod Reading
