pub mod Answers
pub mod Cursors
pub mod Fields
pub mod Lines
pub mod Outcomes
pub mod Spelling
pub mod Strings
pub mod Tokens
