pub mod Copies
pub mod Found
pub mod Spelling
pub mod Answers
