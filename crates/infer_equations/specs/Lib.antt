pub mod Assignment
pub mod Least
pub mod Kept
pub mod Valued
pub mod Seen
pub mod Reading
