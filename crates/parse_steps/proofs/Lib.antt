pub mod Tokens
pub mod Runs
pub mod Loops
pub mod Shrinking
pub mod Keeping
