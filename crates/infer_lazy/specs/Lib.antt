pub mod Pairs
pub mod Waiting
pub mod Reach
pub mod Worklist
