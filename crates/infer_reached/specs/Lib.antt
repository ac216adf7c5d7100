pub mod Tables
pub mod Settled
pub mod InProgress
pub mod Extension
