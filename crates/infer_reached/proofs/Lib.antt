pub mod Progress
pub mod SettledIsLeast
pub mod Extension
