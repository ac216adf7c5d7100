pub mod Lone
pub mod Rounds
pub mod Parts
pub mod Stars
pub mod Behind
