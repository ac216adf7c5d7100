pub mod Kinds
pub mod Nodes
pub mod Outwards
pub mod Parts
