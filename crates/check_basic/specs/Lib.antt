pub mod Kinds
pub mod LineRules
pub mod Lines
pub mod LogicalLines
pub mod Nodes
pub mod TreeRules
