pub mod RightTables
pub mod Merging
pub mod Demands
pub mod Filtered
pub mod Costs
pub mod Row
pub mod Again
