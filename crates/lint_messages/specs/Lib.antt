pub mod Codes
pub mod Order
pub mod Selections
pub mod Sorting
pub mod Templates
