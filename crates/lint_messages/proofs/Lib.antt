pub mod MessageOrder
pub mod Sorted
