pub mod Laws
pub mod Merge
pub mod Order
pub mod Subsequence
pub mod Table
