pub mod Arguments
pub mod Counting
pub mod Fates
pub mod Laws
pub mod Parameters
pub mod Reading
pub mod Rule
