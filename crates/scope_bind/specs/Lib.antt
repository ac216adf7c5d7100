pub mod Calls
pub mod Claims
pub mod Lists
pub mod Owned
pub mod Rows
pub mod Scoped
pub mod Search
