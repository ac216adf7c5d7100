pub mod Headers
pub mod Found
