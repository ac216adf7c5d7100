pub mod MapOf
pub mod NameIn
pub mod TreeOf
