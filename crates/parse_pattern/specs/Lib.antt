pub mod Orders
pub mod Items
