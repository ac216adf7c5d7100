pub mod Above
pub mod Below
