pub mod Brackets
pub mod Forms
pub mod Languages
pub mod Nesting
pub mod Readers
pub mod Sets
