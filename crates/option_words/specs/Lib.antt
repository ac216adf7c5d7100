pub mod OptionNames
pub mod Values
