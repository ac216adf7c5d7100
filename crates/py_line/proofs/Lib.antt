pub mod KeptLaws
pub mod Stretches
