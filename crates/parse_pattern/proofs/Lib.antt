pub mod Continued
pub mod Ends
pub mod ItemLaws
pub mod NumberLaws
pub mod OrderLaws
