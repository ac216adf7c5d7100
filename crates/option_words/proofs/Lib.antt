pub mod BlankLaws
pub mod NumberLaws
pub mod PartLaws
