pub mod CopyLaws
pub mod FormLaws
pub mod OnlyLaws
