pub mod KeptLaws
pub mod RowLaws
pub mod ShapeLaws
pub mod WalkLaws
pub mod FinishLaws
pub mod EntryLaws
pub mod Reading
pub mod RowAccess
