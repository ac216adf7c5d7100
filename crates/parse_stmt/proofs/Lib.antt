pub mod KeptLaws
pub mod OneAnswer
pub mod ShapeLaws
pub mod SourceLaws
pub mod WholeLaws
