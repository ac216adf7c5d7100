pub mod AddingLaws
pub mod DepthLaws
pub mod FieldLaws
pub mod PlaceLaws
pub mod ReadingLaws
pub mod StringLaws
pub mod UniqueLaws
