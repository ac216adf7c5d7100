pub mod BlockLaws
pub mod CommentLaws
pub mod CursorLaws
pub mod LineLaws
pub mod MergeLaws
pub mod NestingLaws
pub mod StateLaws
pub mod StepLaws
