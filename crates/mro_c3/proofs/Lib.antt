pub mod CountLaws
pub mod LinearizationSteps
pub mod MarkLaws
pub mod MergeLaws
pub mod MergeSteps
pub mod Occurrences
pub mod OrderLaws
pub mod SubsequenceLaws
