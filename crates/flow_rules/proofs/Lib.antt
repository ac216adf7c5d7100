pub mod Around
pub mod ListLaws
pub mod NodeSteps
pub mod TotalLaws
pub mod RedefinedLaws
