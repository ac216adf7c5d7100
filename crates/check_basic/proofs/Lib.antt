pub mod LineSteps
pub mod NodeSteps
