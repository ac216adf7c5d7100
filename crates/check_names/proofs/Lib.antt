pub mod GuardLaws
pub mod LocalLaws
pub mod NodeSteps
pub mod PublicLaws
pub mod ScopeSteps
