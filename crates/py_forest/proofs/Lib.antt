pub mod TreeLaws
pub mod KindLaws
pub mod BracketLaws
pub mod TargetLaws
pub mod ChangeLaws
pub mod ParameterLaws
pub mod TextLaws
