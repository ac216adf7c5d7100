pub mod LoneLaws
pub mod Repeated
pub mod StarLaws
pub mod TargetLaws
pub mod TextLaws
pub mod ValueLaws
