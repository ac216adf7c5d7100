pub mod Bodies
pub mod Deep
pub mod LineLaws
pub mod NestingLaws
