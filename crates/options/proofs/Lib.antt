pub mod EditLaws
pub mod FileLaws
pub mod LineLaws
pub mod WordLaws
