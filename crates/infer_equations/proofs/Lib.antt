pub mod Rounds
pub mod Reading
pub mod Entries
pub mod Overlay
pub mod Keeping
pub mod Valued
pub mod Copied
pub mod Shown
