pub mod FirstFault
pub mod Forms
pub mod Items
pub mod Scanned
pub mod Settings
pub mod Spans
pub mod Steps
pub mod Tokenized
