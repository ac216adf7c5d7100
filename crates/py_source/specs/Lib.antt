pub mod Classes
pub mod Coding
pub mod Decoding
pub mod Physical
pub mod Places
pub mod Spans
