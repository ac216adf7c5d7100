pub mod Answering
pub mod KindLaws
pub mod Nesting
mod Rows1
mod Rows2
mod Rows3
mod Rows4
mod Rows5
mod Rows6
mod Rows7
pub mod Trying
