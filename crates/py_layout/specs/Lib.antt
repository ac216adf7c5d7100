pub mod Answers
pub mod Blanks
pub mod Brackets
pub mod Comments
pub mod FirstFault
pub mod Indentation
pub mod LogicalLines
pub mod Parts
