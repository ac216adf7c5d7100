pub mod Tops
pub mod Forests
pub mod Annotations
