pub mod CharacterPlaces
pub mod DecodingLaws
pub mod Encoding
pub mod LineLaws
pub mod PlaceLaws
