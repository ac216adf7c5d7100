pub mod CountLaws
pub mod FateLaws
pub mod KeyLaws
pub mod ListLaws
pub mod MangleLaws
pub mod PlaceLaws
pub mod RoomLaws
pub mod TakenLaws
