pub mod Places
pub mod PlaceMap
