pub mod Played
pub mod Rings
