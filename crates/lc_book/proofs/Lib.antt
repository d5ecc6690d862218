pub mod SumsKept
pub mod TakesKept
pub mod ValidFrames
pub mod Lanes
