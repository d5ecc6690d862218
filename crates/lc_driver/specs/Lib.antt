pub mod Counts
pub mod Tries
pub mod Outgo
pub mod Writing
pub mod Reading
