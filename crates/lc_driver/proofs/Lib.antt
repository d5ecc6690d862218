pub mod Counting
pub mod Tries
pub mod Frames
pub mod Written
pub mod Arrived
