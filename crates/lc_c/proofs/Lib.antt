mod AsBox
mod AsMuxBox
pub mod Barred
pub mod Waiting
pub mod Gives
pub mod Called
pub mod Delivered
