pub mod Parts
pub mod Rule
pub mod Passes
pub mod Opened
