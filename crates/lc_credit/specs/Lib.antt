pub mod History
pub mod Rule
pub mod Sides
pub mod Channels
pub mod Targets
