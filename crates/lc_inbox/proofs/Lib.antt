mod Ends
mod Histories
mod Steps
mod Calls
mod Takes
pub mod Seven
pub mod Order
pub mod Places
