pub mod Histories
mod Steps
mod Seats
mod Targets
mod Kept
mod Settled
pub mod Channels
