pub mod Moves
pub mod Seats
mod Ends
