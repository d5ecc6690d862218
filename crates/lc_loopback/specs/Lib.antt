pub mod Plan
pub mod Played
pub mod Ends
