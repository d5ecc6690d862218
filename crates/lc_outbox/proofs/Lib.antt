pub mod Uses
mod Kept
mod Honoured
