pub mod Uses
pub mod Outbox
pub mod Calls
pub mod Honours
