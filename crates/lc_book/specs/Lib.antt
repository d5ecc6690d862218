pub mod Fault
pub mod Limit
pub mod Finish
pub mod Client
pub mod Server
pub mod Sums
