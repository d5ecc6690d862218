pub mod Pending
pub mod Policy
pub mod Owed
pub mod Due
pub mod Flush
pub mod Standing
