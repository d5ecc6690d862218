pub mod Mux
pub mod Ends
pub mod Flushing
pub mod Writing
pub mod Calls
pub mod History
