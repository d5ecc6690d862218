pub mod History
pub mod Places
