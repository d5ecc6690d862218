pub mod Puts
pub mod Gives
pub mod Called
pub mod Closed
pub mod Continued
