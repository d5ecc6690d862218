pub mod Ring
pub mod Laps
pub mod Lengths
pub mod Cuts
