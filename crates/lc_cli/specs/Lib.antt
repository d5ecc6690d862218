pub mod Fault
pub mod Fields
pub mod Input
pub mod Lines
pub mod Listed
pub mod Options
pub mod Replayed
pub mod Script
