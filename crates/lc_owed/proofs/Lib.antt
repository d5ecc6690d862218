pub mod Books
pub mod First
pub mod Went
pub mod Standing
pub mod Dropped
