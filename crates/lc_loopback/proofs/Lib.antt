mod Back
mod Takes
mod Messages
mod Puts
