mod Channels
mod Arrivals
