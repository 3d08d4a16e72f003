pub mod Pasts
pub mod Putting
pub mod Readings
pub mod Storings
