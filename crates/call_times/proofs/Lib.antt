pub mod Opened
pub mod Seats
pub mod Words
