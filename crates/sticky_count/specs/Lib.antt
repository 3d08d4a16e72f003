pub mod Views
pub mod History
pub mod Sound
pub mod Running
pub mod Calls
pub mod Seats
pub mod Ending
