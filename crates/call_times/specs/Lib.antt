pub mod Interning
pub mod Requests
