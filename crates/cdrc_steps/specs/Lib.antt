pub mod Ranges
pub mod Runnings
pub mod Meaning
