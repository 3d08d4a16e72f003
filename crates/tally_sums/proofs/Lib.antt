pub mod Below
pub mod Joined
pub mod Ordered
pub mod Steps
pub mod SumsMade
