pub mod Within
pub mod Changing
pub mod Called
