pub mod Lists
pub mod Joins
pub mod Changing
pub mod Sizes
pub mod Nexts
pub mod OneKey
pub mod Counting
