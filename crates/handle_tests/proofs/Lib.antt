pub mod Within
pub mod Changing
pub mod Called
pub mod Looked
pub mod Opened
