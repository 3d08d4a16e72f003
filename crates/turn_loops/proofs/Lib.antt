pub mod Below
pub mod Copying
pub mod Counting
pub mod Placings
