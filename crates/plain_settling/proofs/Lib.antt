pub mod Below
pub mod Settling
pub mod Taking
