pub mod Whole
pub mod Alone
pub mod Resting
pub mod Paying
pub mod Staying
pub mod Below
