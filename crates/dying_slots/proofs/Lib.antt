pub mod Below
pub mod Waiting
mod Turning
