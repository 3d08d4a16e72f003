pub mod Below
pub mod Watched
