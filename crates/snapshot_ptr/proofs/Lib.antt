pub mod Below
pub mod Under
pub mod Staying
pub mod Taken
pub mod Released
