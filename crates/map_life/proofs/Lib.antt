pub mod Left
pub mod Played
pub mod Tidied
