pub mod Told
pub mod Joining
pub mod Settled
pub mod KeptWords
pub mod Left
pub mod Below
