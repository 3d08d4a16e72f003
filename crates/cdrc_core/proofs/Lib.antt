pub mod Below
pub mod FirstBad
pub mod InRange
pub mod Leaving
pub mod Replaying
pub mod Starting
pub mod Starts
pub mod Stays
