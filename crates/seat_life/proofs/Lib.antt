pub mod Settling
pub mod Learned
pub mod Beginning
pub mod Rests
pub mod Given
pub mod Noted
pub mod Refused
