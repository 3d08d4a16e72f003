pub mod Views
pub mod Cache
pub mod Deeds
pub mod Kept
pub mod Makes
pub mod Calls
