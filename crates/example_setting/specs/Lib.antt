pub mod Calls
pub mod Views
pub mod Setting
pub mod Deeds
pub mod Kept
pub mod Leave
pub mod Makes
