pub mod Admitting
pub mod Limits
pub mod Pieces
pub mod Sums
