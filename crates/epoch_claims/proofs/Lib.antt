pub mod Going
pub mod Counting
pub mod Claiming
pub mod Given
pub mod Shown
pub mod Taken
