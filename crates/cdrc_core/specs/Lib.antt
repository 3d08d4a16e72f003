pub mod Replays
pub mod State
pub mod Kept
