pub mod Shares
pub mod Files
pub mod Told
pub mod Bytes
pub mod Heads
pub mod Taken
pub mod Leaving
pub mod Alone
