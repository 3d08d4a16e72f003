pub mod Opened
pub mod Kept
pub mod Enclosed
pub mod Seen
pub mod Returned
pub mod Joined
pub mod Still
pub mod TextsKept
