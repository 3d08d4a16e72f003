-- The lemmas that the contracts stand on.
pub mod Counted
pub mod Digits
pub mod Indexed
pub mod Reading
pub mod Unique
