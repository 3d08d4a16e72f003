-- The lemmas that the contracts stand on.
pub mod Readings
pub mod Words
pub mod Places
pub mod Names
pub mod ShortRows
pub mod Rows
pub mod Lines
pub mod UniqueWords
pub mod Unique
