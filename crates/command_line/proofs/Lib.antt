-- The lemmas that the contracts stand on.
pub mod Rules
pub mod Rows
pub mod Reading
pub mod Walks
pub mod Turns
pub mod WalkReads
pub mod Spelling
pub mod Lines
pub mod Matches
pub mod Given
pub mod Plain
pub mod Meanings
pub mod Commands
pub mod OneLine
pub mod OneRequest
