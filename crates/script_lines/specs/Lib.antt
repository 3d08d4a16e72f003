-- What callers cite of the crates below.
pub use Rattle.line_words.specs as line_words
-- Its own.
pub mod Names
pub mod Spelling
pub mod Verbs
