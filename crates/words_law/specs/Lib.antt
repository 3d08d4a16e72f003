-- What callers cite of the crates below.
pub use Rattle.cdrc_text.specs as cdrc_text
pub use Rattle.directory_law.specs as directory_law
pub use Rattle.protocol_pairs.specs as protocol_pairs
pub use Rattle.queue_law.specs as queue_law
-- Its own.
pub mod Views
pub mod Law
pub mod Pushes
pub mod Reading
pub mod Owned
pub mod Texts
pub mod Known
pub mod Fold
