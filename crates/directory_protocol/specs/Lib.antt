-- What callers cite of the crates below.
pub use Rattle.directory_law.specs as directory_law
pub use Rattle.protocol_pairs.specs as protocol_pairs
-- Its own.
pub mod Keeping
