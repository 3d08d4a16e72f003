-- What callers cite of the crates below.
pub use Rattle.map_law.specs as map_law
pub use Rattle.plain_audit.specs as plain_audit
-- Its own.
pub mod Rest
