-- What callers cite of the crates below.
pub use Rattle.heap_audit.specs.deleter as deleter
pub use Rattle.heap_audit.specs as heap_audit
pub use Rattle.cdrc_plain.specs.plain_protocol as plain_protocol
pub use Rattle.heap_audit.specs.plain_state as plain_state
pub use Rattle.cdrc_plain.specs.plain_store as plain_store
-- Its own.
pub mod Reached
pub mod Audits
