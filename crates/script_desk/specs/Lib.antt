-- What callers cite of the crates below.
pub use Rattle.plain_audit.specs.deleter as deleter
pub use Rattle.plain_audit.specs.heap_audit as heap_audit
pub use Rattle.script_lines.specs.line_words as line_words
pub use Rattle.plain_audit.specs as plain_audit
pub use Rattle.plain_audit.specs.plain_protocol as plain_protocol
pub use Rattle.plain_settling.specs as plain_settling
pub use Rattle.plain_audit.specs.plain_state as plain_state
pub use Rattle.plain_settling.specs.plain_store as plain_store
pub use Rattle.script_lines.specs as script_lines
-- Its own.
pub mod Handles
pub mod Kinds
pub mod Holding
pub mod Desks
pub mod Faults
pub mod Audits
pub mod Effects
pub mod Tables
pub mod Places
