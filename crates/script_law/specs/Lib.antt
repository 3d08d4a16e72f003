-- What callers cite of the crates below.
pub use Rattle.script_desk.specs.deleter as deleter
pub use Rattle.script_desk.specs.plain_protocol as plain_protocol
pub use Rattle.script_desk.specs.plain_state as plain_state
pub use Rattle.script_desk.specs.plain_store as plain_store
pub use Rattle.script_desk.specs as script_desk
pub use Rattle.script_desk.specs.script_lines as script_lines
-- Its own.
pub mod Renamings
pub mod States
pub mod Desks
pub mod Orderly
pub mod SaidAlike
