-- What callers cite of the crates below.
pub use Rattle.cell_law.specs as cell_law
pub use Rattle.cell_law.specs.directory_law as directory_law
pub use Rattle.cell_law.specs.plain_protocol as plain_protocol
pub use Rattle.cell_law.specs.plain_state as plain_state
