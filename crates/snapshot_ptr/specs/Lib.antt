-- What callers cite of the crates below.
pub use Rattle.protected_loads.specs.plain_protocol as plain_protocol
pub use Rattle.protected_loads.specs.plain_state as plain_state
pub use Rattle.protected_loads.specs as protected_loads
-- Its own.
pub mod Handles
pub mod Taking
pub mod Ending
