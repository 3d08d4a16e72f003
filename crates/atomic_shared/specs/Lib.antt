-- What callers cite of the crates below.
pub use Rattle.protected_loads.specs.plain_protocol as plain_protocol
pub use Rattle.protected_loads.specs.plain_state as plain_state
pub use Rattle.protected_loads.specs as protected_loads
pub use Rattle.retiring_stores.specs as retiring_stores
-- Its own.
pub mod Places
pub mod Loading
