-- What callers cite of the crates below.
pub use Rattle.plain_protocol.specs as plain_protocol
pub use Rattle.plain_protocol.specs.plain_state as plain_state
-- Its own.
pub mod Shares
pub mod Spared
pub mod Parts
pub mod Weights
pub mod Foreign
pub mod Both
pub mod Sides
pub mod Untouched
pub mod Apart
pub mod Values
