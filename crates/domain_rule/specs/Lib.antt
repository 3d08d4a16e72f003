-- What callers cite of the crates below.
pub use Rattle.plain_protocol.specs as plain_protocol
-- Its own.
pub mod Views
pub mod Past
pub mod Rule
pub mod Told
pub mod Opening
pub mod Reading
