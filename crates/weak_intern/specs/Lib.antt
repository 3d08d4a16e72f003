-- What callers cite of the crates below.
pub use Rattle.record_making.specs.directory_calls as directory_calls
pub use Rattle.record_making.specs.directory_law as directory_law
pub use Rattle.record_making.specs.directory_protocol as directory_protocol
pub use Rattle.record_making.specs as record_making
pub use Rattle.text_reading.specs.snapshot_ptr as snapshot_ptr
pub use Rattle.text_reading.specs as text_reading
-- Its own.
pub mod Sought
pub mod Seeing
pub mod Sighting
pub mod Costs
pub mod Knowing
pub mod Races
pub mod Walking
pub mod Interning
pub mod Drawing
