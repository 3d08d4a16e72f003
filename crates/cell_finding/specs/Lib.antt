-- What callers cite of the crates below.
pub use Rattle.cell_calls.specs as cell_calls
pub use Rattle.record_texts.specs as record_texts
-- Its own.
pub mod Sought
pub mod Looking
pub mod Finding
pub mod Comparing
