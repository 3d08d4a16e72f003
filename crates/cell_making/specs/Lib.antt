-- What callers cite of the crates below.
pub use Rattle.cell_calls.specs as cell_calls
pub use Rattle.control_word.specs.counted_handles as counted_handles
pub use Rattle.epoch_refs.specs as epoch_refs
pub use Rattle.record_texts.specs.Texts as Texts
-- Its own.
pub mod Making
pub mod Bindings
