-- What callers cite of the crates below.
pub use Rattle.directory_calls.specs as directory_calls
pub use Rattle.directory_calls.specs.directory_law as directory_law
pub use Rattle.directory_calls.specs.directory_protocol as directory_protocol
pub use Rattle.slot_store.specs.protocol_pairs as protocol_pairs
pub use Rattle.record_texts.specs.Texts as Texts
pub use Rattle.slot_store.specs as slot_store
-- Its own.
pub mod Making
pub mod UnlessRipe
