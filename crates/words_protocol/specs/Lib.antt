-- What callers cite of the crates below.
pub use Rattle.words_law.specs.cdrc_text as cdrc_text
pub use Rattle.directory_law.specs as directory_law
pub use Rattle.directory_protocol.specs as directory_protocol
pub use Rattle.queue_protocol.specs.protocol_pairs as protocol_pairs
pub use Rattle.queue_law.specs as queue_law
pub use Rattle.queue_protocol.specs as queue_protocol
pub use Rattle.words_law.specs as words_law
-- Its own.
pub mod Sides
