-- What callers cite of the crates below.
pub use Rattle.domain_desk.specs.acquire_retire as acquire_retire
pub use Rattle.domain_desk.specs.control_word as control_word
pub use Rattle.script_law.specs.plain_store as plain_store
pub use Rattle.domain_desk.specs.protocol_pairs as protocol_pairs
-- Its own.
pub mod SaidLines
pub mod Meaning
pub mod Domains
