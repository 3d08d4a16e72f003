-- What callers cite of the crates below.
pub use Rattle.retiring_stores.specs.acquire_retire as acquire_retire
pub use Rattle.claim_law.specs as claim_law
pub use Rattle.retiring_stores.specs.control_word as control_word
pub use Rattle.claim_law.specs.core_events as core_events
pub use Rattle.retiring_stores.specs.counted_handles as counted_handles
pub use Rattle.deleter.specs as deleter
pub use Rattle.retiring_stores.specs.domain_rule as domain_rule
pub use Rattle.protocol_pairs.specs as protocol_pairs
pub use Rattle.retiring_stores.specs as retiring_stores
-- Its own.
pub mod Searching
pub mod Turns
pub mod Calls
pub mod Reaping
pub mod Settling
pub mod Spending
pub mod Leftovers
