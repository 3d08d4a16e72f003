-- What callers cite of the proofs below.
pub use Rattle.core_events.proofs.Below.announce_slots_Counting as announce_slots_Counting
pub use Rattle.core_events.proofs.Below.announce_slots_Staying as announce_slots_Staying
pub use Rattle.core_events.proofs.Below.plain_state_Kit as plain_state_Kit
