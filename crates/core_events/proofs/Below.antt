-- What callers cite of the proofs below.
pub use Rattle.announce_slots.proofs.Counting as announce_slots_Counting
pub use Rattle.announce_slots.proofs.Staying as announce_slots_Staying
pub use Rattle.announce_slots.proofs.Below.plain_state_Ejections as plain_state_Ejections
pub use Rattle.announce_slots.proofs.Below.plain_state_Kit as plain_state_Kit
