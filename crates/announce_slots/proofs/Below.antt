-- What callers cite of the proofs below.
pub use Rattle.plain_state.proofs.Below.counter_word_Bits as counter_word_Bits
pub use Rattle.plain_state.proofs.Ejections as plain_state_Ejections
pub use Rattle.plain_state.proofs.Kit as plain_state_Kit
