-- What callers cite of the proofs below.
pub use Rattle.plain_state.proofs.Ejections as plain_state_Ejections
pub use Rattle.plain_state.proofs.Kit as plain_state_Kit
