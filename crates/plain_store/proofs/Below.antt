-- What callers cite of the proofs below.
pub use Rattle.plain_state.proofs.Kit as plain_state_Kit
