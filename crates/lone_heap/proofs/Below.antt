-- What callers cite of the proofs below.
pub use Rattle.slot_store.proofs.Below.acquire_retire_Wholes as acquire_retire_Wholes
