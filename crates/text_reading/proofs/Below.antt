-- What callers cite of the proofs below.
pub use Rattle.snapshot_ptr.proofs.Taken as snapshot_ptr_Taken
pub use Rattle.snapshot_ptr.proofs.Under as snapshot_ptr_Under
