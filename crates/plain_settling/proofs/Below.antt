-- What callers cite of the proofs below.
pub use Rattle.plain_store.proofs.Making as plain_store_Making
