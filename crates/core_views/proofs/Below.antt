-- What callers cite of the proofs below.
pub use Rattle.core_functions.proofs.FirstBad as core_functions_FirstBad
