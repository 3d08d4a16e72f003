-- What callers cite of the proofs below.
pub use Rattle.core_views.proofs.Below.core_functions_FirstBad as core_functions_FirstBad
