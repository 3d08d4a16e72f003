-- What callers cite of the proofs below.
pub use Rattle.lane_domain.proofs.Below.lane_gate_Known as lane_gate_Known
