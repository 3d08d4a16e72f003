-- What callers cite of the proofs below.
pub use Rattle.lane_gate.proofs.Known as lane_gate_Known
