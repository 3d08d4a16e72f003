-- What callers cite of the proofs below.
pub use Rattle.file_work.proofs.Below.lane_gate_Known as lane_gate_Known
pub use Rattle.file_work.proofs.Refusing as file_work_Refusing
pub use Rattle.file_work.proofs.Told as file_work_Told
