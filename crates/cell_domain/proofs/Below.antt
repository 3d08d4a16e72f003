-- What callers cite of the proofs below.
pub use Rattle.lane_work.proofs.Limits as lane_work_Limits
pub use Rattle.lane_work.proofs.Sums as lane_work_Sums
