-- What callers cite of the proofs below.
pub use Rattle.control_word.proofs.Beginning as control_word_Beginning
pub use Rattle.control_word.proofs.Below.core_law_Each as core_law_Each
pub use Rattle.weak_intern.proofs.Below.directory_calls_Going as directory_calls_Going
pub use Rattle.weak_intern.proofs.Below.directory_calls_Learnt as directory_calls_Learnt
pub use Rattle.lane_gate.proofs.Known as lane_gate_Known
pub use Rattle.hand_queues.proofs.Below.slot_store_Exhausting as slot_store_Exhausting
pub use Rattle.lane_work.proofs.Limits as lane_work_Limits
pub use Rattle.lane_work.proofs.Pieces as lane_work_Pieces
pub use Rattle.lane_work.proofs.Sums as lane_work_Sums
