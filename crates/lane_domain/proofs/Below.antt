-- What callers cite of the proofs below.
pub use Rattle.lane_files.proofs.Below.directory_calls_Going as directory_calls_Going
pub use Rattle.lane_files.proofs.Below.directory_calls_Learnt as directory_calls_Learnt
pub use Rattle.lane_files.proofs.Copied as lane_files_Copied
pub use Rattle.lane_files.proofs.Giving as lane_files_Giving
pub use Rattle.lane_files.proofs.Missing as lane_files_Missing
pub use Rattle.lane_files.proofs.Offered as lane_files_Offered
pub use Rattle.lane_files.proofs.Owning as lane_files_Owning
pub use Rattle.lane_files.proofs.PiecesCounted as lane_files_PiecesCounted
pub use Rattle.lane_files.proofs.Pushed as lane_files_Pushed
pub use Rattle.lane_files.proofs.Scanned as lane_files_Scanned
pub use Rattle.lane_files.proofs.SeatsKept as lane_files_SeatsKept
pub use Rattle.lane_files.proofs.Tidied as lane_files_Tidied
pub use Rattle.lane_files.proofs.Below.lane_gate_Known as lane_gate_Known
pub use Rattle.lane_files.proofs.Below.lane_work_Limits as lane_work_Limits
pub use Rattle.lane_files.proofs.Below.lane_work_Pieces as lane_work_Pieces
pub use Rattle.lane_files.proofs.Below.lane_work_Sums as lane_work_Sums
