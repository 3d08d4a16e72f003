-- What callers cite of the proofs below.
pub use Rattle.record_making.proofs.Below.directory_calls_Going as directory_calls_Going
pub use Rattle.record_making.proofs.Below.directory_calls_Learnt as directory_calls_Learnt
pub use Rattle.record_making.proofs.Dropped as record_making_Dropped
pub use Rattle.text_reading.proofs.Below.snapshot_ptr_Taken as snapshot_ptr_Taken
pub use Rattle.text_reading.proofs.Below.snapshot_ptr_Under as snapshot_ptr_Under
pub use Rattle.text_reading.proofs.LetGo as text_reading_LetGo
