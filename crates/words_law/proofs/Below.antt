-- What callers cite of the proofs below.
pub use Rattle.cdrc_text.proofs.Reported as cdrc_text_Reported
pub use Rattle.cdrc_text.proofs.Unique as cdrc_text_Unique
pub use Rattle.directory_law.proofs.Bytes as directory_law_Bytes
pub use Rattle.directory_law.proofs.Chains as directory_law_Chains
pub use Rattle.directory_law.proofs.Gives as directory_law_Gives
pub use Rattle.directory_law.proofs.Kept as directory_law_Kept
pub use Rattle.directory_law.proofs.Kit as directory_law_Kit
pub use Rattle.directory_law.proofs.Notes as directory_law_Notes
pub use Rattle.queue_law.proofs.Cycles as queue_law_Cycles
pub use Rattle.queue_law.proofs.Kit as queue_law_Kit
pub use Rattle.queue_law.proofs.Leave as queue_law_Leave
pub use Rattle.queue_law.proofs.Notes as queue_law_Notes
pub use Rattle.queue_law.proofs.Orders as queue_law_Orders
pub use Rattle.queue_law.proofs.Shut as queue_law_Shut
pub use Rattle.queue_law.proofs.Start as queue_law_Start
