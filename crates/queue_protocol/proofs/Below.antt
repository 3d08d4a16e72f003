-- What callers cite of the proofs below.
pub use Rattle.queue_law.proofs.Calm as queue_law_Calm
pub use Rattle.queue_law.proofs.Chain as queue_law_Chain
pub use Rattle.queue_law.proofs.Deeds as queue_law_Deeds
pub use Rattle.queue_law.proofs.Effects as queue_law_Effects
pub use Rattle.queue_law.proofs.Kit as queue_law_Kit
pub use Rattle.queue_law.proofs.Lessons as queue_law_Lessons
pub use Rattle.queue_law.proofs.Notes as queue_law_Notes
pub use Rattle.queue_law.proofs.Seen as queue_law_Seen
pub use Rattle.queue_law.proofs.Whole as queue_law_Whole
