-- What callers cite of the proofs below.
pub use Rattle.queue_protocol.proofs.Below.queue_law_Deeds as queue_law_Deeds
pub use Rattle.queue_protocol.proofs.Below.queue_law_Effects as queue_law_Effects
pub use Rattle.queue_protocol.proofs.Below.queue_law_Kit as queue_law_Kit
pub use Rattle.queue_protocol.proofs.Below.queue_law_Lessons as queue_law_Lessons
pub use Rattle.queue_protocol.proofs.Below.queue_law_Seen as queue_law_Seen
