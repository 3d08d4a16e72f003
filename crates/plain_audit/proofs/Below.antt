-- What callers cite of the proofs below.
pub use Rattle.heap_audit.proofs.Alike as heap_audit_Alike
pub use Rattle.heap_audit.proofs.Alone as heap_audit_Alone
pub use Rattle.heap_audit.proofs.Going as heap_audit_Going
pub use Rattle.heap_audit.proofs.Leasts as heap_audit_Leasts
pub use Rattle.cdrc_plain.proofs.Below.plain_protocol_Calm as plain_protocol_Calm
pub use Rattle.heap_audit.proofs.Below.plain_state_Changes as plain_state_Changes
pub use Rattle.heap_audit.proofs.Below.plain_state_EveryStep as plain_state_EveryStep
pub use Rattle.heap_audit.proofs.Below.plain_state_Kit as plain_state_Kit
pub use Rattle.heap_audit.proofs.Below.plain_state_PlaceRows as plain_state_PlaceRows
pub use Rattle.heap_audit.proofs.Below.plain_state_SeatRows as plain_state_SeatRows
pub use Rattle.heap_audit.proofs.Below.plain_state_SlotRows as plain_state_SlotRows
pub use Rattle.heap_audit.proofs.Below.plain_state_Start as plain_state_Start
