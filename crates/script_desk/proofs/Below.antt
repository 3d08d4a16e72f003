-- What callers cite of the proofs below.
pub use Rattle.plain_audit.proofs.Below.heap_audit_Alone as heap_audit_Alone
pub use Rattle.plain_audit.proofs.Numbers as plain_audit_Numbers
pub use Rattle.plain_settling.proofs.Settling as plain_settling_Settling
pub use Rattle.plain_audit.proofs.Below.plain_state_Changes as plain_state_Changes
pub use Rattle.plain_audit.proofs.Below.plain_state_EveryStep as plain_state_EveryStep
pub use Rattle.plain_audit.proofs.Below.plain_state_Kit as plain_state_Kit
pub use Rattle.plain_audit.proofs.Below.plain_state_PlaceRows as plain_state_PlaceRows
pub use Rattle.plain_audit.proofs.Below.plain_state_SeatRows as plain_state_SeatRows
pub use Rattle.plain_audit.proofs.Below.plain_state_SlotRows as plain_state_SlotRows
pub use Rattle.plain_audit.proofs.Below.plain_state_Start as plain_state_Start
pub use Rattle.plain_settling.proofs.Below.plain_store_Making as plain_store_Making
pub use Rattle.script_lines.proofs.Unique as script_lines_Unique
