-- What callers cite of the proofs below.
pub use Rattle.deleter.proofs.Below.plain_state_Changes as plain_state_Changes
pub use Rattle.deleter.proofs.Below.plain_state_EveryStep as plain_state_EveryStep
pub use Rattle.deleter.proofs.Below.plain_state_Kit as plain_state_Kit
pub use Rattle.deleter.proofs.Below.plain_state_PlaceRows as plain_state_PlaceRows
pub use Rattle.deleter.proofs.Below.plain_state_SeatRows as plain_state_SeatRows
pub use Rattle.deleter.proofs.Below.plain_state_SlotLaw as plain_state_SlotLaw
pub use Rattle.deleter.proofs.Below.plain_state_SlotRows as plain_state_SlotRows
pub use Rattle.deleter.proofs.Below.plain_state_Start as plain_state_Start
