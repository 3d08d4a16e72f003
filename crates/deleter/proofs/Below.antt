-- What callers cite of the proofs below.
pub use Rattle.plain_state.proofs.Changes as plain_state_Changes
pub use Rattle.plain_state.proofs.Ejections as plain_state_Ejections
pub use Rattle.plain_state.proofs.EveryStep as plain_state_EveryStep
pub use Rattle.plain_state.proofs.Kit as plain_state_Kit
pub use Rattle.plain_state.proofs.PlaceRows as plain_state_PlaceRows
pub use Rattle.plain_state.proofs.SeatRows as plain_state_SeatRows
pub use Rattle.plain_state.proofs.SlotLaw as plain_state_SlotLaw
pub use Rattle.plain_state.proofs.SlotRows as plain_state_SlotRows
pub use Rattle.plain_state.proofs.Start as plain_state_Start
