-- What callers cite of the proofs below.
pub use Rattle.core_promises.proofs.Below.announce_slots_Counting as announce_slots_Counting
pub use Rattle.core_promises.proofs.Below.core_law_Always as core_law_Always
pub use Rattle.core_promises.proofs.Below.core_law_Bridge as core_law_Bridge
pub use Rattle.core_promises.proofs.Below.core_law_Each as core_law_Each
pub use Rattle.core_promises.proofs.Below.core_law_Events as core_law_Events
pub use Rattle.core_promises.proofs.Below.core_law_Held as core_law_Held
pub use Rattle.core_promises.proofs.Below.core_law_Kit as core_law_Kit
pub use Rattle.core_promises.proofs.Below.core_law_Lawful as core_law_Lawful
pub use Rattle.core_promises.proofs.Below.core_law_Lists as core_law_Lists
pub use Rattle.core_promises.proofs.Below.core_law_Parts as core_law_Parts
pub use Rattle.core_promises.proofs.Below.core_law_Ripening as core_law_Ripening
pub use Rattle.core_promises.proofs.Below.core_law_ShownPlaces as core_law_ShownPlaces
pub use Rattle.core_promises.proofs.Below.core_law_Steady as core_law_Steady
pub use Rattle.core_promises.proofs.Below.core_law_Trails as core_law_Trails
pub use Rattle.core_promises.proofs.Destroys as core_promises_Destroys
