-- What callers cite of the proofs below.
pub use Rattle.protected_loads.proofs.Checking as protected_loads_Checking
pub use Rattle.protected_loads.proofs.Looking as protected_loads_Looking
pub use Rattle.protected_loads.proofs.Noting as protected_loads_Noting
pub use Rattle.protected_loads.proofs.Protecting as protected_loads_Protecting
pub use Rattle.protected_loads.proofs.Telling as protected_loads_Telling
pub use Rattle.atomic_shared.proofs.Below.retiring_stores_Opened as retiring_stores_Opened
