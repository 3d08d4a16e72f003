-- What callers cite of the proofs below.
pub use Rattle.protected_loads.proofs.Learning as protected_loads_Learning
pub use Rattle.protected_loads.proofs.Noting as protected_loads_Noting
pub use Rattle.protected_loads.proofs.Telling as protected_loads_Telling
pub use Rattle.retiring_stores.proofs.Afterwards as retiring_stores_Afterwards
pub use Rattle.retiring_stores.proofs.Opened as retiring_stores_Opened
