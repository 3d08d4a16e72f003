-- What callers cite of the proofs below.
pub use Rattle.core_functions.proofs.FirstBad as core_functions_FirstBad
pub use Rattle.core_functions.proofs.Snapshots as core_functions_Snapshots
pub use Rattle.core_functions.proofs.Below.eject_scan_Announcements as eject_scan_Announcements
