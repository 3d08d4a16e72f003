-- What callers cite of the proofs below.
pub use Rattle.eject_scan.proofs.Announcements as eject_scan_Announcements
pub use Rattle.core_events.proofs.Below.plain_state_Kit as plain_state_Kit
