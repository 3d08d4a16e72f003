-- What callers cite of the proofs of the crates below.
pub use Rattle.cell_law.proofs.Distinct as cell_law_Distinct
pub use Rattle.cell_law.proofs.Kit as cell_law_Kit
pub use Rattle.cell_law.proofs.Rest as cell_law_Rest
pub use Rattle.record_counts.proofs.Below.directory_law_Bytes as directory_law_Bytes
pub use Rattle.record_counts.proofs.Below.directory_law_Notes as directory_law_Notes
pub use Rattle.plain_audit.proofs.Auditing as plain_audit_Auditing
pub use Rattle.plain_audit.proofs.Below.plain_state_Kit as plain_state_Kit
pub use Rattle.record_counts.proofs.Joined as record_counts_Joined
pub use Rattle.record_counts.proofs.Told as record_counts_Told
