-- What callers cite of the proofs below.
pub use Rattle.script_desk.proofs.Below.script_lines_Unique as script_lines_Unique
