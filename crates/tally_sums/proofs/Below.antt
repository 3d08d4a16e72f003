-- What callers cite of the proofs below.
pub use Rattle.cdrc_text.proofs.Listed as cdrc_text_Listed
pub use Rattle.cdrc_text.proofs.Unique as cdrc_text_Unique
