-- What callers cite of the proofs below.
pub use Rattle.counter_word.proofs.Bits as counter_word_Bits
