-- What callers cite of the proofs below.
pub use Rattle.plain_protocol.proofs.Calm as plain_protocol_Calm
