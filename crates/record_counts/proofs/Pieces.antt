-- The payloads of what lives: sixteen words, the first of which isn't 0.
use Rattle.std.proofs.Common.{◌≡◌, ⊎_elim, ℕ, List, [], ◌∷◌, length, subst}
use Rattle.plain_audit.specs.plain_state.declared.slot.SlotId.{SlotId}
use Rattle.plain_audit.specs.plain_state.Lawful.{Lawful}
use Rattle.plain_audit.specs.plain_state.State.{Plain, slot_at}
use Rattle.directory_law.specs.Bytes.{IsPiece}
use Rattle.directory_law.specs.Chains.{Along}
use Rattle.directory_law.specs.Payloads.{Text}
use Rattle.directory_law.specs.Views.{Each}
use Rattle.directory_law.proofs.Bytes.{piece_own}
use Rattle.directory_law.proofs.Chains.{second_live}
use Rattle.record_counts.specs.Records.{HoldsRecords}
use Rattle.record_counts.proofs.Lengths.{IsFull}

piece_words : (payload : List ℕ) → IsPiece payload → length payload ≡ 16
piece_words payload is = ⊎_elim
    (λ head. head.2.words)
    (λ part. part.2.words)
    is.2

pub piece_full : (payload : List ℕ) → IsPiece payload → IsFull payload
piece_full payload is = (piece_words payload is, piece_own payload is)

pub pieces_full : (ts : Text) → Each IsPiece ts → Each IsFull ts
pieces_full [] are = tt
pieces_full (t ∷ ts) are = (piece_full t are.0, pieces_full ts are.1)

pub along_full : (p : Plain) → Lawful p → HoldsRecords p → (x : SlotId) (ts : Text)
    → Along p (slot_at p x).second ts → Each IsFull ts
along_full p lawful holds x [] along = tt
along_full p lawful holds x (t ∷ ts) along =
    let s = along.0 in
    let live = second_live p x s lawful along.1 in
    let full = piece_full (slot_at p s).payload (holds.pieces s live) in
    (subst IsFull along.2 full, along_full p lawful holds s ts along.4)
