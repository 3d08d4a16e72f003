-- Whether a text that was read is the one that is sought.
use Rattle.std.proofs.Common.{◌≡◌, ◌≢◌, ℕ, ◌<◌, ◌≤◌, List, [], ◌∷◌, ◌++◌, length, sym, ap, subst, ◌∙◌, arith}
use Rattle.std.specs.Prelude.{◌↔◌, Bool, true}
use Rattle.std.specs.Cmp.{unsigned_Decides}
use Rattle.std.proofs.lemmas.Slice.Eq.{slice_eq-Decides}
use Rattle.std.specs.Str.{bytes_eq}
use Rattle.record_making.specs.directory_law.Payloads.{IsHead, IsText, Text}
use Rattle.record_making.specs.directory_law.Bytes.{AreBytes, IsTextOf, text_bytes}
use Rattle.record_making.specs.directory_law.Walks.{NotPrefix}
use Rattle.record_making.proofs.Below.directory_law_Bytes.{one_text, text_tells}
use Rattle.record_making.proofs.Below.directory_law_Ends.{append_none, text_ends}
use Rattle.text_reading.specs.Reading.{AreBytesOf}
use Rattle.text_reading.proofs.Pieces.{bytes_have_text}
use Rattle.record_making.specs.Texts.{text_of}
use Rattle.weak_intern.specs.Sought.{HasPieces, IsSought}

-- some bytes have a text only where they are 1 to 4096
text_length : (bytes : List ℕ) (text : Text) → IsTextOf bytes text
    → (0 < length bytes) × (length bytes ≤ 4096)
text_length bytes [] is = absurd is
text_length bytes (t ∷ ts) is = (is.0, is.1)

pub head_sought : (bytes head : List ℕ) (hash : ℕ) → IsSought bytes head hash → IsHead head
head_sought bytes head hash sought =
    let n = text_length bytes (text_of bytes) sought.text in
    let some = n.0 in let most = n.1 in let s = sought.size in
    (omega (arith, some, s), omega (arith, most, s))

-- its bytes are those of the sought one just where it is this text
pub same_text : (fits : List ℕ → Type 0) → HasPieces fits → (bytes sought : List ℕ) (read : Text)
    → IsText read → AreBytesOf fits bytes read → AreBytes sought
    → IsTextOf sought (text_of sought) → (r : Bool) → r ≡ bytes_eq bytes sought
    → (r ≡ true) ↔ (read ≡ text_of sought)
same_text fits pieces bytes sought read is are small text r answers =
    let decides = slice_eq-Decides unsigned_Decides bytes sought r answers in (
      λ yes. one_text sought read (text_of sought)
          (subst (λ (b : List ℕ). IsTextOf b read) (decides.0 yes)
          (bytes_have_text fits pieces bytes read is are))
          text,
      λ same. decides.1
          (are.same ∙ (ap text_bytes same ∙ text_tells sought (text_of sought) small text)),
    )

-- a whole text that isn't the sought one doesn't begin it
pub not_prefix : (read text : Text) → IsText read → IsText text → read ≢ text → NotPrefix read text
not_prefix read text whole is other rest same =
    let nil : rest ≡ [] = text_ends read rest whole (subst IsText same is) in
    other (sym (same ∙ (ap (λ (t : Text). read ++ t) nil ∙ append_none read)))
