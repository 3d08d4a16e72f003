-- What a walk looks for, and short texts.
use Rattle.std.proofs.Common.{◌≡◌, ℕ, ◌<◌, ◌≤◌, ◌-◌, ◌^◌, List, [], ◌∷◌, drop, length, take, refl, sym, ap, ◌∙◌, arith}
use Rattle.std.specs.Prelude.{slice_index_or}
use Rattle.record_making.specs.directory_law.Payloads.{IsRest, IsText, Text, size}
use Rattle.record_making.specs.directory_law.Places.{hash_on}
use Rattle.record_making.proofs.Below.directory_law_Bytes.{text_place}
use Rattle.record_making.specs.Texts.{parts_after, parts_of, payload_of, text_of}
use Rattle.record_making.proofs.Below.record_texts_Packed.{begins_so, bytes_small, is_text_of, packs}
use Rattle.weak_intern.specs.Sought.{IsSought}

-- nothing follows a head that tells at most 120 bytes
no_rest : (n : ℕ) (tail : Text) → n ≡ 0 → IsRest n tail → tail ≡ []
no_rest n [] none is = refl
no_rest n (t ∷ ts) none is = absurd (omega (arith, none, is.1.1, is.1.3))

pub short_text : (head : List ℕ) (tail : Text) → size head ≤ 120 → IsText (head ∷ tail)
    → tail ≡ []
short_text head tail short is = no_rest (size head - 120) tail (omega (arith, short)) is.1

-- WHAT A WALK looks for that is for these bytes
pub sought_is : (bytes head : List ℕ) (hash : ℕ) → ((i : ℕ) → slice_index_or bytes i 0 < 256)
    → 1 ≤ length bytes → length bytes ≤ 4096 → head ≡ payload_of (length bytes) (take 120 bytes)
    → hash ≡ hash_on 0 bytes → hash < 2 ^ 32 → IsSought bytes head hash
sought_is bytes head hash small some most heads hashes low =
    let p = packs (length bytes) (take 120 bytes) in
    let text = is_text_of bytes some most in record {
      small_bytes = bytes_small bytes small;
      text = text;
      begins = (parts_of (parts_after (length bytes)) (drop 120 bytes), begins_so bytes head heads);
      words = ap length heads ∙ p.words;
      size = ap size heads ∙ p.size;
      place = text_place bytes (text_of bytes) (bytes_small bytes small) text ∙ sym hashes;
      small = low;
    }
