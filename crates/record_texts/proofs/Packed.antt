-- The text that some bytes have is theirs.
use Rattle.std.proofs.Common.{◌≡◌, inl, inr, ⊎_elim, ℕ, zero, suc, ◌+◌, ◌-◌, ◌*◌, ◌<◌, ◌≤◌, List, [], ◌∷◌, length, take, drop, get_or, refl, sym, ap, subst, ◌∙◌, arith}
use Rattle.std.specs.Prelude.{min, slice_index_or, slice_set}
use Rattle.std.specs.Int.{div_ceil}
use Rattle.std.proofs.lemmas.Bool.{cases_lt}
use Rattle.std.proofs.lemmas.List.{take_all, drop-drop, ext_get_or, get_or-set_other, length-drop, length-set, length-take}
use Rattle.std.proofs.lemmas.Grind.{get_or-set_at}
use Rattle.std.proofs.lemmas.List.Elements.{All-drop, All-from_get_or, All-take}
use Rattle.plain_state.specs.Records.{IsRecordOf, eight_bytes, word_of_bytes}
use Rattle.directory_law.specs.Bytes.{ArePartsOf, AreBytes, IsPiece, IsTextOf, Packs}
use Rattle.directory_law.specs.Payloads.{IsPart}
use Rattle.record_texts.specs.Texts.{part_of, parts_after, parts_of, payload_of, text_of, words_of}

-- A PAYLOAD
words_length : (n : ℕ) (bytes : List ℕ) → length (words_of n bytes) ≡ n
unfolding words_of
words_length zero bytes = refl
words_length (suc n) bytes = ap suc (words_length n (drop 8 bytes))

words_at : (n k : ℕ) (bytes : List ℕ) → k < n
    → get_or (words_of n bytes) k 0 ≡ word_of_bytes (eight_bytes bytes k)
unfolding words_of
words_at zero k bytes low = absurd (omega (arith, low))
words_at (suc n) zero bytes low = refl
words_at (suc n) (suc k) bytes low =
    let e : 8 + 8 * k ≡ 8 * suc k = omega arith in
    words_at n k (drop 8 bytes) (omega (arith, low))
    ∙ ap (λ (xs : List ℕ). word_of_bytes (take 8 xs))
    (drop-drop (8 * k) 8 bytes ∙ ap (λ (i : ℕ). drop i bytes) e)

pub packs : (n : ℕ) (bytes : List ℕ) → Packs n bytes (payload_of n bytes)
unfolding payload_of
packs n bytes = record {
  words = ap suc (words_length 15 bytes);
  size = refl;
  eights = λ k low.
      subst (λ (i : ℕ). get_or (payload_of n bytes) i 0 ≡ word_of_bytes (eight_bytes bytes k))
      (let e : suc k ≡ k + 1 = omega arith in e) (words_at 15 k bytes low);
}

-- two payloads for the same bytes are one
one_payload : (n : ℕ) (bytes t u : List ℕ) → Packs n bytes t → Packs n bytes u → t ≡ u
one_payload n bytes t u a b =
    let wa = a.words in let wb = b.words in ext_get_or 0 t u (wa ∙ sym wb) at
  where
    at : (i : ℕ) → i < length t → get_or t i 0 ≡ get_or u i 0
    at zero h = a.size ∙ sym b.size
    at (suc k) h =
        let w = a.words in
        let x = a.eights k (omega arith) in
        let y = b.eights k (omega arith) in
        subst (λ (i : ℕ). get_or t i 0 ≡ get_or u i 0)
        (let e : k + 1 ≡ suc k = omega arith in e) (x ∙ sym y)

-- a payload with another number in word 0
pub numbered : (n : ℕ) (bytes payload : List ℕ) → IsRecordOf bytes payload
    → slice_set payload 0 n ≡ payload_of n bytes
numbered n bytes payload is =
    let long = is.words in
    one_payload n bytes (slice_set payload 0 n) (payload_of n bytes)
    (record {
      words = length-set payload 0 n ∙ long;
      size = get_or-set_at payload 0 0 n 0 refl (omega arith);
      eights = λ k low.
          get_or-set_other payload 0 (k + 1) n 0 (λ e. omega (arith, e)) ∙ is.bytes k low;
    })
    (packs n bytes)

-- THE TEXT
parts_are_of : (n : ℕ) (bytes : List ℕ) → n ≡ div_ceil (length bytes) 120
    → ArePartsOf bytes (parts_of n bytes)
unfolding parts_of
parts_are_of zero bytes is = omega (arith, is)
parts_are_of (suc n) bytes is =
    let left : length (drop 120 bytes) ≡ length bytes - 120 = length-drop 120 bytes in (
      omega (arith, is),
      packs (65536 + length (take 120 bytes)) (take 120 bytes),
      parts_are_of n (drop 120 bytes) (omega (arith, is, left)),
    )

pub is_text_of : (bytes : List ℕ) → 1 ≤ length bytes → length bytes ≤ 4096
    → IsTextOf bytes (text_of bytes)
unfolding text_of
is_text_of bytes some most =
    let left : length (drop 120 bytes) ≡ length bytes - 120 = length-drop 120 bytes in (
      omega (arith, some),
      omega (arith, most),
      packs (length bytes) (take 120 bytes),
      parts_are_of (parts_after (length bytes)) (drop 120 bytes)
          (ap (λ n. div_ceil n 120) (sym left)),
    )

-- THE PIECES
pub bytes_small : (bytes : List ℕ) → ((i : ℕ) → slice_index_or bytes i 0 < 256) → AreBytes bytes
bytes_small bytes small = All-from_get_or (λ byte. byte < 256) bytes 0 (λ i inside. small i)

pub head_piece : (bytes : List ℕ) → ((i : ℕ) → slice_index_or bytes i 0 < 256)
    → 1 ≤ length bytes → length bytes ≤ 4096 → IsPiece (payload_of (length bytes) (take 120 bytes))
head_piece bytes small some most =
    let is = packs (length bytes) (take 120 bytes) in
    let s = is.size in
    let cut : length (take 120 bytes) ≡ min 120 (length bytes) = length-take 120 bytes in (
      take 120 bytes,
      All-take (λ byte. byte < 256) 120 bytes (bytes_small bytes small),
      inl (
        (omega (arith, s, some), omega (arith, s, most)),
        cut ∙ ap (min 120) (sym s),
        subst (λ (n : ℕ). Packs n (take 120 bytes) (payload_of (length bytes) (take 120 bytes)))
            (sym s) is,
      ),
    )

pub part_piece : (bytes : List ℕ) (k : ℕ) → ((i : ℕ) → slice_index_or bytes i 0 < 256)
    → k < length bytes → IsPiece (part_of (drop k bytes))
part_piece bytes k small inside =
    let rest = drop k bytes in
    let left : length (drop k bytes) ≡ length bytes - k = length-drop k bytes in
    let cut : length (take 120 rest) ≡ min 120 (length rest) = length-take 120 rest in (
      take 120 rest,
      All-take (λ byte. byte < 256) 120 rest
          (All-drop (λ byte. byte < 256) k bytes (bytes_small bytes small)),
      inr (
        omega (arith, inside, left, cut),
        omega (arith, cut),
        packs (65536 + length (take 120 rest)) (take 120 rest),
      ),
    )

part_is : (bytes : List ℕ) → 0 < length bytes → IsPart (part_of bytes)
part_is bytes some =
    let s = (packs (65536 + length (take 120 bytes)) (take 120 bytes)).size in
    let cut : length (take 120 bytes) ≡ min 120 (length bytes) = length-take 120 bytes in
    omega (arith, s, cut, some)

pub part_at_is : (bytes : List ℕ) (k : ℕ) → k < length bytes → IsPart (part_of (drop k bytes))
part_at_is bytes k inside =
    part_is (drop k bytes) (let left = length-drop k bytes in omega (arith, left, inside))

-- A HEAD
pub begins_so : (bytes head : List ℕ) → head ≡ payload_of (length bytes) (take 120 bytes)
    → text_of bytes ≡ head ∷ parts_of (parts_after (length bytes)) (drop 120 bytes)
unfolding text_of
begins_so bytes head is =
    ap (λ (h : List ℕ). h ∷ parts_of (parts_after (length bytes)) (drop 120 bytes)) (sym is)

-- a short text is its head
pub short_is : (bytes : List ℕ) → length bytes ≤ 120
    → text_of bytes ≡ payload_of (length bytes) (take 120 bytes) ∷ []
unfolding text_of parts_of
short_is bytes short =
    let e : parts_after (length bytes) ≡ 0 = omega (arith, short) in
    ap (λ n. payload_of (length bytes) (take 120 bytes) ∷ parts_of n (drop 120 bytes)) e

-- THE FIRST 120 BYTES
pub take_fewer : (n : ℕ) (bytes : List ℕ) → n ≡ min (length bytes) 120
    → take n bytes ≡ take 120 bytes
take_fewer n bytes is = ⊎_elim
    (λ (more : 120 < length bytes).
    let e : n ≡ 120 = omega (arith, is, more) in ap (λ k. take k bytes) e)
    (λ few.
    take_all n bytes (omega (arith, is, few)) ∙ sym (take_all 120 bytes (omega (arith, few))))
    (cases_lt 120 (length bytes))

pub fit : (bytes first : List ℕ) → first ≡ take 120 bytes → 1 ≤ length bytes
    → (1 ≤ length first) × (length first ≤ 120)
fit bytes first is some =
    let e = ap length is in
    let cut : length (take 120 bytes) ≡ min 120 (length bytes) = length-take 120 bytes in
    (omega (arith, e, cut, some), omega (arith, e, cut))
