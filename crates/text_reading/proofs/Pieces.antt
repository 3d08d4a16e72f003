-- A text of pieces is the one of its bytes.
use Rattle.std.proofs.Common.{◌≡◌, ⊎_elim, ℕ, ◌+◌, ◌-◌, ◌<◌, ◌≤◌, List, [], ◌∷◌, ◌++◌, length, length-append, set, take, drop, refl, ap, sym, ◌∙◌, subst, arith}
use Rattle.std.specs.Prelude.{min}
use Rattle.std.proofs.lemmas.List.{append-nil, drop_all, drop_at, get_or-set_same, get_or-set_other, length-set, take_all, take_at}
use Rattle.std.proofs.lemmas.Bool.{cases_lt}
use Rattle.directory_calls.specs.directory_law.Payloads.{IsOwn, IsRest, IsText, Text, size}
use Rattle.directory_calls.specs.directory_law.Views.{Each}
use Rattle.directory_calls.specs.directory_law.Bytes.{AreBytes, ArePartsOf, bytes_of_words, IsHeadOf, IsPartOf, IsPiece, IsTextOf, Packs, part_bytes, piece_bytes, text_bytes}
use Rattle.directory_calls.proofs.Below.directory_law_Bytes.{text_tells}
use Rattle.text_reading.specs.Reading.{AreBytesOf}

-- a payload tells the bytes that it packs, whatever its word 0 is
words_after : (t : List ℕ) (n : ℕ) → drop 1 (set t 0 n) ≡ drop 1 t
words_after [] n = refl
words_after (w ∷ ws) n = refl

piece_tells : (n : ℕ) (bytes t : List ℕ) → AreBytes bytes → 0 < length bytes → length bytes ≤ 120
    → Packs n bytes t → piece_bytes (length bytes) t ≡ bytes
piece_tells n bytes t small some' most packs =
    let words = packs.words in
    let alone = set t 0 (length bytes) in
    let first : size alone ≡ length bytes =
    get_or-set_same t 0 (length bytes) 0 (omega (arith, words)) in
    let all : take 120 bytes ≡ bytes = take_all 120 bytes most in
    let is = text_tells bytes (alone ∷ []) small (
      some',
      omega (arith, most),
      subst (λ (b : List ℕ). Packs (length bytes) b alone) (sym all) (record {
        words = length-set t 0 (length bytes) ∙ words;
        size = first;
        eights = λ k low. get_or-set_other t 0 (k + 1) (length bytes) 0 (λ e. omega (arith, e))
            ∙ packs.eights k low;
      }),
      ap length (drop_all 120 bytes most),
    ) in
    let few : min 120 (size alone) ≡ length bytes = grind arith in
    ap (λ (ws : List ℕ). bytes_of_words (length bytes) ws) (sym (words_after t (length bytes)))
    ∙ (ap (λ (k : ℕ). piece_bytes k alone) (sym few)
    ∙ (sym (append-nil (piece_bytes (min 120 (size alone)) alone)) ∙ is))

-- the first 120 bytes of some, where none follow fewer
cut_first : (first rest : List ℕ) → length first ≤ 120 → (length first < 120 → length rest ≡ 0)
    → (take 120 (first ++ rest) ≡ first) × (drop 120 (first ++ rest) ≡ rest)
cut_first first rest most last = ⊎_elim
    (λ (less : length first < 120).
    let none = no_bytes rest (last less) in
    let same : first ++ rest ≡ first =
    ap (λ (r : List ℕ). first ++ r) none ∙ append-nil first in (
      ap (take 120) same ∙ take_all 120 first most,
      ap (drop 120) same ∙ (drop_all 120 first most ∙ sym none),
    ))
    (λ (all : 120 ≤ length first).
    let full : length first ≡ 120 = omega (arith, most, all) in
    (take_at first rest 120 full, drop_at first rest 120 full))
    (cases_lt (length first) 120)
  where
    no_bytes : (xs : List ℕ) → length xs ≡ 0 → xs ≡ []
    no_bytes [] is = refl
    no_bytes (x ∷ xs) is = absurd (omega (arith, is))

-- PARTS. The bytes of a piece that is a part
PartBytes : ℕ → List ℕ → Type 0
PartBytes k t =
    (bytes : List ℕ) × (piece_bytes (size t - 65536) t ≡ bytes) × (length bytes ≡ k)
    × Packs (65536 + length bytes) bytes t

part_tells : (k : ℕ) (t : List ℕ) → size t ≡ 65536 + k → IsPiece t → PartBytes k t
unfolding PartBytes
part_tells k t is piece = ⊎_elim
    (λ (head : IsHeadOf piece.0 t). absurd (omega (arith, head.0.1, is)))
    (λ (part : IsPartOf piece.0 t).
    let packs = part.2.size in
    let n : size t - 65536 ≡ length piece.0 = omega (arith, packs) in (
      piece.0,
      ap (λ (m : ℕ). piece_bytes m t) n
          ∙ piece_tells (65536 + length piece.0) piece.0 t piece.1 part.0 part.1 part.2,
      omega (arith, packs, is),
      part.2,
    ))
    piece.2

pub parts_are : (n : ℕ) (ts : Text) → IsRest n ts → Each IsPiece ts
    → (length (part_bytes ts) ≡ n) × ArePartsOf (part_bytes ts) ts
unfolding PartBytes
parts_are n [] is pieces = (sym is, refl)
parts_are n (t ∷ ts) is pieces =
    let k = is.0 in
    let cut = is.1 in
    let some' = cut.1 in let most = cut.2 in let within = cut.3 in
    let p = part_tells k t cut.0 pieces.0 in
    let size = p.2 in
    let after = parts_are (n - k) ts is.2 pieces.1 in
    let length_after = after.0 in
    let first = cut_first p.0 (part_bytes ts) (omega (arith, size, most))
    (λ less. let all = cut.4 (omega (arith, size, less)) in omega (arith, length_after, all)) in
    let both = length-append p.0 (part_bytes ts) in
    subst (λ (b : List ℕ). (length (b ++ part_bytes ts) ≡ n)
    × ArePartsOf (b ++ part_bytes ts) (t ∷ ts)) (sym p.1) (
      omega (arith, both, size, length_after, within),
      (
        omega (arith, both, size, some'),
        subst (λ (b : List ℕ). Packs (65536 + length b) b t) (sym first.0) p.3,
        subst (λ (b : List ℕ). ArePartsOf b ts) (sym first.1) after.1,
      ),
    )

-- TEXTS
pub text_is_of : (text : Text) → IsText text → Each IsPiece text → IsTextOf (text_bytes text) text
text_is_of [] is pieces = absurd is
text_is_of (t ∷ ts) is pieces = ⊎_elim
    (λ (head : IsHeadOf bytes t).
    let some' = is.0.0 in let most = is.0.1 in
    let few : length bytes ≡ min 120 (size t) = head.1 in
    let after = parts_are (size t - 120) ts is.1 pieces.1 in
    let length_after = after.0 in
    let read : piece_bytes (min 120 (size t)) t ≡ bytes =
    ap (λ (m : ℕ). piece_bytes m t) (sym few)
    ∙ piece_tells (size t) bytes t pieces.0.1 (grind arith) (grind arith) head.2 in
    let first = cut_first bytes (part_bytes ts) (grind arith) (λ less. grind arith) in
    let both = length-append bytes (part_bytes ts) in
    let all : length (bytes ++ part_bytes ts) ≡ size t = grind arith in
    subst (λ (b : List ℕ). IsTextOf (b ++ part_bytes ts) (t ∷ ts)) (sym read) (
      omega (arith, all, some'),
      omega (arith, all, most),
      subst (λ (b : List ℕ). Packs (length (bytes ++ part_bytes ts)) b t) (sym first.0)
          (subst (λ (m : ℕ). Packs m bytes t) (sym all) head.2),
      subst (λ (b : List ℕ). ArePartsOf b ts) (sym first.1) after.1,
    ))
    (λ (part : IsPartOf bytes t).
    let packs = part.2.size in let most = is.0.1 in absurd (omega (arith, packs, most)))
    pieces.0.2
  where
    bytes : List ℕ
    bytes = pieces.0.0

-- WHAT FITS A KIND. The payloads of a text are a directory's
rest_own : (n : ℕ) (ts : Text) → IsRest n ts → Each IsOwn ts
rest_own n [] is = tt
rest_own n (t ∷ ts) is = let size = is.1.0 in (omega (arith, size), rest_own (n - is.0) ts is.2)

text_own : (text : Text) → IsText text → Each IsOwn text
text_own [] is = absurd is
text_own (t ∷ ts) is = (is.0.0, rest_own (size t - 120) ts is.1)

pieces_if : (fits : List ℕ → Type 0) → ((words : List ℕ) → fits words → IsOwn words → IsPiece words)
    → (ts : Text) → Each fits ts → Each IsOwn ts → Each IsPiece ts
pieces_if fits tells [] fit own = tt
pieces_if fits tells (t ∷ ts) fit own =
    (tells t fit.0 own.0, pieces_if fits tells ts fit.1 own.1)

pub bytes_have_text : (fits : List ℕ → Type 0)
    → ((words : List ℕ) → fits words → IsOwn words → IsPiece words)
    → (bytes : List ℕ) (text : Text) → IsText text → AreBytesOf fits bytes text
    → IsTextOf bytes text
bytes_have_text fits tells bytes text is are =
    subst (λ (b : List ℕ). IsTextOf b text) (sym are.same)
    (text_is_of text is (pieces_if fits tells text are.fit (text_own text is)))
