-- A text whose slots have payloads of heads and parts is that of its bytes; so its bytes tell it.
use Rattle.std.proofs.Common.{◌≡◌, ⊎_elim, ℕ, ◌+◌, ◌-◌, ◌<◌, ◌≤◌, List, [], ◌∷◌, ◌++◌, length, take, drop, refl, sym, ap, subst, ◌∙◌, arith}
use Rattle.std.proofs.lemmas.Bool.{cases_lt}
use Rattle.std.proofs.lemmas.List.{append-nil, length-append, length-drop, take-append-le, take_all, drop-append-le}
use Rattle.std.proofs.lemmas.List.Elements.{All-append, All-nil}
use Rattle.directory_law.specs.Bytes.{ArePartsOf, AreBytes, IsPiece, IsTextOf, Packs, text_bytes}
use Rattle.directory_law.specs.Payloads.{IsRest, IsText, Text, size}
use Rattle.directory_law.specs.Views.{Each}
use Rattle.directory_law.proofs.Bytes.{one_text, text_tells}

none_left : (bytes : List ℕ) → length bytes ≡ 0 → bytes ≡ []
none_left [] e = refl
none_left (b ∷ bytes) e = absurd (omega arith)

none_dropped : (n : ℕ) (bytes : List ℕ) → length bytes ≤ n → drop n bytes ≡ []
none_dropped n bytes short = none_left (drop n bytes) (let l = length-drop n bytes in omega arith)

-- the first 120 bytes, of which there are fewer only where nothing follows
module _ (front rest : List ℕ) (most : length front ≤ 120)
    (full : length front < 120 → length rest ≡ 0) where
  front_taken : take 120 (front ++ rest) ≡ front
  front_taken = ⊎_elim
      (λ (few : length front < 120).
      let none = none_left rest (full few) in
      ap (λ l. take 120 (front ++ l)) none
      ∙ (ap (take 120) (append-nil front) ∙ take_all 120 front most))
      (λ (all : 120 ≤ length front). take-append-le 120 front rest all ∙ take_all 120 front most)
      (cases_lt (length front) 120)

  rest_dropped : drop 120 (front ++ rest) ≡ rest
  rest_dropped = ⊎_elim
      (λ (few : length front < 120).
      let none = none_left rest (full few) in
      ap (λ l. drop 120 (front ++ l)) none
      ∙ (ap (drop 120) (append-nil front) ∙ (none_dropped 120 front most ∙ sym none)))
      (λ (all : 120 ≤ length front). drop-append-le 120 front rest all
      ∙ ap (λ l. l ++ rest) (none_dropped 120 front most))
      (cases_lt (length front) 120)

-- parts are those of some bytes
parts_of : (n : ℕ) (ts : Text) → IsRest n ts → Each IsPiece ts
    → (bytes : List ℕ) × AreBytes bytes × (length bytes ≡ n) × ArePartsOf bytes ts
parts_of n [] none pieces = ([], All-nil (λ b. b < 256), sym none, refl)
parts_of n (t ∷ ts) cut pieces =
    let k = cut.0 in
    let c = cut.1 in
    let size_is = c.0 in
    let some = c.1 in
    let more = parts_of (n - k) ts cut.2 pieces.1 in
    let long = more.2 in
    let front = pieces.0.0 in
    let rest = more.0 in
    ⊎_elim
    (λ head. let most = head.0.1 in absurd (omega arith))
    (λ part.
    let packs = part.2 in
    let told = packs.size in
    let is : length front ≡ k = omega arith in
    let few : length front < 120 → length rest ≡ 0 = λ lt. let all = c.4 (omega arith) in omega arith in
    let most : length front ≤ 120 = part.1 in
    let taken = front_taken front rest most few in
    let dropped = rest_dropped front rest most few in
    let both = length-append front rest in (
      front ++ rest,
      All-append (λ b. b < 256) front rest pieces.0.1 more.1,
      (let fits = c.3 in omega arith),
      (
        (omega arith),
        subst (λ l. Packs (65536 + length l) l t) (sym taken) packs,
        subst (λ l. ArePartsOf l ts) (sym dropped) more.3,
      ),
    ))
    pieces.0.2

-- and a text is that of some bytes
text_of_bytes : (text : Text) → IsText text → Each IsPiece text
    → (bytes : List ℕ) × AreBytes bytes × IsTextOf bytes text
text_of_bytes [] is pieces = absurd is
text_of_bytes (t ∷ ts) is pieces =
    let head_is = is.0 in
    let some = is.0.0 in
    let more = parts_of (size t - 120) ts is.1 pieces.1 in
    let long = more.2 in
    let front = pieces.0.0 in
    let rest = more.0 in
    ⊎_elim
    (λ head.
    let packs = head.2 in
    let cut = head.1 in
    let few : length front < 120 → length rest ≡ 0 = λ lt. omega arith in
    let most : length front ≤ 120 = omega arith in
    let taken = front_taken front rest most few in
    let dropped = rest_dropped front rest most few in
    let both = length-append front rest in
    let whole : length (front ++ rest) ≡ size t = omega arith in
    let at_most = head_is.1 in (
      front ++ rest,
      All-append (λ b. b < 256) front rest pieces.0.1 more.1,
      (
        (omega arith),
        (omega arith),
        subst (λ n. Packs n (take 120 (front ++ rest)) t) (sym whole)
            (subst (λ l. Packs (size t) l t) (sym taken) packs),
        subst (λ l. ArePartsOf l ts) (sym dropped) more.3,
      ),
    ))
    (λ part. let told = part.2.size in let at_most = head_is.1 in absurd (omega arith))
    pieces.0.2

-- two such texts with the same bytes are one
pub same_bytes : (a b : Text) → IsText a → IsText b → Each IsPiece a → Each IsPiece b
    → text_bytes a ≡ text_bytes b → a ≡ b
same_bytes a b is is_too pieces pieces_too same =
    let x = text_of_bytes a is pieces in
    let y = text_of_bytes b is_too pieces_too in
    let tells = text_tells x.0 a x.1 x.2 in
    let tells_too = text_tells y.0 b y.1 y.2 in
    one_text x.0 a b x.2
    (subst (λ l. IsTextOf l b) (sym tells_too ∙ (sym same ∙ tells)) y.2)
