-- Which word spells which place.
use Rattle.std.proofs.Common.{◌≡◌, ℕ, ◌+◌, ◌<◌, true, false, List, [], ◌∷◌, ◌++◌, length, get_or, refl, sym, ap, subst, ◌∙◌, arith, append_assoc, length-append, codes, ◌⊎◌, inl, inr}
use Rattle.std.proofs.lemmas.Bool.{cases_lt}
use Rattle.script_lines.specs.declared.command.TextPlace.{TextPlace}
use Rattle.script_lines.specs.declared.command.TextPlace.TheVariants.{Cell, WeakCell, Field, WeakField}
use Rattle.script_lines.specs.Names.{is_name_byte, IsName}
use Rattle.script_lines.specs.Spelling.{Number, Place}

-- ---- the first byte, and the last two

-- a word that begins with a name begins with a byte of a name
first-name : (name rest : List ℕ) → IsName name → is_name_byte (get_or (name ++ rest) 0 0) ≡ true
first-name [] rest is = absurd (omega (arith, is.some))
first-name (byte ∷ bytes) rest is = is.bytes 0 0 (omega arith)

-- a word that begins with a byte that is in no name begins with no name
pub no-name_first : (byte : ℕ) (index name rest : List ℕ) → is_name_byte byte ≡ false → byte ∷ index ≡ name ++ rest → IsName name → ⊥
no-name_first byte index name rest odd same is =
    let first : byte ≡ get_or (name ++ rest) 0 0 = ap (λ word. get_or word 0 0) same in
    let wrong : true ≡ false = sym (first-name name rest is) ∙ ap is_name_byte (sym first) ∙ odd in
    cc

-- two words that are the same end the same
pub same-ends : (xs ys : List ℕ) (a b c d : ℕ) → xs ++ a ∷ b ∷ [] ≡ ys ++ c ∷ d ∷ [] → (xs ≡ ys) × (b ≡ d)
same-ends [] [] a b c d same = (refl, cc)
same-ends [] (y ∷ ys) a b c d same = absurd (omega (arith, ap length same, length-append ys (c ∷ d ∷ [])))
same-ends (x ∷ xs) [] a b c d same = absurd (omega (arith, ap length same, length-append xs (a ∷ b ∷ [])))
same-ends (x ∷ xs) (y ∷ ys) a b c d same =
    let first : x ≡ y = cc in
    let rest : xs ++ a ∷ b ∷ [] ≡ ys ++ c ∷ d ∷ [] = cc in
    let ends = same-ends xs ys a b c d rest in
    let fronts : xs ≡ ys = ends.0 in
    (cc, ends.1)

-- ---- words that spell no place

module _ (word : List ℕ) where
  -- a word that begins with `@` spells a cell at most
  pub no-place_at : (index : List ℕ) → word ≡ 64 ∷ index → ((n : ℕ) → Number n index → ⊥) → (place : TextPlace) → Place place word → ⊥
  no-place_at index is none (Cell i) spells =
      let same : spells.0 ≡ index = let e = sym spells.1 ∙ is in cc in
      none i (subst (Number i) same spells.2)
  no-place_at index is none (WeakCell i) spells = let e = ap (λ w. get_or w 0 0) (sym spells.1 ∙ is) in omega arith
  no-place_at index is none (Field name k) spells =
      no-name_first 64 index name (codes ":" ++ (48 + k) ∷ []) refl (sym is ∙ spells.2 ∙ append_assoc name (codes ":") ((48 + k) ∷ [])) spells.0
  no-place_at index is none (WeakField name) spells = no-name_first 64 index name (codes ":w") refl (sym is ∙ spells.1) spells.0

  -- the same of `~` and a weak cell
  pub no-place_tilde : (index : List ℕ) → word ≡ 126 ∷ index → ((n : ℕ) → Number n index → ⊥) → (place : TextPlace) → Place place word → ⊥
  no-place_tilde index is none (Cell i) spells = let e = ap (λ w. get_or w 0 0) (sym spells.1 ∙ is) in omega arith
  no-place_tilde index is none (WeakCell i) spells =
      let same : spells.0 ≡ index = let e = sym spells.1 ∙ is in cc in
      none i (subst (Number i) same spells.2)
  no-place_tilde index is none (Field name k) spells =
      no-name_first 126 index name (codes ":" ++ (48 + k) ∷ []) refl (sym is ∙ spells.2 ∙ append_assoc name (codes ":") ((48 + k) ∷ [])) spells.0
  no-place_tilde index is none (WeakField name) spells = no-name_first 126 index name (codes ":w") refl (sym is ∙ spells.1) spells.0

  -- a word of neither that ends in a colon and a byte spells a field at most, by the name in front
  pub no-place_field : (front : List ℕ) (last : ℕ) → ((index : List ℕ) → word ≡ 64 ∷ index → ⊥) → ((index : List ℕ) → word ≡ 126 ∷ index → ⊥)
      → word ≡ front ++ 58 ∷ last ∷ [] → (IsName front → (last ≡ 48) ⊎ (last ≡ 49) ⊎ (last ≡ 119) → ⊥) → (place : TextPlace) → Place place word → ⊥
  no-place_field front last no_at no_tilde is none (Cell i) spells = no_at spells.0 spells.1
  no-place_field front last no_at no_tilde is none (WeakCell i) spells = no_tilde spells.0 spells.1
  no-place_field front last no_at no_tilde is none (Field name k) spells =
      let ends = same-ends name front 58 (48 + k) 58 last (sym (append_assoc name (codes ":") ((48 + k) ∷ [])) ∙ sym spells.2 ∙ is) in
      let within : k < 2 = spells.1 in
      none (subst IsName ends.0 spells.0) (elim (cases_lt k 1) [ inl h ↦ inl (omega (arith, ends.1)) | inr h ↦ inr (inl (omega (arith, ends.1))) ])
  no-place_field front last no_at no_tilde is none (WeakField name) spells =
      let ends = same-ends name front 58 119 58 last (sym spells.1 ∙ is) in
      none (subst IsName ends.0 spells.0) (inr (inr (sym ends.1)))
