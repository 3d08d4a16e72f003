-- Which word spells which slot, content and place.
use Rattle.std.proofs.Common.{◌≡◌, ◌≢◌, inl, inr, ℕ, ◌+◌, ◌<◌, List, [], ◌∷◌, ◌++◌, length, refl, sym, ap, subst, ◌∙◌, arith, append_assoc, length-append, codes, Option, Some, None, Result, Ok, Err}
use Rattle.std.proofs.lemmas.List.Elements.{All-head}
use Rattle.std.specs.List.{All}
use Rattle.std.specs.Char.{IsAsciiDigit}
use Rattle.std.specs.Result.{IsErrAnd, IsOkAnd, MatchResult}
use Rattle.core_events.specs.plain_state.declared.act.EventPlace.{EventPlace}
use Rattle.core_events.specs.plain_state.declared.act.EventPlace.TheVariants.{Cell, Field, WeakCell, WeakField}
use Rattle.core_events.specs.plain_state.declared.slot.SlotId.{SlotId}
use Rattle.line_words.specs.Number.{IsNumber}
use Rattle.step_lines.specs.declared.refused.EventRefused.{EventRefused}
use Rattle.step_lines.specs.declared.refused.EventRefused.TheVariants.{Syntax, Range}
use Rattle.step_lines.specs.Beyond.{IsBeyondContent, IsBeyondPlace, IsBeyondSlot, IsTooLarge}
use Rattle.step_lines.specs.Reading.{Reads}
use Rattle.step_lines.specs.Spelling.{Content, Number, Place, Slot}
use Rattle.step_lines.proofs.Readings.{reads_made, reads_refused}

-- a slot is read by its number
pub slot_reads : (word : List ℕ) (r : Result ℕ EventRefused) (m : Result SlotId EventRefused)
    → MatchResult r (λ n. IsOkAnd m (λ s. s.0 ≡ n)) (λ e. m ≡ Err e)
    → Reads (λ n. Number n word) IsTooLarge r → Reads (λ s. Slot s word) IsBeyondSlot m
slot_reads word (Ok n) (Ok s) is reads = subst (λ (k : ℕ). Number k word) (sym is) reads
slot_reads word (Ok n) (Err e) is reads = absurd is
slot_reads word (Err Syntax) (Ok s) is reads = cc
slot_reads word (Err Syntax) (Err Syntax) is reads = λ s. reads s.0
slot_reads word (Err Syntax) (Err Range) is reads = cc
slot_reads word (Err Range) (Ok s) is reads = cc
slot_reads word (Err Range) (Err Syntax) is reads = cc
slot_reads word (Err Range) (Err Range) is reads = (record { 0 = reads.0 }, reads.1, reads.2)

-- a content that isn't null is read as its slot
pub content_reads : (word : List ℕ) → word ≢ codes "null" → (r : Result SlotId EventRefused) (m : Result (Option SlotId) EventRefused)
    → MatchResult r (λ s. IsOkAnd m (λ x. x ≡ Some s)) (λ e. m ≡ Err e)
    → Reads (λ s. Slot s word) IsBeyondSlot r → Reads (λ x. Content x word) IsBeyondContent m
content_reads word some =
    reads_made (λ s. Slot s word) IsBeyondSlot (λ x. Content x word) IsBeyondContent (λ s. Some s)
    (λ s spells. spells) only (λ s far. far)
  where
    only : (x : Option SlotId) → Content x word → (s : SlotId) × Slot s word
    only None spells = absurd (some spells)
    only (Some s) spells = (s, spells)

-- a number begins with no `@` and no `~`
pub number_first : (c : ℕ) (index rest word : List ℕ) (n : ℕ) → 57 < c → IsNumber word n → c ∷ index ≡ word ++ rest → ⊥
number_first c index rest [] n high is same = elim is.sign [
  | inl none ↦ omega (arith, ap length none, is.decimal.0)
  | inr none ↦ cc
]
number_first c index rest (byte ∷ bytes) n high is same = elim is.sign [
  | inl whole ↦ let first : IsAsciiDigit byte = All-head IsAsciiDigit byte bytes (subst (All IsAsciiDigit) (sym whole) is.decimal.1) in
      let is_it : c ≡ byte = cc in omega (arith, first)
  | inr signed ↦ let wrong : ◌≡◌ {A = ℕ} c 43 = cc in omega arith
]

-- a number isn't `null`
pub number_no_null : (word : List ℕ) (n : ℕ) → IsNumber word n → word ≢ codes "null"
number_no_null word n is null = elim is.sign [
  | inl whole ↦ let first = subst (All IsAsciiDigit) (sym whole ∙ null) is.decimal.1 in
      let digit : IsAsciiDigit 110 = All-head IsAsciiDigit 110 (codes "ull") first in omega (arith, digit)
  | inr signed ↦ let wrong : ◌≡◌ {A = ℕ} 43 110 = let e = sym signed ∙ null in cc in omega arith
]

-- two words that are the same end the same
pub same-ends : (xs ys : List ℕ) (a b c d : ℕ) → xs ++ a ∷ b ∷ [] ≡ ys ++ c ∷ d ∷ [] → (xs ≡ ys) × (b ≡ d)
same-ends [] [] a b c d same = (refl, cc)
same-ends [] (y ∷ ys) a b c d same = absurd (omega (arith, ap length same, length-append ys (c ∷ d ∷ [])))
same-ends (x ∷ xs) [] a b c d same = absurd (omega (arith, ap length same, length-append xs (a ∷ b ∷ [])))
same-ends (x ∷ xs) (y ∷ ys) a b c d same =
    let first : x ≡ y = cc in
    let rest : xs ++ a ∷ b ∷ [] ≡ ys ++ c ∷ d ∷ [] = cc in
    let ends = same-ends xs ys a b c d rest in
    let fronts : xs ≡ ys = ends.0 in
    (cc, ends.1)

module _ (word : List ℕ) where
  -- a word of a cell is no word of a field
  cell_no_field : (c : ℕ) (index slot : List ℕ) (s b : ℕ) → 57 < c → word ≡ c ∷ index → IsNumber slot s
      → word ≡ slot ++ 58 ∷ b ∷ [] → ⊥
  cell_no_field c index slot s b high is spells same = number_first c index (58 ∷ b ∷ []) slot s high spells (sym is ∙ same)

  -- a word of a cell
  pub cell_reads : (index : List ℕ) → word ≡ codes "@" ++ index
      → (r : Result ℕ EventRefused) (m : Result EventPlace EventRefused)
      → MatchResult r (λ i. IsOkAnd m (λ p. p ≡ Cell i)) (λ e. m ≡ Err e)
      → Reads (λ i. Number i index) IsTooLarge r → Reads (λ p. Place p word) IsBeyondPlace m
  cell_reads index is =
      reads_made (λ i. Number i index) IsTooLarge (λ p. Place p word) IsBeyondPlace Cell
      (λ i spells. (index, is, spells)) only (λ i far. far)
    where
      only : (p : EventPlace) → Place p word → (i : ℕ) × Number i index
      only (Cell i) spells = (i, let same : spells.0 ≡ index = let e = sym spells.1 ∙ is in cc in subst (Number i) same spells.2)
      only (Field s i) spells = absurd (cell_no_field 64 index spells.0 s.0 (48 + i) (omega arith) is spells.1
          (spells.3 ∙ append_assoc spells.0 (codes ":") ((48 + i) ∷ [])))
      only (WeakCell i) spells = absurd (let e = sym spells.1 ∙ is in let wrong : ◌≡◌ {A = ℕ} 126 64 = cc in omega arith)
      only (WeakField s) spells = absurd (cell_no_field 64 index spells.0 s.0 119 (omega arith) is spells.1 spells.2)

  pub weak_cell_reads : (index : List ℕ) → word ≡ codes "~" ++ index
      → (r : Result ℕ EventRefused) (m : Result EventPlace EventRefused)
      → MatchResult r (λ i. IsOkAnd m (λ p. p ≡ WeakCell i)) (λ e. m ≡ Err e)
      → Reads (λ i. Number i index) IsTooLarge r → Reads (λ p. Place p word) IsBeyondPlace m
  weak_cell_reads index is =
      reads_made (λ i. Number i index) IsTooLarge (λ p. Place p word) IsBeyondPlace WeakCell
      (λ i spells. (index, is, spells)) only (λ i far. far)
    where
      only : (p : EventPlace) → Place p word → (i : ℕ) × Number i index
      only (Cell i) spells = absurd (let e = sym spells.1 ∙ is in let wrong : ◌≡◌ {A = ℕ} 64 126 = cc in omega arith)
      only (Field s i) spells = absurd (cell_no_field 126 index spells.0 s.0 (48 + i) (omega arith) is spells.1
          (spells.3 ∙ append_assoc spells.0 (codes ":") ((48 + i) ∷ [])))
      only (WeakCell i) spells = (i, let same : spells.0 ≡ index = let e = sym spells.1 ∙ is in cc in subst (Number i) same spells.2)
      only (WeakField s) spells = absurd (cell_no_field 126 index spells.0 s.0 119 (omega arith) is spells.1 spells.2)

  pub field_spelled : (slot : List ℕ) (k : ℕ) → k < 2 → word ≡ slot ++ 58 ∷ (48 + k) ∷ [] → (s : SlotId) → Slot s slot
      → Place (Field s k) word
  field_spelled slot k within is s spells = (slot, spells, within, is ∙ sym (append_assoc slot (codes ":") ((48 + k) ∷ [])))

  -- the word of no cell
  module _ (no_cell : (index : List ℕ) → word ≢ codes "@" ++ index) (no_weak : (index : List ℕ) → word ≢ codes "~" ++ index) where
    -- a word of a field
    module _ (slot : List ℕ) (k : ℕ) (within : k < 2) (is : word ≡ slot ++ 58 ∷ (48 + k) ∷ []) where
      pub field_refused : (r : Result EventPlace EventRefused) (e : EventRefused)
          → IsErrAnd r (λ y. y ≡ e) → Reads (λ s. Slot s slot) IsBeyondSlot (Err e) → Reads (λ p. Place p word) IsBeyondPlace r
      field_refused =
          reads_refused (λ s. Slot s slot) IsBeyondSlot (λ p. Place p word) IsBeyondPlace (λ s. Field s k) (field_spelled slot k within is) only (λ s far. far)
        where
          only : (p : EventPlace) → Place p word → (s : SlotId) × Slot s slot
          only (Cell i) spells = absurd (no_cell spells.0 spells.1)
          only (Field s i) spells =
              let ends = same-ends spells.0 slot 58 (48 + i) 58 (48 + k) (sym (append_assoc spells.0 (codes ":") ((48 + i) ∷ [])) ∙ sym spells.3 ∙ is) in
              (s, subst (λ w. Slot s w) ends.0 spells.1)
          only (WeakCell i) spells = absurd (no_weak spells.0 spells.1)
          only (WeakField s) spells =
              absurd (let ends = same-ends spells.0 slot 58 119 58 (48 + k) (sym spells.2 ∙ is) in omega (arith, ends.1))

    pub weak_field_reads : (slot : List ℕ) → word ≡ slot ++ codes ":w"
        → (r : Result SlotId EventRefused) (m : Result EventPlace EventRefused)
        → MatchResult r (λ s. IsOkAnd m (λ p. p ≡ WeakField s)) (λ e. m ≡ Err e)
        → Reads (λ s. Slot s slot) IsBeyondSlot r → Reads (λ p. Place p word) IsBeyondPlace m
    weak_field_reads slot is =
        reads_made (λ s. Slot s slot) IsBeyondSlot (λ p. Place p word) IsBeyondPlace (λ s. WeakField s)
        (λ s spells. (slot, spells, is)) only (λ s far. far)
      where
        only : (p : EventPlace) → Place p word → (s : SlotId) × Slot s slot
        only (Cell i) spells = absurd (no_cell spells.0 spells.1)
        only (Field s i) spells =
            absurd (let ends = same-ends spells.0 slot 58 (48 + i) 58 119 (sym (append_assoc spells.0 (codes ":") ((48 + i) ∷ [])) ∙ sym spells.3 ∙ is) in
            omega (arith, ends.1, spells.2))
        only (WeakCell i) spells = absurd (no_weak spells.0 spells.1)
        only (WeakField s) spells =
            let ends = same-ends spells.0 slot 58 119 58 119 (sym spells.2 ∙ is) in (s, subst (λ w. Slot s w) ends.0 spells.1)
