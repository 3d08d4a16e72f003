-- A word spells one number, slot, kind, content and place at most.
use Rattle.std.proofs.Common.{◌≡◌, ℕ, ◌+◌, ◌<◌, List, [], ◌∷◌, ◌++◌, Option, Some, None, codes, refl, sym, ap, subst, ◌∙◌, arith, append_assoc}
use Rattle.core_events.specs.plain_state.declared.act.EventPlace.{EventPlace}
use Rattle.core_events.specs.plain_state.declared.act.EventPlace.TheVariants.{Cell, Field, WeakCell, WeakField}
use Rattle.core_events.specs.plain_state.declared.slot.Kind.{Kind}
use Rattle.core_events.specs.plain_state.declared.slot.Kind.TheVariants.{Strong, Weak, Disposal}
use Rattle.core_events.specs.plain_state.declared.slot.SlotId.{SlotId}
use Rattle.line_words.proofs.Decimal.{one-number_of}
use Rattle.line_words.specs.Number.{IsNumber}
use Rattle.step_lines.specs.Spelling.{Content, KindWord, Number, Place, Slot}
use Rattle.step_lines.proofs.Names.{other}
use Rattle.step_lines.proofs.Places.{number_first, number_no_null, same-ends}

module _ (word : List ℕ) where
  pub one-number : (n m : ℕ) → Number n word → Number m word → n ≡ m
  one-number n m first second = one-number_of word n m first second

  pub one-slot : (s t : SlotId) → Slot s word → Slot t word → s ≡ t
  one-slot s t first second =
      let made : ℕ → SlotId = λ n. record { 0 = n } in ap made (one-number s.0 t.0 first second)

  pub one-kind : (k l : Kind) → KindWord k word → KindWord l word → k ≡ l
  one-kind Strong Strong first second = refl
  one-kind Strong Weak first second = absurd (other (codes "strong") (codes "weak") (sym first ∙ second) refl)
  one-kind Weak Strong first second = absurd (other (codes "weak") (codes "strong") (sym first ∙ second) refl)
  one-kind Weak Weak first second = refl
  one-kind Strong Disposal first second = absurd (other (codes "strong") (codes "disposal") (sym first ∙ second) refl)
  one-kind Weak Disposal first second = absurd (other (codes "weak") (codes "disposal") (sym first ∙ second) refl)
  one-kind Disposal Strong first second = absurd (other (codes "disposal") (codes "strong") (sym first ∙ second) refl)
  one-kind Disposal Weak first second = absurd (other (codes "disposal") (codes "weak") (sym first ∙ second) refl)
  one-kind Disposal Disposal first second = refl

  pub one-content : (x y : Option SlotId) → Content x word → Content y word → x ≡ y
  one-content None None first second = refl
  one-content None (Some t) first second = absurd (number_no_null word t.0 second first)
  one-content (Some s) None first second = absurd (number_no_null word s.0 first second)
  one-content (Some s) (Some t) first second = ap (λ (s : SlotId). Some s) (one-slot s t first second)

-- a field's word ends in a colon and a byte
field-ends : (word slot : List ℕ) (k : ℕ) → word ≡ slot ++ codes ":" ++ (48 + k) ∷ [] → word ≡ slot ++ 58 ∷ (48 + k) ∷ []
field-ends word slot k is = is ∙ append_assoc slot (codes ":") ((48 + k) ∷ [])

-- a cell's word isn't a field's, and none of the other kind of cells
no-field : (c : ℕ) (word index slot : List ℕ) (s b : ℕ) → 57 < c → word ≡ c ∷ index → IsNumber slot s
    → word ≡ slot ++ 58 ∷ b ∷ [] → ⊥
no-field c word index slot s b high cell is field = number_first c index (58 ∷ b ∷ []) slot s high is (sym cell ∙ field)

no-weak-cell : (word index others : List ℕ) → word ≡ codes "@" ++ index → word ≡ codes "~" ++ others → ⊥
no-weak-cell word index others first second =
    let e = sym first ∙ second in let wrong : ◌≡◌ {A = ℕ} 64 126 = cc in omega arith

-- a strong field's word isn't a weak field's
no-weak-field : (word slot other : List ℕ) (k : ℕ) → k < 2 → word ≡ slot ++ codes ":" ++ (48 + k) ∷ [] → word ≡ other ++ codes ":w" → ⊥
no-weak-field word slot other k within first second =
    let ends = same-ends slot other 58 (48 + k) 58 119 (sym (field-ends word slot k first) ∙ second) in omega (arith, ends.1, within)

pub one-place : (word : List ℕ) (p q : EventPlace) → Place p word → Place q word → p ≡ q
one-place word (Cell i) (Cell j) first second =
    let same : first.0 ≡ second.0 = let e = sym first.1 ∙ second.1 in cc in
    ap (λ (i : ℕ). Cell i) (one-number second.0 i j (subst (Number i) same first.2) second.2)
one-place word (Cell i) (Field t l) first second =
    absurd (no-field 64 word first.0 second.0 t.0 (48 + l) (omega arith) first.1 second.1 (field-ends word second.0 l second.3))
one-place word (Cell i) (WeakCell j) first second = absurd (no-weak-cell word first.0 second.0 first.1 second.1)
one-place word (Cell i) (WeakField t) first second =
    absurd (no-field 64 word first.0 second.0 t.0 119 (omega arith) first.1 second.1 second.2)
one-place word (Field s k) (Cell j) first second =
    absurd (no-field 64 word second.0 first.0 s.0 (48 + k) (omega arith) second.1 first.1 (field-ends word first.0 k first.3))
one-place word (Field s k) (Field t l) first second =
    let ends = same-ends first.0 second.0 58 (48 + k) 58 (48 + l)
    (sym (field-ends word first.0 k first.3) ∙ field-ends word second.0 l second.3) in
    let slot : s ≡ t = one-slot second.0 s t (subst (λ w. Slot s w) ends.0 first.1) second.1 in
    let field : k ≡ l = omega (arith, ends.1) in
    cc
one-place word (Field s k) (WeakCell j) first second =
    absurd (no-field 126 word second.0 first.0 s.0 (48 + k) (omega arith) second.1 first.1 (field-ends word first.0 k first.3))
one-place word (Field s k) (WeakField t) first second =
    absurd (no-weak-field word first.0 second.0 k first.2 first.3 second.2)
one-place word (WeakCell i) (Cell j) first second = absurd (no-weak-cell word second.0 first.0 second.1 first.1)
one-place word (WeakCell i) (Field t l) first second =
    absurd (no-field 126 word first.0 second.0 t.0 (48 + l) (omega arith) first.1 second.1 (field-ends word second.0 l second.3))
one-place word (WeakCell i) (WeakCell j) first second =
    let same : first.0 ≡ second.0 = let e = sym first.1 ∙ second.1 in cc in
    ap (λ (i : ℕ). WeakCell i) (one-number second.0 i j (subst (Number i) same first.2) second.2)
one-place word (WeakCell i) (WeakField t) first second =
    absurd (no-field 126 word first.0 second.0 t.0 119 (omega arith) first.1 second.1 second.2)
one-place word (WeakField s) (Cell j) first second =
    absurd (no-field 64 word second.0 first.0 s.0 119 (omega arith) second.1 first.1 first.2)
one-place word (WeakField s) (Field t l) first second =
    absurd (no-weak-field word second.0 first.0 l second.2 second.3 first.2)
one-place word (WeakField s) (WeakCell j) first second =
    absurd (no-field 126 word second.0 first.0 s.0 119 (omega arith) second.1 first.1 first.2)
one-place word (WeakField s) (WeakField t) first second =
    let ends = same-ends first.0 second.0 58 119 58 119 (sym first.2 ∙ second.2) in
    ap (λ (s : SlotId). WeakField s) (one-slot second.0 s t (subst (λ w. Slot s w) ends.0 first.1) second.1)
