-- How often words, and the fields of slots, hold a slot.
use Rattle.std.proofs.Common.{◌≡◌, ℕ, ◌+◌, ◌-◌, ◌*◌, ◌<◌, ◌≤◌, ◌⊎◌, List, length, get_or, take, slice_index, slice_index_or, slice_set, sum_by, arith, sym, ◌∙◌, ap, inl, inr, length-take, add-zero}
use Rattle.std.proofs.Math.ListN.{set}
use Rattle.std.proofs.lemmas.Bool.{cond-true, cond-false, eq-eqb, ne_eqb, cases_eq, cases_lt}
use Rattle.std.proofs.lemmas.List.{get_or-set_same, get_or-set_other}
use Rattle.std.proofs.lemmas.List.Sums.{sum_by-le, sum_by_more}
use Rattle.deleter.specs.plain_state.declared.slot.SlotId.{SlotId}
use Rattle.deleter.specs.plain_state.declared.image.SlotImage.{SlotImage}
use Rattle.heap_audit.specs.Heaps.{held, fields_holding}
use Rattle.heap_audit.specs.Tables.{CountsWord, CountsFields}

module _ (s : SlotId) (word : ℕ) where
  pub held_here : word ≡ s.0 + 1 → held s word ≡ 1
  unfolding held
  held_here e = cond-true _ 1 0 (eq-eqb word (s.0 + 1) e)

  pub held_not : (word ≡ s.0 + 1 → ⊥) → held s word ≡ 0
  unfolding held
  held_not n = cond-false _ 1 0 (ne_eqb word (s.0 + 1) n)

  pub held_most : held s word ≤ 1
  held_most = elim (cases_eq word (s.0 + 1)) [ inl e ↦ omega (arith, held_here e) | inr n ↦ omega (arith, held_not n) ]

  pub held_named : 0 < held s word → word ≡ s.0 + 1
  held_named h = elim (cases_eq word (s.0 + 1)) [ inl e ↦ e | inr n ↦ absurd (omega (arith, h, held_not n)) ]

pub fields_most : (s : SlotId) (x : SlotImage) → fields_holding s x ≤ 2
unfolding fields_holding
fields_most s x = omega (arith, held_most s (slice_index x.fields 0), held_most s (slice_index x.fields 1))

-- few slots hold a slot few times
pub few_fields : (s : SlotId) (xs : List SlotImage) (i : ℕ) → sum_by (fields_holding s) (take i xs) ≤ i * 2
few_fields s xs i =
    let h = sum_by-le (fields_holding s) 2 (take i xs) (λ k d _. fields_most s (get_or (take i xs) k d)) in
    omega (arith, h, length-take i xs)

-- a word counts for the slot that it names
pub word_counted : (counts : List ℕ) (word : ℕ) → 0 < word → word ≤ length counts
    → CountsWord word counts (slice_set counts (word - 1) (slice_index_or counts (word - 1) 0 + 1))
word_counted counts word some within s h =
    elim (cases_eq s.0 (word - 1)) [
      | inl e ↦ (ap (λ k. slice_index (set counts (word - 1) (get_or counts (word - 1) 0 + 1)) k) e
          ∙ (get_or-set_same counts (word - 1) (get_or counts (word - 1) 0 + 1) 0 (omega arith)
          ∙ (ap (λ k. get_or counts k 0 + 1) (sym e)
          ∙ ap (λ n. get_or counts s.0 0 + n) (sym (held_here s word (omega arith))))))
      | inr n ↦ (get_or-set_other counts (word - 1) s.0 (get_or counts (word - 1) 0 + 1) 0 n
          ∙ (sym (add-zero (get_or counts s.0 0)) ∙ ap (λ m. get_or counts s.0 0 + m) (sym (held_not s word (λ e. n (omega arith))))))
    ]

-- null counts for none
pub null_counted : (counts : List ℕ) (word : ℕ) → word ≡ 0 → CountsWord word counts counts
null_counted counts word none s h = omega (arith, held_not s word (λ e. omega arith))

-- two words count for a slot's fields
pub both_counted : (x : SlotImage) (old mid new : List ℕ) → length mid ≡ length old
    → CountsWord (slice_index x.fields 0) old mid → CountsWord (slice_index x.fields 1) mid new → CountsFields x old new
unfolding fields_holding
both_counted x old mid new e h k s l = omega (arith, h s l, k s (omega arith))

-- one more slot whose fields are counted
pub count_more : (s : SlotId) (xs : List SlotImage) (i : ℕ) (d : SlotImage) (old new : ℕ) → i < length xs
    → old ≡ sum_by (fields_holding s) (take i xs) → new ≡ old + fields_holding s (get_or xs i d)
    → new ≡ sum_by (fields_holding s) (take (i + 1) xs)
count_more s xs i d old new h e f = omega (arith, sum_by_more (fields_holding s) xs i d h, e, f)

module _ (s : SlotId) (x : SlotImage) where
  pub named_first : slice_index x.fields 0 ≡ s.0 + 1 → 0 < fields_holding s x
  unfolding fields_holding
  named_first e = omega (arith, held_here s (slice_index x.fields 0) e)

  pub named_second : slice_index x.fields 1 ≡ s.0 + 1 → 0 < fields_holding s x
  unfolding fields_holding
  named_second e = omega (arith, held_here s (slice_index x.fields 1) e)

  pub field_names : 0 < fields_holding s x → (slice_index x.fields 0 ≡ s.0 + 1) ⊎ (slice_index x.fields 1 ≡ s.0 + 1)
  unfolding fields_holding
  field_names h =
      elim (cases_lt 0 (held s (slice_index x.fields 0))) [
        | inl l ↦ inl (held_named s (slice_index x.fields 0) l)
        | inr g ↦ inr (held_named s (slice_index x.fields 1) (omega (arith, h, g)))
      ]
