-- Which slots come in a search, in turn.
use Rattle.std.proofs.Common.{◌≡◌, ⊎_elim, ℕ, zero, suc, ◌+◌, ◌-◌, ◌<◌, ◌≤◌, List, [], ◌∷◌, ◌++◌, length, ap, sym, ◌∙◌, arith}
use Rattle.std.proofs.lemmas.Bool.{cases_lt}
use Rattle.std.proofs.lemmas.List.{length-append}
use Rattle.epoch_domain.proofs.Below.core_law_Each.{length_each}
use Rattle.epoch_domain.proofs.Below.core_law_Kit.{one_other, one_same, times_append, times_cons, times_none}
use Rattle.epoch_domain.proofs.Below.core_law_Lists.{each_push}
use Rattle.epoch_domain.specs.plain_protocol.plain_state.declared.slot.SlotId.{SlotId}
use Rattle.epoch_domain.specs.plain_protocol.plain_state.Lists.{times}
use Rattle.epoch_domain.specs.epoch_core.declared.shape.EpochShape.{EpochShape}
use Rattle.epoch_refs.specs.Searching.{in_order, slots_from}

pub no_slots : (from : ℕ) → slots_from from (from - from) ≡ []
no_slots from =
    let none : from - from ≡ 0 = omega arith in ap (λ (n : ℕ). slots_from from n) none

-- which slots come in a search between two numbers
pub next_slots : (from number : ℕ) → from ≤ number
    → slots_from from (number + 1 - from)
    ≡ slots_from from (number - from) ++ record { 0 = number } ∷ []
next_slots from number up =
    let f : ℕ → SlotId = λ k. record { 0 = k } in
    let next : number + 1 - from ≡ suc (number - from) = omega arith in
    let at : from + (number - from) ≡ number = omega arith in
    ap (λ (n : ℕ). slots_from from n) next ∙ each_push from (number - from) f
    ∙ ap (λ (k : ℕ). slots_from from (number - from) ++ f k ∷ []) at

pub slots_apart : (i n m : ℕ) → slots_from i n ++ slots_from (i + n) m ≡ slots_from i (n + m)
slots_apart i zero m =
    let at : i + 0 ≡ i = omega arith in
    let all : m ≡ 0 + m = omega arith in
    λ j. slots_from (at j) (all j)
slots_apart i (suc n) m =
    let at : i + suc n ≡ i + 1 + n = omega arith in
    let all : suc (n + m) ≡ suc n + m = omega arith in
    ap (λ (xs : List SlotId). record { 0 = i } ∷ xs)
    (ap (λ (k : ℕ). slots_from (i + 1) n ++ slots_from k m) at ∙ slots_apart (i + 1) n m)
    ∙ ap (λ (k : ℕ). slots_from i k) all

pub slots_around : (from number to : ℕ) → from ≤ number → number < to
    → slots_from from (number - from)
    ++ record { 0 = number } ∷ slots_from (number + 1) (to - (number + 1))
    ≡ slots_from from (to - from)
slots_around from number to up below =
    let at : from + (number - from) ≡ number = omega arith in
    let one : suc (to - (number + 1)) ≡ to - number = omega arith in
    let all : number - from + suc (to - (number + 1)) ≡ to - from = omega arith in
    ap (λ (k : ℕ). slots_from from (number - from) ++ slots_from k (suc (to - (number + 1))))
    (sym at)
    ∙ (slots_apart from (number - from) (suc (to - (number + 1)))
    ∙ ap (λ (n : ℕ). slots_from from n) all)

-- EACH SLOT ONCE
-- a slot stands once among those of its range, and nowhere else
pub times_outside : (s : SlotId) (i n : ℕ) → (i ≤ s.0 → s.0 < i + n → ⊥)
    → times s (slots_from i n) ≡ 0
times_outside s i zero off = times_none s
times_outside s i (suc n) off =
    let this : SlotId = record { 0 = i } in
    let cons = times_cons s this (slots_from (i + 1) n) in
    let other = one_other s this (λ (is : i ≡ s.0). off (omega arith) (omega arith)) in
    let rest = times_outside s (i + 1) n (λ low high. off (omega arith) (omega arith)) in omega arith

pub times_inside : (s : SlotId) (i n : ℕ) → i ≤ s.0 → s.0 < i + n → times s (slots_from i n) ≡ 1
times_inside s i zero low high = absurd (omega arith)
times_inside s i (suc n) low high = ⊎_elim
    (λ (above : i < s.0).
    let this : SlotId = record { 0 = i } in
    let cons = times_cons s this (slots_from (i + 1) n) in
    let other = one_other s this (λ (is : i ≡ s.0). omega arith) in
    let rest = times_inside s (i + 1) n (omega arith) (omega arith) in omega arith)
    (λ (here : s.0 ≤ i).
    let this : SlotId = record { 0 = i } in
    let cons = times_cons s this (slots_from (i + 1) n) in
    let same = one_same s this (omega arith) in
    let rest = times_outside s (i + 1) n (λ above high. omega arith) in omega arith)
    (cases_lt i s.0)

module _ (z : EpochShape) (first : ℕ) (inside : first < z.slots) where
  -- each slot of a domain comes once
  pub each_once : (s : SlotId) → s.0 < z.slots → times s (in_order z first) ≡ 1
  each_once s there =
      let both = times_append s (slots_from first (z.slots - first)) (slots_from 0 first) in ⊎_elim
      (λ (low : s.0 < first).
      let a = times_outside s first (z.slots - first) (λ up high. omega arith) in
      let b = times_inside s 0 first (omega arith) (omega arith) in omega arith)
      (λ (high : first ≤ s.0).
      let a = times_inside s first (z.slots - first) high (omega arith) in
      let b = times_outside s 0 first (λ up low. omega arith) in omega arith)
      (cases_lt s.0 first)

  -- and there are no others
  pub as_many : length (in_order z first) ≡ z.slots
  as_many =
      let both = length-append (slots_from first (z.slots - first)) (slots_from 0 first) in
      let f : ℕ → SlotId = λ k. record { 0 = k } in
      let a : length (slots_from first (z.slots - first)) ≡ z.slots - first =
      length_each first (z.slots - first) f in
      let b : length (slots_from 0 first) ≡ first = length_each 0 first f in omega arith
