-- The order in which a search comes to the slots: what the tries before a turn have shown of its slot.
use Rattle.std.proofs.Common.{◌≡◌, ◌≢◌, inl, inr, ⊎_elim, ◌⊎◌, ℕ, ◌+◌, ◌-◌, ◌/◌, ◌%◌, ◌^◌, ◌<◌, ◌≤◌, false, List, [], ◌∷◌, refl, arith}
use Rattle.std.specs.Prelude.{◌==◌}
use Rattle.std.proofs.lemmas.Bool.{cases_lt}
use Rattle.std.proofs.lemmas.Bool.Decides.{nat_tests}
use Rattle.protocol_pairs.specs.plain_state.declared.slot.SlotId.{SlotId}
use Rattle.protocol_pairs.specs.plain_state.Lists.{times}
use Rattle.claim_law.proofs.Below.core_law_Kit.{one_other, times_cons, times_none}
use Rattle.slot_store.specs.Searching.{Try, bits_of, latest, tried}
use Rattle.slot_store.specs.Turns.{IsAtTurn}

-- the slot of this number comes before this turn
abbrev pub ComesBefore : ℕ → ℕ → ℕ → ℕ → Type 0
ComesBefore first slots turn x =
    ((first ≤ x) × (x < first + turn)) ⊎ ((x < first) × (x + slots < first + turn))

abbrev pub ComeBefore : ℕ → ℕ → ℕ → List Try → Type 0
ComeBefore first slots turn [] = Unit {0}
ComeBefore first slots turn (t ∷ ts) =
    ComesBefore first slots turn t.slot.0 × (t.slot.0 < slots) × ComeBefore first slots turn ts

pub none_before : (first slots x : ℕ) → x < slots → first < slots
    → ComesBefore first slots 0 x → ⊥
none_before first slots x inside start before = ⊎_elim
    (λ (up : (first ≤ x) × (x < first + 0)). let a = up.0 in let b = up.1 in omega arith)
    (λ (round : (x < first) × (x + slots < first + 0)). let b = round.1 in omega arith)
    before

module _ (first slots turn : ℕ) (start : first < slots) (more : turn < slots) where
  pub comes_still : (x : ℕ) → ComesBefore first slots turn x → ComesBefore first slots (turn + 1) x
  comes_still x before = ⊎_elim
      (λ (up : (first ≤ x) × (x < first + turn)).
      inl (up.0, (let h = up.1 in omega arith)))
      (λ (round : (x < first) × (x + slots < first + turn)).
      inr (round.0, (let h = round.1 in omega arith)))
      before

  pub come_still : (ts : List Try) → ComeBefore first slots turn ts
      → ComeBefore first slots (turn + 1) ts
  come_still [] before = tt
  come_still (t ∷ ts) before =
      (comes_still t.slot.0 before.0, before.1, come_still ts before.2)

  module _ (number : ℕ) (at : IsAtTurn first slots turn number) where
    pub comes_now : ComesBefore first slots (turn + 1) number
    comes_now = ⊎_elim
        (λ (up : (number ≡ first + turn) × (number < slots)).
        let h = up.0 in inl (omega arith, omega arith))
        (λ (round : (number + slots ≡ first + turn) × (number < first)).
        let h = round.0 in inr (round.1, omega arith))
        at

    pub there : number < slots
    there = ⊎_elim (λ up. up.1) (λ round. let h = round.1 in omega arith) at

    -- what comes before the next turn came before, or is the slot of this one
    pub comes_or : (x : ℕ) → x < slots → ComesBefore first slots (turn + 1) x
        → ComesBefore first slots turn x ⊎ (x ≡ number)
    comes_or x inside before = ⊎_elim
        (λ (up : (first ≤ x) × (x < first + (turn + 1))).
        let a = up.0 in let b = up.1 in ⊎_elim
        (λ (lt : x < first + turn). inl (inl (a, lt)))
        (λ (ge : first + turn ≤ x). inr (⊎_elim
        (λ (now : (number ≡ first + turn) × (number < slots)). let h = now.0 in omega arith)
        (λ (now : (number + slots ≡ first + turn) × (number < first)).
        let h = now.0 in absurd (omega arith)) at))
        (cases_lt x (first + turn)))
        (λ (round : (x < first) × (x + slots < first + (turn + 1))).
        let a = round.0 in let b = round.1 in ⊎_elim
        (λ (lt : x + slots < first + turn). inl (inr (a, lt)))
        (λ (ge : first + turn ≤ x + slots). inr (⊎_elim
        (λ (now : (number ≡ first + turn) × (number < slots)).
        let h = now.0 in let i = now.1 in absurd (omega arith))
        (λ (now : (number + slots ≡ first + turn) × (number < first)).
        let h = now.0 in omega arith) at))
        (cases_lt (x + slots) (first + turn)))
        before

    apart : (x : ℕ) → ComesBefore first slots turn x → x < slots → x ≢ number
    apart x before inside is = ⊎_elim
        (λ (up : (first ≤ x) × (x < first + turn)). let a = up.0 in let b = up.1 in ⊎_elim
        (λ (now : (number ≡ first + turn) × (number < slots)). let h = now.0 in omega arith)
        (λ (now : (number + slots ≡ first + turn) × (number < first)).
        let h = now.1 in omega arith) at)
        (λ (round : (x < first) × (x + slots < first + turn)).
        let a = round.0 in let b = round.1 in ⊎_elim
        (λ (now : (number ≡ first + turn) × (number < slots)). let h = now.0 in omega arith)
        (λ (now : (number + slots ≡ first + turn) × (number < first)).
        let h = now.0 in omega arith) at)
        before

    -- it wasn't tried
    pub untried : (s : SlotId) → s.0 ≡ number → (ts : List Try) → ComeBefore first slots turn ts
        → times s (tried ts) ≡ 0
    untried s is [] before = times_none s
    untried s is (t ∷ ts) before =
        let more = times_cons s t.slot (tried ts) in
        let other = one_other s t.slot (λ same. apart t.slot.0 before.0 before.1 (omega arith)) in
        let rest = untried s is ts before.2 in omega arith

    -- its word of bits, where it is the first of the word and not of that in which the search began
    apart_word : (x : ℕ) → ComesBefore first slots turn x → x < slots → number % 64 ≡ 0
        → number / 64 ≢ first / 64 → x / 64 ≢ number / 64
    apart_word x before inside begins other same = ⊎_elim
        (λ (up : (first ≤ x) × (x < first + turn)). let a = up.0 in let b = up.1 in ⊎_elim
        (λ (now : (number ≡ first + turn) × (number < slots)). let h = now.0 in omega arith)
        (λ (now : (number + slots ≡ first + turn) × (number < first)).
        let h = now.1 in other (omega arith)) at)
        (λ (round : (x < first) × (x + slots < first + turn)).
        let a = round.0 in let b = round.1 in ⊎_elim
        (λ (now : (number ≡ first + turn) × (number < slots)).
        let h = now.0 in let i = now.1 in omega arith)
        (λ (now : (number + slots ≡ first + turn) × (number < first)).
        let h = now.0 in omega arith) at)
        before

    pub unread : (ts : List Try) → ComeBefore first slots turn ts → number % 64 ≡ 0
        → number / 64 ≢ first / 64 → latest (number / 64) ts ≡ 2 ^ 64 - 1
    unread [] before begins other = refl
    unread (t ∷ ts) before begins other =
        let not = apart_word t.slot.0 before.0 before.1 begins other in
        let test : (bits_of t.slot == number / 64) ≡ false = grind (arith, nat_tests) in
        rw test (unread ts before.2 begins other)

-- within a word the slot before is that of the turn before
pub same_word : (first slots turn number later : ℕ) → first < slots → turn < slots
    → IsAtTurn first slots turn number → IsAtTurn first slots (turn + 1) later → later % 64 ≢ 0
    → later ≡ number + 1
same_word first slots turn number later start more at next inside = ⊎_elim
    (λ (now : (number ≡ first + turn) × (number < slots)). let h = now.0 in let i = now.1 in ⊎_elim
    (λ (next_is : (later ≡ first + (turn + 1)) × (later < slots)). let k = next_is.0 in omega arith)
    (λ (next_is : (later + slots ≡ first + (turn + 1)) × (later < first)).
    let k = next_is.0 in absurd (let zero : later ≡ 0 = omega arith in inside (omega arith))) next)
    (λ (now : (number + slots ≡ first + turn) × (number < first)).
    let h = now.0 in ⊎_elim
    (λ (next_is : (later ≡ first + (turn + 1)) × (later < slots)).
    let k = next_is.0 in let l = next_is.1 in absurd (omega arith))
    (λ (next_is : (later + slots ≡ first + (turn + 1)) × (later < first)).
    let k = next_is.0 in omega arith) next)
    at

-- after as many turns as there are slots each has come
pub all_come : (first slots x : ℕ) → x < slots → ComesBefore first slots slots x
all_come first slots x inside = ⊎_elim
    (λ (low : x < first). inr (low, omega arith))
    (λ (high : first ≤ x). inl (high, omega arith))
    (cases_lt x first)
