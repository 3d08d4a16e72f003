-- The dying list of a seat is never longer than the domain has slots.
use Rattle.std.proofs.Common.{◌≡◌, ⊎_elim, ℕ, zero, suc, ◌+◌, ◌<◌, ◌≤◌, List, [], ◌∷◌, length, refl, sym, arith}
use Rattle.std.proofs.lemmas.Bool.{cases_lt}
use Rattle.core_law.proofs.Kit.{below_but, below_none, below_same, one_other, one_same, times_cons, times_none}
use Rattle.epoch_rule.specs.plain_protocol.plain_state.declared.slot.SlotId.{SlotId}
use Rattle.epoch_rule.specs.plain_protocol.plain_state.Lists.{times}
use Rattle.epoch_rule.specs.epoch_core.core_events.Counts.{one, sum_below}
use Rattle.epoch_rule.specs.epoch_core.declared.shape.EpochShape.{EpochShape}
use Rattle.epoch_rule.specs.epoch_core.declared.view.EpochView.{EpochView}
use Rattle.epoch_rule.specs.epoch_core.Counts.{adds_used, dying_times}
use Rattle.epoch_rule.specs.epoch_core.Runs.{Core, view_at}
use Rattle.epoch_rule.specs.epoch_core.Slots.{SlotLaw, free, held, live, numbers}
use Rattle.epoch_rule.specs.epoch_core.Sound.{Sound}
use Rattle.epoch_core.proofs.Kit.{total_at}

-- the slot of a number
abbrev slot : ℕ → SlotId
slot i = record { 0 = i }

below_plus : (n : ℕ) (f g : ℕ → ℕ) → sum_below n (λ i. f i + g i) ≡ sum_below n f + sum_below n g
unfolding sum_below
below_plus zero f g = refl
below_plus (suc n) f g = let r = below_plus n f g in omega arith

below_most : (n : ℕ) (f : ℕ → ℕ) → ((i : ℕ) → f i ≤ 1) → sum_below n f ≤ n
unfolding sum_below
below_most zero f most = omega arith
below_most (suc n) f most = let r = below_most n f most in let l = most n in omega arith

-- a slot below n is one of the first n
one_below : (n : ℕ) (x : SlotId) → x.0 < n → sum_below n (λ i. one (slot i) x) ≡ 1
one_below n x h =
    let none = below_none n (λ i. 0) (λ i _. refl) in
    let but = below_but n x.0 (λ i. 0) (λ i. one (slot i) x) h
    (λ i _ ne. one_other (slot i) x (λ e. ne (sym e))) in
    let same = one_same (slot x.0) x refl in omega arith

-- a list of slots below n is as long as these stand in it
length_below : (n : ℕ) (xs : List SlotId) → ((s : SlotId) → n ≤ s.0 → times s xs ≡ 0)
    → length xs ≡ sum_below n (λ i. times (slot i) xs)
length_below n [] range = sym (below_none n (λ i. times (slot i) []) (λ i _. times_none (slot i)))
length_below n (x ∷ xs) range =
    let rest = length_below n xs (λ s past.
    let e = range s past in let c = times_cons s x xs in omega arith) in
    let below : x.0 < n = ⊎_elim (λ lt. lt)
    (λ past. let e = range x past in let c = times_cons x x xs in let o = one_same x x refl in
    absurd (omega arith)) (cases_lt x.0 n) in
    let split = below_same n (λ i. one (slot i) x + times (slot i) xs)
    (λ i. times (slot i) (x ∷ xs)) (λ i _. times_cons (slot i) x xs) in
    let sum = below_plus n (λ i. one (slot i) x) (λ i. times (slot i) xs) in
    let first = one_below n x below in omega arith

-- a list of slots below n that has each at most once is no longer than n
pub few_once : (n : ℕ) (xs : List SlotId) → ((s : SlotId) → n ≤ s.0 → times s xs ≡ 0)
    → ((s : SlotId) → times s xs ≤ 1) → length xs ≤ n
few_once n xs range once =
    let len = length_below n xs range in
    let most = below_most n (λ i. times (slot i) xs) (λ i. once (slot i)) in omega arith

-- in all dying lists together each slot stands at most once
dying_once : (z : EpochShape) (c : Core) (s : SlotId) → SlotLaw (adds_used c) (numbers z c s)
    → dying_times c s ≤ 1
dying_once z c s (free law) = let none = law.dying in omega arith
dying_once z c s (held law) = let sum = law.one in omega arith
dying_once z c s (live law) = let none = law.dying in omega arith

module _ (z : EpochShape) (c : Core) (n : ℕ) (so : Sound z c) (there : n < length c.views) where
  dying_there : (s : SlotId) → z.slots ≤ s.0 → times s (view_at c n).dying ≡ 0
  dying_there s past =
      let views = so.views in
      let none = (so.seats n (omega arith)).range s past in omega arith

  -- so each slot stands at most once in the dying list of a seat
  pub once_dying_in : (s : SlotId) → times s (view_at c n).dying ≤ 1
  once_dying_in s = ⊎_elim
      (λ (below : s.0 < z.slots).
      let all = dying_once z c s (so.slots s below) in
      let mine = total_at (λ (u : EpochView). times s u.dying) c.views n there in omega arith)
      (λ (past : z.slots ≤ s.0). let none = dying_there s past in omega arith)
      (cases_lt s.0 z.slots)

  pub few_dying_in : length (view_at c n).dying ≤ z.slots
  few_dying_in = few_once z.slots (view_at c n).dying dying_there once_dying_in
