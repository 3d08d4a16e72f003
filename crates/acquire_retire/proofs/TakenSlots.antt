-- The slots whose bits are clear are those that aren't free in the state that is shown.
use Rattle.std.proofs.Common.{◌≡◌, ℕ, zero, suc, ◌+◌, ◌<◌, Bool, true, false, List, [], ◌∷◌, ◌++◌, refl, ap, sym, ◌∙◌, arith}
use Rattle.std.specs.Prelude.{◌==◌, not, nat_lt, All, if◌then◌else◌}
use Rattle.std.proofs.lemmas.List.{append-nil}
use Rattle.std.proofs.lemmas.List.Elements.{All-append, All-cons, All-nil, All-weaker}
use Rattle.plain_state.specs.declared.slot.SlotId.{SlotId}
use Rattle.plain_state.specs.declared.slot.PlainSlot.{PlainSlot}
use Rattle.plain_state.specs.declared.slot.Stage.TheVariants.{Free, Blank, Live, Ended, Husk}
use Rattle.plain_state.specs.State.{Plain, stage_at}
use Rattle.core_promises.specs.core_events.declared.shape.Shape.{Shape}
use Rattle.core_promises.specs.core_events.Counts.{Signs, free_bit, is_live_word, signs, stage_of}
use Rattle.core_promises.specs.core_events.Runs.{Core}
use Rattle.core_promises.specs.core_events.Shows.{shows}
use Rattle.core_promises.proofs.Below.core_law_Bridge.{shown_slot}
use Rattle.acquire_retire.specs.Taken.{is_taken, taken_below}

by_signs : (bit claimed dying live : Bool)
    → is_taken (if bit then Free else if claimed then Blank else if dying then Ended
    else if live then Live else Husk) ≡ not bit
by_signs true claimed dying live = refl
by_signs false true dying live = refl
by_signs false false true live = refl
by_signs false false false true = refl
by_signs false false false false = refl

stage_taken : (g : Signs) → is_taken (stage_of g) ≡ not (g.bit == 1)
unfolding stage_of
stage_taken g =
    by_signs (g.bit == 1) (nat_lt 0 g.claimers) (nat_lt 0 g.dying) (is_live_word g.strong)

-- a slot is taken exactly where its bit is clear
pub bit_tells : (z : Shape) (c : Core) (s : SlotId) → s.0 < z.slots
    → not (free_bit z c s == 1) ≡ is_taken (stage_at (shows z c) s)
bit_tells z c s h =
    sym (ap (λ (x : PlainSlot). is_taken x.stage) (shown_slot z c s h) ∙ stage_taken (signs z c s))

-- all that are listed are below
last : (n : ℕ) (b : Bool) → All (λ (s : SlotId). s.0 < suc n)
    (if b then (record { 0 = n }) ∷ [] else [])
last n true =
    let s : SlotId = record { 0 = n } in
    All-cons (λ (x : SlotId). x.0 < suc n) s [] (omega arith) (All-nil (λ (x : SlotId). x.0 < suc n))
last n false = All-nil (λ (x : SlotId). x.0 < suc n)

pub taken_within : (p : Plain) (n : ℕ) → All (λ (s : SlotId). s.0 < n) (taken_below p n)
taken_within p zero = All-nil (λ (x : SlotId). x.0 < 0)
taken_within p (suc n) =
    let s : SlotId = record { 0 = n } in
    All-append (λ (x : SlotId). x.0 < suc n) (taken_below p n)
    (if is_taken (stage_at p s) then s ∷ [] else [])
    (All-weaker (λ (x : SlotId). x.0 < n) (λ (x : SlotId). x.0 < suc n) (λ x h. omega arith)
    (taken_below p n) (taken_within p n))
    (last n (is_taken (stage_at p s)))

-- one more slot, where it isn't free
module _ (p : Plain) (n : ℕ) (old new : List SlotId) (b : Bool)
    (test : b ≡ is_taken (stage_at p (record { 0 = n }))) (before : old ≡ taken_below p n) where
  taken_next : new ≡ old ++ (if b then (record { 0 = n }) ∷ [] else []) → new ≡ taken_below p (n + 1)
  taken_next more =
      let next : suc n ≡ n + 1 = omega arith in
      let s : SlotId = record { 0 = n } in
      more ∙ ((λ i. before i ++ (if test i then s ∷ [] else [])) ∙ ap (taken_below p) next)

  pub taken_more : b ≡ true → new ≡ old ++ (record { 0 = n }) ∷ [] → new ≡ taken_below p (n + 1)
  taken_more is more =
      let s : SlotId = record { 0 = n } in
      taken_next (more ∙ (λ i. old ++ (if sym is i then s ∷ [] else [])))

  pub taken_same : b ≡ false → new ≡ old → new ≡ taken_below p (n + 1)
  taken_same is same =
      let s : SlotId = record { 0 = n } in
      taken_next (same ∙ (sym (append-nil old) ∙ (λ i. old ++ (if sym is i then s ∷ [] else []))))
