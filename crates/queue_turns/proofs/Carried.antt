-- A seat that pushes copies of a reference of its own, and drops what it pops, owns that reference still.
use Rattle.std.proofs.Common.{◌≡◌, ◌∙◌, inl, inr, ℕ, ◌<◌, Bool, true, false, List, [], ◌∷◌, ◌++◌, ◌+◌, length, length-append, refl, ap, subst, arith}
use Rattle.std.specs.Prelude.{Option, Some, None}
use Rattle.turn_loops.specs.retiring_stores.Scanning.{Collected}
use Rattle.turn_loops.specs.slot_store.Reaping.{Answers}
use Rattle.turn_loops.specs.plain_state.declared.slot.SlotId.{SlotId}
use Rattle.turn_loops.specs.plain_state.Lists.{times}
use Rattle.turn_loops.specs.core_events.declared.view.CoreView.{CoreView}
use Rattle.turn_loops.specs.core_events.Views.{without}
use Rattle.turn_loops.proofs.Below.core_law_Kit.{one_same, times_push, times_without}
use Rattle.turn_loops.specs.acquire_retire.Calls.{IsSameView, same_view}
use Rattle.turn_loops.specs.acquire_retire.Collecting.{ends}
use Rattle.turn_loops.specs.acquire_retire.Domains.{DomainState}
use Rattle.turn_loops.specs.acquire_retire.Seats.{SeatState}
use Rattle.turn_loops.specs.control_word.Calls.{DropsStrong, GainsStrong, with_ended, without_strong}

owned_ended : (b : Bool) (s : SlotId) (v : CoreView) → (with_ended b s v).owned ≡ v.owned
owned_ended true s v = refl
owned_ended false s v = refl

-- what it owns after a copy
module _ {P V : Type 0} {fits : List ℕ → Type 0} (d : DomainState P) where
  pub copied_owned : (x : SlotId) (old new : SeatState V)
      → GainsStrong fits d same_view IsSameView x old new
      → new.view.core.owned ≡ old.view.core.owned ++ x ∷ []
  copied_owned x old new gains = ap (λ (v : CoreView). v.owned) gains.core

-- what it owns after a drop
module _ {P V : Type 0} {fits : List ℕ → Type 0} (d : DomainState P) where
  pub dropped_owned : (s : SlotId) (old new : SeatState V) → DropsStrong fits d s old new
      → new.view.core.owned ≡ without s old.view.core.owned
  dropped_owned s old new drops =
      ap (λ (v : CoreView). v.owned) drops.1.core
      ∙ owned_ended (ends drops.0) s (without_strong s old.view.core)

-- a reference that was added last has gone again
pub as_before : (x s : SlotId) (xs mid ys : List SlotId)
    → ((y : SlotId) → times y mid ≡ times y (xs ++ s ∷ [])) → times x ys ≡ times x (without s mid)
    → times x ys ≡ times x xs
as_before x s xs mid ys added is =
    let push_s = times_push s s xs in
    let one = one_same s s refl in
    let in_mid : 0 < times s mid = omega (arith, added s) in
    let fewer = times_without x s mid in_mid in
    let push_x = times_push x s xs in omega (arith, added x)

-- the same of another name of its slot
pub as_before_named : (x s t : SlotId) → t ≡ s → (xs mid ys : List SlotId)
    → ((y : SlotId) → times y mid ≡ times y (xs ++ s ∷ [])) → times x ys ≡ times x (without t mid)
    → times x ys ≡ times x xs
as_before_named x s t same xs mid ys added is =
    as_before x s xs mid ys added
    (subst (λ (u : SlotId). times x ys ≡ times x (without u mid)) same is)

module _ {P V : Type 0} (fits : List ℕ → Type 0) (d : DomainState P) (old new : SeatState V) where
  -- a collect leaves what the seat owns
  pub collected_owned : Collected fits d old new → new.view.core.owned ≡ old.view.core.owned
  collected_owned collected = ap (λ (v : CoreView). v.owned) collected.collects.goes.rest

  -- and so does a reap, whatever it answers
  pub reaped_owned : (weight : List ℕ → ℕ) (result : Option ℕ)
      → Answers fits d weight result old new → new.view.core.owned ≡ old.view.core.owned
  reaped_owned weight None (inl (none, same)) = ap (λ (s : SeatState V). s.view.core.owned) same
  reaped_owned weight None (inr (none, waits)) = collected_owned waits.collected
  reaped_owned weight (Some answer) reaps = ap (λ (v : CoreView). v.owned) reaps.same

-- a list with one more is one longer
pub length_push : {A : Type 0} (xs : List A) (x : A) → length (xs ++ x ∷ []) ≡ length xs + 1
length_push xs x = length-append xs (x ∷ [])
