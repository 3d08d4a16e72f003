-- What a call of a turn adds to the adds, the makes and the steps of its seat.
use Rattle.std.proofs.Common.{◌≡◌, ◌∙◌, ◌⊎◌, inl, inr, ℕ, ◌+◌, ◌≤◌, Bool, true, false, List, ◌++◌, length, refl, ap, arith, length-append, Option, Some, None}
use Rattle.snapshot_ptr.specs.plain_state.declared.act.EventPlace.TheVariants.{Cell}
use Rattle.snapshot_ptr.specs.plain_state.declared.act.PlainAct.{PlainAct}
use Rattle.snapshot_ptr.specs.plain_state.declared.slot.SlotId.{SlotId}
use Rattle.snapshot_ptr.specs.plain_state.State.{Plain}
use Rattle.snapshot_ptr.specs.plain_protocol.Owns.{OwnPart}
use Rattle.slot_store.specs.core_events.declared.view.CoreView.{CoreView}
use Rattle.slot_store.specs.core_events.declared.view.Move.{Move}
use Rattle.slot_store.specs.acquire_retire.Collecting.{ends}
use Rattle.slot_store.specs.acquire_retire.declared.payment.Payment.{Payment}
use Rattle.slot_store.specs.acquire_retire.declared.payment.Payment.TheVariants as payment
use Rattle.slot_store.specs.acquire_retire.Domains.{DomainState}
use Rattle.slot_store.specs.acquire_retire.Seats.{SeatState}
use Rattle.slot_store.specs.control_word.Calls.{DropsStrong, DropsWeak, GainsStrong, GainsWeak, dropped_by, with_ended, without_strong}
use Rattle.slot_store.specs.retiring_stores.Exchanging.{Stores}
use Rattle.slot_store.specs.Calls.{Makes}
use Rattle.slot_store.specs.Reaping.{Answers}
use Rattle.snapshot_ptr.specs.protected_loads.Loads.{protected_by}
use Rattle.snapshot_ptr.specs.protected_loads.References.{loaded_by}
use Rattle.snapshot_ptr.specs.protected_loads.Retries.{AtLast, LoadsAtLast, lost_by}
use Rattle.snapshot_ptr.specs.Ending.{Ends, GivesUp}
use Rattle.snapshot_ptr.specs.Handles.{Snap}
use Rattle.snapshot_ptr.specs.Taking.{Takes}

ended_adds : (b : Bool) (s : SlotId) (v : CoreView) → (with_ended b s v).adds ≡ v.adds
ended_adds true s v = refl
ended_adds false s v = refl

ended_makes : (b : Bool) (s : SlotId) (v : CoreView) → (with_ended b s v).makes ≡ v.makes
ended_makes true s v = refl
ended_makes false s v = refl

ended_weaks : (b : Bool) (s : SlotId) (v : CoreView) → (with_ended b s v).weaks ≡ v.weaks
ended_weaks true s v = refl
ended_weaks false s v = refl

-- a drop has at least one move
some_moves : (s : SlotId) (how : Payment) → 1 ≤ length (dropped_by s how)
some_moves s payment.Left = omega arith
some_moves s payment.Ended = omega arith
some_moves s payment.Lost = omega arith
some_moves s payment.Helped = omega arith
some_moves s payment.NoHelp = omega arith
some_moves s payment.Freed = omega arith

-- a trail with so many moves more is as much longer
longer : (xs ms ys : List Move) (n : ℕ) → ys ≡ xs ++ ms → n ≤ length ms → length xs + n ≤ length ys
longer xs ms ys n is le = let e = ap length is in let l = length-append xs ms in omega arith

module _ {P V : Type 0} (fits : List ℕ → Type 0) (d : DomainState P) where
  pub dropped_adds : (s : SlotId) (old new : SeatState V) → DropsStrong fits d s old new
      → new.view.core.adds ≡ old.view.core.adds
  dropped_adds s old new drops =
      ap (λ (v : CoreView). v.adds) drops.1.core
      ∙ ended_adds (ends drops.0) s (without_strong s old.view.core)

  pub dropped_makes : (s : SlotId) (old new : SeatState V) → DropsStrong fits d s old new
      → new.view.core.makes ≡ old.view.core.makes
  dropped_makes s old new drops =
      ap (λ (v : CoreView). v.makes) drops.1.core
      ∙ ended_makes (ends drops.0) s (without_strong s old.view.core)

  pub dropped_weaks : (s : SlotId) (old new : SeatState V) → DropsStrong fits d s old new
      → new.view.core.weaks ≡ old.view.core.weaks
  dropped_weaks s old new drops =
      ap (λ (v : CoreView). v.weaks) drops.1.core
      ∙ ended_weaks (ends drops.0) s (without_strong s old.view.core)

  pub dropped_steps : (s : SlotId) (old new : SeatState V) → DropsStrong fits d s old new
      → length old.view.core.trail + 1 ≤ length new.view.core.trail
  dropped_steps s old new drops =
      longer old.view.core.trail (dropped_by s drops.0) new.view.core.trail 1
      (ap (λ (v : CoreView). v.trail) drops.1.core) (some_moves s drops.0)

  pub weakly_dropped_adds : (s : SlotId) (old new : SeatState V) → DropsWeak fits d s old new
      → new.view.core.adds ≡ old.view.core.adds
  weakly_dropped_adds s old new drops = ap (λ (v : CoreView). v.adds) drops.1.core

  pub ended_steps : (snap : Snap) (old new : SeatState V) → Ends fits d snap old new
      → length old.view.core.trail + 1 ≤ length new.view.core.trail
  ended_steps snap old new ends' = by_word snap.word ends'
    where
      by_word : (o : Option ℕ) → GivesUp fits d o snap.slot old new
          → length old.view.core.trail + 1 ≤ length new.view.core.trail
      by_word None gives = dropped_steps snap.slot old new gives
      by_word (Some j) gives =
          longer old.view.core.trail _ new.view.core.trail 1
          (ap (λ (v : CoreView). v.trail) gives.core) (omega arith)

module _ {P V : Type 0} (fits : List ℕ → Type 0) (d : DomainState P)
    (next : OwnPart → OwnPart → V → PlainAct → ℕ → V)
    (allows : Plain → Plain → ℕ → V → V → Type 0) where
  pub gained_adds : (s : SlotId) (old new : SeatState V) → GainsStrong fits d next allows s old new
      → new.view.core.adds ≡ old.view.core.adds + 1
  gained_adds s old new gains = ap (λ (v : CoreView). v.adds) gains.core

  pub gained_weaks : (s : SlotId) (old new : SeatState V) → GainsStrong fits d next allows s old new
      → new.view.core.weaks ≡ old.view.core.weaks
  gained_weaks s old new gains = ap (λ (v : CoreView). v.weaks) gains.core

  pub loaded_adds : (s : SlotId) (old new : SeatState V)
      → LoadsAtLast fits d (Cell 0) next allows (Some s) old new
      → new.view.core.adds ≡ old.view.core.adds + 1
  loaded_adds s old new loads =
      let a = ap (λ (v : CoreView). v.adds) loads.goes.core in
      let b = ap (λ (v : CoreView). v.adds) loads.core in omega arith

  taken_steps : (o : Option ℕ) (s : SlotId) (old new : SeatState V)
      → Takes fits d (Cell 0) next allows o (Some s) old new
      → length old.view.core.trail + 3 ≤ length new.view.core.trail
  taken_steps None s old new takes =
      longer old.view.core.trail (loaded_by (Cell 0) s) new.view.core.trail 3
      (ap (λ (v : CoreView). v.trail) takes.core) (omega arith)
  taken_steps (Some j) s old new takes =
      longer old.view.core.trail (protected_by j (Cell 0) s) new.view.core.trail 3
      (ap (λ (v : CoreView). v.trail) takes.core) (omega arith)

  pub snapshot_steps : (j : ℕ) (o : Option ℕ) (s : SlotId) (old new : SeatState V)
      → AtLast fits d (Cell 0) next allows j (Takes fits d (Cell 0) next allows o (Some s)) old new
      → length old.view.core.trail + 3 ≤ length new.view.core.trail
  snapshot_steps j o s old new taken =
      let a = ap (λ (v : CoreView). length v.trail) taken.core in
      let l = length-append old.view.core.trail (lost_by j (Cell 0) taken.lost) in
      let t = taken_steps o s taken.mid new taken.goes in omega arith

  pub made_makes : (payload : List ℕ) (s : SlotId) (old new : SeatState V)
      → Makes fits d next allows payload s old new
      → new.view.core.makes ≡ old.view.core.makes + 1
  made_makes payload s old new makes = ap (λ (v : CoreView). v.makes) makes.core

  pub stored_makes : (s : SlotId) (old new : SeatState V)
      → Stores fits d next allows (Cell 0) (Some s) old new
      → new.view.core.makes ≡ old.view.core.makes
  stored_makes s old new stores = ap (λ (v : CoreView). v.makes) stores.swaps.same

module _ {P V : Type 0} (fits : List ℕ → Type 0) (d : DomainState P) where
  pub weakened_adds : (s : SlotId) (old new : SeatState V) → GainsWeak fits d s old new
      → new.view.core.adds ≡ old.view.core.adds + 1
  weakened_adds s old new gains = ap (λ (v : CoreView). v.adds) gains.core

  pub reaped_makes : (weight : List ℕ → ℕ) (result : Option ℕ) (old new : SeatState V)
      → Answers fits d weight result old new → new.view.core.makes ≡ old.view.core.makes
  reaped_makes weight None old new (inl (none, same)) = ap (λ (s : SeatState V). s.view.core.makes) same
  reaped_makes weight None old new (inr (none, waits)) =
      ap (λ (v : CoreView). v.makes) waits.collected.collects.goes.rest
  reaped_makes weight (Some answer) old new reaps = ap (λ (v : CoreView). v.makes) reaps.same
