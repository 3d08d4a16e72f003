-- A load of a weak field makes no object.
use Rattle.std.proofs.Common.{◌≡◌, ℕ, refl, ap, List}
use Rattle.std.specs.Prelude.{Err, IfOk, Ok, Option, Result, Some, None}
use Rattle.weak_part_calls.specs.plain_state.declared.act.EventPlace.TheVariants.{WeakField}
use Rattle.weak_part_calls.specs.plain_state.declared.act.PlainAct.{PlainAct}
use Rattle.weak_part_calls.specs.plain_state.declared.slot.SlotId.{SlotId}
use Rattle.weak_part_calls.specs.plain_state.State.{Plain}
use Rattle.weak_part_calls.specs.plain_protocol.Owns.{OwnPart}
use Rattle.weak_part_calls.specs.core_events.declared.view.CoreView.{CoreView}
use Rattle.weak_part_calls.specs.core_events.Words.{slot_in}
use Rattle.weak_part_calls.specs.counted_handles.Handles.{Handle}
use Rattle.weak_part_calls.specs.counted_handles.declared.refusal.LoadError.{LoadError}
use Rattle.weak_part_calls.specs.counted_handles.declared.refusal.LoadError.TheVariants as unloaded
use Rattle.weak_part_calls.specs.acquire_retire.Domains.{DomainState}
use Rattle.weak_part_calls.specs.acquire_retire.Seats.{SeatState}
use Rattle.weak_part_calls.specs.atomic_weak.Places.{named as weakly_named}
use Rattle.weak_part_calls.specs.protected_loads.Loads.{Misses}
use Rattle.weak_part_calls.specs.protected_loads.References.{Loads}
use Rattle.linked_queue.specs.queue_law.declared.view.View.{View}
use Rattle.linked_queue.specs.queue_protocol.declared.law.QueueLaw.{QueueLaw}

module _ (fits : List ℕ → Type 0) (d : DomainState QueueLaw)
    {next : OwnPart → OwnPart → View → PlainAct → ℕ → View}
    {allows : Plain → Plain → ℕ → View → View → Type 0} (old new : SeatState View) where
  pub weak_load_makes : (x : SlotId) (r : Result (Option Handle) LoadError)
      → (r ≡ Err unloaded.Spent → new ≡ old)
      → IfOk r (λ found. Loads fits d (WeakField x) next allows (weakly_named found) old new)
      → ((was now : ℕ) → r ≡ Err (unloaded.Moved was now)
      → Misses fits d 0 (WeakField x) next allows (slot_in was) (slot_in now) old new)
      → new.view.core.makes ≡ old.view.core.makes
  weak_load_makes x (Ok None) same null moved = ap (λ (v : CoreView). v.makes) null.becomes.core
  weak_load_makes x (Ok (Some h)) same l moved = ap (λ (v : CoreView). v.makes) l.core
  weak_load_makes x (Err unloaded.Spent) same l moved =
      ap (λ (z : SeatState View). z.view.core.makes) (same refl)
  weak_load_makes x (Err (unloaded.Moved was now)) same l moved =
      ap (λ (v : CoreView). v.makes) (moved was now refl).core
