-- A load makes no object.
use Rattle.std.proofs.Common.{◌≡◌, ℕ, refl, ap, List}
use Rattle.std.specs.Prelude.{Err, IfOk, Ok, Option, Result, Some, None}
use Rattle.queue_protocol.specs.plain_state.declared.act.PlainAct.{PlainAct}
use Rattle.queue_protocol.specs.plain_state.State.{Plain}
use Rattle.queue_protocol.specs.plain_protocol.Owns.{OwnPart}
use Rattle.slot_store.specs.core_events.declared.view.CoreView.{CoreView}
use Rattle.slot_store.specs.core_events.Words.{slot_in}
use Rattle.slot_store.specs.counted_handles.Handles.{Handle}
use Rattle.slot_store.specs.counted_handles.declared.place.Place.{Place}
use Rattle.slot_store.specs.counted_handles.declared.refusal.LoadError.{LoadError}
use Rattle.slot_store.specs.counted_handles.declared.refusal.LoadError.TheVariants as unloaded
use Rattle.slot_store.specs.acquire_retire.Domains.{DomainState}
use Rattle.slot_store.specs.acquire_retire.Seats.{SeatState}
use Rattle.part_calls.specs.atomic_shared.Places.{named, strong_place}
use Rattle.part_calls.specs.protected_loads.Loads.{Misses}
use Rattle.part_calls.specs.protected_loads.References.{Loads}
use Rattle.queue_protocol.specs.queue_law.declared.view.View.{View}
use Rattle.queue_protocol.specs.declared.law.QueueLaw.{QueueLaw}
use Rattle.linked_queue.proofs.Sights.{core_found}

module _ (fits : List ℕ → Type 0) (d : DomainState QueueLaw)
    {next : OwnPart → OwnPart → View → PlainAct → ℕ → View}
    {allows : Plain → Plain → ℕ → View → View → Type 0} (old new : SeatState View) where
  pub load_makes : (q : Place) (r : Result (Option Handle) LoadError)
      → (r ≡ Err unloaded.Spent → new ≡ old)
      → IfOk r (λ found. Loads fits d (strong_place q) next allows (named found) old new)
      → ((was now : ℕ) → r ≡ Err (unloaded.Moved was now)
      → Misses fits d 0 (strong_place q) next allows (slot_in was) (slot_in now) old new)
      → new.view.core.makes ≡ old.view.core.makes
  load_makes q (Ok None) same null moved = ap (λ (v : CoreView). v.makes) null.becomes.core
  load_makes q (Ok (Some h)) same l moved =
      ap (λ (v : CoreView). v.makes) (core_found fits d q old new h.slot l)
  load_makes q (Err unloaded.Spent) same l moved =
      ap (λ (z : SeatState View). z.view.core.makes) (same refl)
  load_makes q (Err (unloaded.Moved was now)) same l moved =
      ap (λ (v : CoreView). v.makes) (moved was now refl).core
