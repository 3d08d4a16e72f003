-- What the trail shows of a make.
use Rattle.std.proofs.Common.{◌≡◌, ℕ, List, [], ◌∷◌, refl, ap}
use Rattle.std.specs.Prelude.{Result, Ok, Err, IfOk}
use Rattle.protected_loads.specs.plain_state.declared.act.PlainAct.{PlainAct}
use Rattle.protected_loads.specs.plain_state.State.{Plain}
use Rattle.protected_loads.specs.plain_protocol.Owns.{OwnPart}
use Rattle.protected_loads.specs.core_events.declared.act.Act.TheVariants as act
use Rattle.protected_loads.specs.core_events.declared.outcome.Outcome.TheVariants as outcome
use Rattle.protected_loads.specs.core_events.declared.view.CoreView.{CoreView}
use Rattle.protected_loads.specs.acquire_retire.Collecting.{move}
use Rattle.protected_loads.specs.acquire_retire.Domains.{DomainState}
use Rattle.protected_loads.specs.acquire_retire.Seats.{SeatState}
use Rattle.protected_loads.specs.counted_handles.Handles.{Handle}
use Rattle.slot_store.specs.declared.making.MakeError.{MakeError}
use Rattle.slot_store.specs.declared.making.MakeError.TheVariants as refused
use Rattle.slot_store.specs.Calls.{Makes, begun_by}
use Rattle.slot_store.specs.Searching.{Misses}
use Rattle.lone_heap.specs.Trails.{Shows, started_by}
use Rattle.lone_heap.proofs.Trailing.{becomes_goes, same_goes, shows_end}

module _ {P V : Type 0} (fits : List ℕ → Type 0) (d : DomainState P) where
  -- the trail shows the start of a make that gave a reference
  pub made_shows : (next : OwnPart → OwnPart → V → PlainAct → ℕ → V)
      (allows : Plain → Plain → ℕ → V → V → Type 0) (payload : List ℕ)
      (r : Result Handle MakeError) (old new : SeatState V)
      → (r ≡ Err refused.MakesSpent → new ≡ old) → (r ≡ Err refused.AddsSpent → new ≡ old)
      → (r ≡ Err refused.Full → Misses fits d old new)
      → IfOk r (λ strong. Makes fits d next allows payload strong.slot old new)
      → Shows (started_by r) old.view.core new.view.core
  made_shows next allows payload (Ok h) old new no_make no_add full made =
      shows_end (begun_by made.begins.tries h.slot payload) (move act.Start outcome.Plain ∷ [])
      old.view.core new.view.core (ap (λ (v : CoreView). v.trail) made.core)
  made_shows next allows payload (Err refused.MakesSpent) old new no_make no_add full made =
      same_goes old new (no_make refl)
  made_shows next allows payload (Err refused.AddsSpent) old new no_make no_add full made =
      same_goes old new (no_add refl)
  made_shows next allows payload (Err refused.Full) old new no_make no_add full made =
      becomes_goes d old new (full refl).goes.becomes
