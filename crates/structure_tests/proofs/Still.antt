-- Calls with the deed that leaves a view as it is: the client's view stays.
use Rattle.std.proofs.Common.{◌≡◌, ℕ, List, [], ◌∷◌, ap, refl, ◌∙◌}
use Rattle.std.specs.Prelude.{Err, IfOk, None, Ok, Option, Result, Some}
use Rattle.part_calls.specs.plain_state.declared.act.EventPlace.{EventPlace}
use Rattle.part_calls.specs.plain_state.State.{Plain}
use Rattle.part_calls.specs.plain_state.declared.slot.SlotId.{SlotId}
use Rattle.part_calls.specs.core_events.declared.view.CoreView.{CoreView}
use Rattle.part_calls.specs.core_events.declared.view.Move.{Move}
use Rattle.part_calls.specs.core_events.Words.{slot_in}
use Rattle.part_calls.specs.acquire_retire.Calls.{same_view}
use Rattle.part_calls.specs.acquire_retire.Collecting.{WalksBy}
use Rattle.part_calls.specs.acquire_retire.Domains.{DomainState}
use Rattle.part_calls.specs.acquire_retire.Seats.{SeatState}
use Rattle.part_calls.specs.control_word.Moves.{Becomes}
use Rattle.part_calls.specs.control_word.counted_handles.Handles.{Handle}
use Rattle.part_calls.specs.control_word.counted_handles.declared.refusal.LoadError.{LoadError}
use Rattle.part_calls.specs.control_word.counted_handles.declared.refusal.LoadError.TheVariants as refused
use Rattle.part_calls.specs.atomic_shared.Places.{named}
use Rattle.part_calls.specs.protected_loads.Loads.{Misses}
use Rattle.part_calls.specs.protected_loads.References.{Loads}

module _ {P V : Type 0} (fits : List ℕ → Type 0) (d : DomainState P)
    (allows : Plain → Plain → ℕ → V → V → Type 0) where
  walk_client : (ms : List Move) (old new : SeatState V)
      → WalksBy fits d same_view allows ms old new → new.view.client ≡ old.view.client
  walk_client [] old new walks = ap (λ (s : SeatState V). s.view.client) walks
  walk_client (m ∷ ms) old new walks =
      walk_client ms walks.0 new walks.2 ∙ walks.1.told.client

  pub stays_client : {ms : List Move} {v : CoreView} {old new : SeatState V}
      → Becomes fits d same_view allows ms v old new → new.view.client ≡ old.view.client
  stays_client {ms = ms} {old = old} {new = new} by = walk_client ms old new by.walks

  module _ (place : EventPlace) (old new : SeatState V) where
    load_client : (found : Option SlotId) → Loads fits d place same_view allows found old new
        → new.view.client ≡ old.view.client
    load_client None null = stays_client null.becomes
    load_client (Some s) refers =
        refers.client ∙ stays_client refers.protects.checks
        ∙ refers.protects.announces.client

    miss_client : (seen now : Option SlotId)
        → Misses fits d 0 place same_view allows seen now old new
        → new.view.client ≡ old.view.client
    miss_client seen now misses =
        misses.client ∙ stays_client misses.checks ∙ misses.announces.client

    -- whatever a load answers
    pub loaded_client : (r : Result (Option Handle) LoadError)
        → IfOk r (λ found. Loads fits d place same_view allows (named found) old new)
        → (r ≡ Err refused.Spent → new ≡ old)
        → ((seen now : ℕ) → r ≡ Err (refused.Moved seen now)
        → Misses fits d 0 place same_view allows (slot_in seen) (slot_in now) old new)
        → new.view.client ≡ old.view.client
    loaded_client (Ok found) loads spent misses = load_client (named found) loads
    loaded_client (Err refused.Spent) loads spent misses =
        ap (λ (s : SeatState V). s.view.client) (spent refl)
    loaded_client (Err (refused.Moved seen now)) loads spent misses =
        miss_client (slot_in seen) (slot_in now) (misses seen now refl)
