-- A load of a field of an item: it leaves the client's view, and what the seat sees.
use Rattle.std.proofs.Common.{◌≡◌, ℕ, ◌<◌, ◌∙◌, refl, ap, arith, List}
use Rattle.std.specs.Prelude.{Err, IfOk, Ok, Option, Result, Some, None}
use Rattle.queue_protocol.specs.plain_state.declared.act.EventPlace.{EventPlace}
use Rattle.queue_protocol.specs.plain_state.State.{Plain}
use Rattle.slot_store.specs.counted_handles.Handles.{Handle}
use Rattle.slot_store.specs.counted_handles.declared.refusal.LoadError.{LoadError}
use Rattle.slot_store.specs.counted_handles.declared.refusal.LoadError.TheVariants as unloaded
use Rattle.slot_store.specs.core_events.Words.{slot_in}
use Rattle.slot_store.specs.acquire_retire.Calls.{same_view}
use Rattle.slot_store.specs.acquire_retire.Domains.{DomainState}
use Rattle.slot_store.specs.acquire_retire.Seats.{SeatState}
use Rattle.part_calls.specs.atomic_shared.Places.{named}
use Rattle.slot_store.specs.control_word.Resting.{IsAtRest}
use Rattle.part_calls.specs.protected_loads.Loads.{Misses}
use Rattle.part_calls.specs.protected_loads.References.{Loads}
use Rattle.part_calls.proofs.Below.protected_loads_Learning.{client_found, client_moved, client_null}
use Rattle.slot_store.specs.domain_rule.Views.{object_in}
use Rattle.queue_protocol.specs.plain_state.declared.slot.SlotId.{SlotId}
use Rattle.queue_protocol.specs.plain_state.Lists.{times}
use Rattle.queue_protocol.specs.queue_law.declared.view.View.{View}
use Rattle.queue_protocol.specs.declared.law.QueueLaw.{QueueLaw}
use Rattle.linked_queue.specs.Leaving.{Leaves, with_found, without_found}
use Rattle.linked_queue.specs.Seeing.{SeesItem}
use Rattle.linked_queue.proofs.Nodes.{next_still}
use Rattle.linked_queue.proofs.Owning.{found_more, through}
use Rattle.linked_queue.proofs.Poppings.{leaves_on}

module _ (fits : List ℕ → Type 0) (d : DomainState QueueLaw) (place : EventPlace)
    {allows : Plain → Plain → ℕ → View → View → Type 0} (old new : SeatState View)
    (rest : IsAtRest d old) where
  pub client_stays : (r : Result (Option Handle) LoadError)
      → (r ≡ Err unloaded.Spent → new ≡ old)
      → IfOk r (λ found. Loads fits d place same_view allows (named found) old new)
      → ((was now : ℕ) → r ≡ Err (unloaded.Moved was now)
      → Misses fits d 0 place same_view allows (slot_in was) (slot_in now) old new)
      → new.view.client ≡ old.view.client
  client_stays (Ok None) same null moved = client_null d place old new null
  client_stays (Ok (Some h)) same l moved =
      client_found d place old new h.slot rest l ∙ l.protects.announces.client
  client_stays (Err unloaded.Spent) same l moved =
      ap (λ (z : SeatState View). z.view.client) (same refl)
  client_stays (Err (unloaded.Moved was now)) same l moved =
      let m = moved was now refl in
      client_moved d place old new (slot_in was) (slot_in now) m ∙ m.announces.client

module _ (found : Option SlotId) (old new : SeatState View)
    (leaves : Leaves (with_found found old.view.core.owned) old new)
    (client : new.view.client ≡ old.view.client) where
  still_owned : (x : SlotId) → 0 < times x old.view.core.owned → 0 < times x new.view.core.owned
  still_owned x owns =
      let is = leaves.owns x in let more = found_more found x old.view.core.owned owns in omega arith

  pub known_still : (x : SlotId) → 0 < times x old.view.core.owned
      → object_in new.view x ≡ object_in old.view x
  known_still x owns =
      let late = still_owned x owns in leaves.knows x (omega arith) (omega arith)

  pub sees_on : (front next item : SlotId) → SeesItem front next item old
      → SeesItem front next item new
  sees_on front next item sees =
      let first = sees.nodes.head.owns in
      record {
        nodes = next_still front next old new sees.nodes (still_owned front first)
            (still_owned next sees.nodes.owns) (known_still front first)
            (known_still next sees.nodes.owns) (ap (λ (v : View). v.eyes) client);
        owns = still_owned item sees.owns;
        found = ap (λ (v : View). v.eyes.found) client ∙ sees.found;
      }

-- a reference that may have been gained is given up again
pub given_up : (found : Option SlotId) (a b c e : SeatState View)
    → Leaves (with_found found a.view.core.owned) a b → Leaves b.view.core.owned b c
    → Leaves (without_found found c.view.core.owned) c e → Leaves a.view.core.owned a e
given_up None a b c e gains goes gives =
    leaves_on a.view.core.owned a c e (leaves_on a.view.core.owned a b c gains goes) gives
given_up (Some s) a b c e gains goes gives = through s None a b c e gains goes gives
