-- What a seat sees behind a node that the tail cell held.
use Rattle.linked_queue.proofs.Nodes.{found_node}
use Rattle.std.proofs.Common.{◌≡◌, suc, ◌<◌, [], ◌∷◌, ◌++◌, ap, sym, ◌∙◌, subst, arith, ℕ, List}
use Rattle.std.specs.Prelude.{Option, Some, None}
use Rattle.queue_protocol.specs.plain_state.declared.act.EventPlace.TheVariants.{Field}
use Rattle.queue_protocol.specs.plain_state.declared.slot.SlotId.{SlotId}
use Rattle.queue_protocol.specs.plain_state.Lists.{times}
use Rattle.queue_protocol.specs.plain_protocol.Owns.{Object}
use Rattle.slot_store.specs.core_events.declared.shape.Shape.{Shape}
use Rattle.slot_store.specs.core_events.declared.view.CoreView.{CoreView}
use Rattle.slot_store.specs.counted_handles.declared.place.Place.TheVariants as place
use Rattle.slot_store.specs.acquire_retire.Domains.{DomainState}
use Rattle.slot_store.specs.acquire_retire.Seats.{SeatState}
use Rattle.slot_store.specs.control_word.Moves.{KnowsStill}
use Rattle.slot_store.specs.control_word.Resting.{IsAtRest}
use Rattle.part_calls.specs.protected_loads.References.{Loads, Refers}
use Rattle.part_calls.proofs.Below.protected_loads_Learning.{client_found, client_null}
use Rattle.queue_protocol.specs.queue_law.declared.view.View.{View}
use Rattle.queue_protocol.specs.queue_law.Lessons.{NextTells, next_next}
use Rattle.queue_protocol.specs.declared.law.QueueLaw.{QueueLaw}
use Rattle.linked_queue.specs.Queues.{ends_of}
use Rattle.linked_queue.specs.Pushes.{SeesBehind, SeesTail}
use Rattle.linked_queue.proofs.Owning.{has_owned, owns_pushed, still_owned}
use Rattle.linked_queue.proofs.Sights.{core_found}

module _ (fits : List ℕ → Type 0) (d : DomainState QueueLaw) (old new : SeatState View) (rest : IsAtRest d old) where
  -- one that it saw in the tail cell it sees still, and the node that it found behind it
  tail_on : (last : SlotId) → SeesTail last old → KnowsStill old.view.core old new
      → 0 < times last new.view.core.owned
      → new.view.core.shape ≡ old.view.core.shape
      → new.view.client.eyes.node ≡ old.view.client.eyes.node
      → new.view.client.eyes.life ≡ old.view.client.eyes.life
      → new.view.client.eyes.was_tail ≡ old.view.client.eyes.was_tail → SeesTail last new
  tail_on last sees knows owns shape node life tail = record {
    owns = owns;
    node = node ∙ sees.node;
    life = ap (λ (o : Object). o.life) (knows last (has_owned last old sees.owns)) ∙ sees.life
        ∙ sym life;
    was_tail = tail ∙ sees.was_tail;
    is_node = ap (λ (o : Object). o.payload) (knows last (has_owned last old sees.owns))
        ∙ sees.is_node;
    inside = subst (λ (z : Shape). last.0 < z.slots) (sym shape) sees.inside;
  }

  module _ (last s : SlotId) (sees : SeesTail last old) (knows : KnowsStill old.view.core old new)
      (r : Refers fits d (Field last 0) next_next (NextTells (ends_of d)) s old new) where
    behind_view : new.view.client
        ≡ record r.protects.mid.view.client {
          eyes = record r.protects.mid.view.client.eyes { following = suc s.0; found = 0 };
        }
    behind_view = client_found d (Field last 0) old new s rest r

    behind_owned : new.view.core.owned ≡ old.view.core.owned ++ s ∷ []
    behind_owned = ap (λ (v : CoreView). v.owned) (core_found fits d (place.Field last 0) old new s r)

    pub sees_behind : SeesBehind last s new
    sees_behind =
        let client = r.protects.announces.client in
        record {
          tail = tail_on last sees knows
              (still_owned last s old.view.core.owned new.view.core.owned behind_owned sees.owns)
              (ap (λ (v : CoreView). v.shape) (core_found fits d (place.Field last 0) old new s r))
              (ap (λ (v : View). v.eyes.node) behind_view ∙ ap (λ (v : View). v.eyes.node) client)
              (ap (λ (v : View). v.eyes.life) behind_view ∙ ap (λ (v : View). v.eyes.life) client)
              (ap (λ (v : View). v.eyes.was_tail) behind_view
              ∙ ap (λ (v : View). v.eyes.was_tail) client);
          owns = owns_pushed s old.view.core.owned new.view.core.owned behind_owned;
          following = ap (λ (v : View). v.eyes.following) behind_view ∙ omega arith;
          is_node = found_node fits d old new rest last s r;
        }

  pub still_tail : (last : SlotId) (found : Option SlotId) → SeesTail last old
      → KnowsStill old.view.core old new
      → Loads fits d (Field last 0) next_next (NextTells (ends_of d)) found old new
      → SeesTail last new
  still_tail last None sees knows null =
      let client = client_null d (Field last 0) old new null in
      tail_on last sees knows
      (subst (λ l. 0 < times last l) (sym (ap (λ (v : CoreView). v.owned) null.becomes.core))
      sees.owns)
      (ap (λ (v : CoreView). v.shape) null.becomes.core) (ap (λ (v : View). v.eyes.node) client)
      (ap (λ (v : View). v.eyes.life) client) (ap (λ (v : View). v.eyes.was_tail) client)
  still_tail last (Some s) sees knows r = (sees_behind last s sees knows r).tail
