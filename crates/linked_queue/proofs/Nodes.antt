-- What a seat sees by the nodes of a queue that it loads.
use Rattle.linked_queue.specs.Cells.{NodeTells}
use Rattle.queue_protocol.specs.plain_state.Steps.{word_of}
use Rattle.std.proofs.Common.{◌≡◌, ◌⊎◌, inl, inr, ℕ, suc, ◌+◌, ◌-◌, ◌<◌, Bool, true, false, [], ◌∷◌, ◌++◌, length, refl, ap, sym, ◌∙◌, subst, arith, List}
use Rattle.std.specs.Prelude.{cond, nat_lt, slice_set}
use Rattle.std.proofs.lemmas.Bool.Decides.{nat_tests}
use Rattle.queue_protocol.specs.plain_state.declared.act.EventPlace.TheVariants.{Cell, Field}
use Rattle.queue_protocol.specs.plain_state.declared.act.PlainAct.{PlainAct}
use Rattle.queue_protocol.specs.plain_state.declared.act.PlainAct.TheVariants as plain
use Rattle.queue_protocol.specs.plain_state.declared.slot.Kind.TheVariants.{Strong}
use Rattle.queue_protocol.specs.plain_state.declared.slot.SlotId.{SlotId}
use Rattle.queue_protocol.specs.plain_state.Lists.{times}
use Rattle.queue_protocol.specs.plain_state.State.{Plain, no_payload}
use Rattle.queue_protocol.specs.plain_protocol.Owns.{Object}
use Rattle.slot_store.specs.core_events.declared.shape.Shape.{Shape}
use Rattle.slot_store.specs.core_events.declared.view.CoreView.{CoreView}
use Rattle.slot_store.specs.core_events.declared.view.Note.TheVariants as note
use Rattle.slot_store.specs.core_events.Shows.{show_seat}
use Rattle.slot_store.specs.counted_handles.declared.place.Place.TheVariants as place
use Rattle.slot_store.specs.domain_rule.Views.{object_in, own_of}
use Rattle.slot_store.specs.acquire_retire.Domains.{DomainState}
use Rattle.slot_store.specs.acquire_retire.Seats.{SeatState}
use Rattle.slot_store.specs.control_word.Moves.{KnowsStill}
use Rattle.slot_store.specs.control_word.Resting.{IsAtRest}
use Rattle.part_calls.specs.protected_loads.Loads.{FindsNull}
use Rattle.part_calls.specs.protected_loads.References.{IsReadyToLoad, Refers}
use Rattle.part_calls.proofs.Below.protected_loads_Learning.{checked, client_found, client_null, has_found, known_found, slot_there, client_checked}
use Rattle.part_calls.proofs.Below.protected_loads_Noting.{snapshot_gains, some_more}
use Rattle.part_calls.proofs.Below.protected_loads_Telling.{four_notes}
use Rattle.queue_protocol.specs.queue_law.declared.view.View.{View}
use Rattle.queue_protocol.specs.queue_law.declared.view.Eyes.{Eyes}
use Rattle.queue_protocol.specs.queue_law.Lessons.{ItemReady, NextTells, TellsNothing, learn_next, learnt, next_next}
use Rattle.queue_protocol.specs.queue_law.Words.{held_times, life_in}
use Rattle.queue_protocol.specs.declared.law.QueueLaw.{QueueLaw}
use Rattle.linked_queue.specs.Items.{see_item_next}
use Rattle.linked_queue.specs.Queues.{IsAttached, ends_of}
use Rattle.linked_queue.specs.Seeing.{FindsLast, SeesHead, SeesItem, SeesNext, SeesNone}
use Rattle.linked_queue.specs.Pushes.{SeesTail}
use Rattle.linked_queue.proofs.Owning.{has_owned, own_life, owns_pushed, still_owned}
use Rattle.linked_queue.proofs.Sights.{core_found}

-- WHAT IS SEEN STAYS SEEN, as long as the seat owns it and its eyes are on it
pub head_still : (front : SlotId) (old new : SeatState View) → SeesHead front old
    → 0 < times front new.view.core.owned
    → object_in new.view front ≡ object_in old.view front
    → new.view.client.eyes.node ≡ old.view.client.eyes.node
    → new.view.client.eyes.life ≡ old.view.client.eyes.life
    → new.view.client.eyes.was_head ≡ old.view.client.eyes.was_head → SeesHead front new
head_still front old new sees owns object node life head = record {
  owns = owns;
  node = node ∙ sees.node;
  life = ap (λ (o : Object). o.life) object ∙ sees.life ∙ sym life;
  was_head = head ∙ sees.was_head;
}

pub next_still : (front next : SlotId) (old new : SeatState View) → SeesNext front next old
    → 0 < times front new.view.core.owned → 0 < times next new.view.core.owned
    → object_in new.view front ≡ object_in old.view front
    → object_in new.view next ≡ object_in old.view next
    → new.view.client.eyes ≡ old.view.client.eyes → SeesNext front next new
next_still front next old new sees owns owns_next object object_next eyes = record {
  head = head_still front old new sees.head owns object (ap (λ (e : Eyes). e.node) eyes)
      (ap (λ (e : Eyes). e.life) eyes) (ap (λ (e : Eyes). e.was_head) eyes);
  owns = owns_next;
  following = ap (λ (e : Eyes). e.following) eyes ∙ sees.following;
  is_node = ap (λ (o : Object). o.payload) object_next ∙ sees.is_node;
}

module _ (fits : List ℕ → Type 0) (d : DomainState QueueLaw) (old new : SeatState View) (rest : IsAtRest d old) where
  -- CELLS. A seat that found a node in the head cell or the tail cell sees it
  module _ (c : ℕ) (head : Bool) {allows : Plain → Plain → ℕ → View → View → Type 0} (s : SlotId)
      (r : Refers fits d (Cell c) (learn_next head) allows s old new) where
    abbrev mid : SeatState View
    mid = checked d (Cell c) old new s rest r

    held : nat_lt 0 (held_times s.0 (show_seat mid.view.core)) ≡ true
    held =
        let four = four_notes r.protects.announces.becomes.walks.1.told in
        let there : 0 < length old.view.core.notes = omega arith in
        let notes = slice_set old.view.core.notes 0 (note.Valid Strong s) in
        let more = some_more old.view.core notes [] Strong s
        (snapshot_gains old.view.core 0 there Strong s rest.first) in
        subst (λ (v : CoreView). nat_lt 0 (held_times s.0 (show_seat v)) ≡ true)
        (sym r.protects.core ∙ ap (λ (z : SeatState View). z.view.core) r.protects.checks.walks.2)
        (grind (arith, nat_tests))

    cell_view : new.view.client
        ≡ record r.protects.mid.view.client { eyes = learnt head (own_of mid.view) (suc s.0) }
    cell_view = client_found d (Cell c) old new s rest r
        ∙ ap (λ b. cond b (record r.protects.mid.view.client {
          eyes = learnt head (own_of mid.view) (suc s.0);
        }) r.protects.mid.view.client) held

    cell_owns : 0 < times s new.view.core.owned
    cell_owns = owns_pushed s old.view.core.owned new.view.core.owned
        (ap (λ (v : CoreView). v.owned) (core_found fits d (place.Cell c) old new s r))

    cell_node : new.view.client.eyes.node ≡ s.0 + 1
    cell_node = ap (λ (v : View). v.eyes.node) cell_view ∙ omega arith

    cell_life : (object_in new.view s).life ≡ new.view.client.eyes.life
    cell_life =
        let less : suc s.0 - 1 ≡ s.0 = omega arith in
        ap (λ (o : Object). o.life) (known_found d (Cell c) old new s rest r)
        ∙ sym (own_life s mid (has_found d (Cell c) old new s rest r))
        ∙ sym (ap (λ (v : View). v.eyes.life) cell_view ∙ ap (life_in (own_of mid.view)) less)

  -- and what such a cell held is a node
  cell_is_node : (c : ℕ) (head : Bool) (s : SlotId)
      → Refers fits d (Cell c) (learn_next head) (NodeTells c) s old new
      → (object_in new.view s).payload ≡ no_payload
  cell_is_node c head s r =
      let step = r.protects.checks.walks.1 in
      ap (λ (o : Object). o.payload) (known_found d (Cell c) old new s rest r)
      ∙ ap (λ (o : Object). o.payload)
      (step.told.says.objects s (has_found d (Cell c) old new s rest r))
      ∙ step.told.happened.fact.2.0 s.0 (ap word_of r.protects.there)

  pub sees_head : (c : ℕ) {allows : Plain → Plain → ℕ → View → View → Type 0} (s : SlotId)
      → Refers fits d (Cell c) (learn_next true) allows s old new → SeesHead s new
  sees_head c s r = record {
    owns = cell_owns c true s r;
    node = cell_node c true s r;
    life = cell_life c true s r;
    was_head = ap (λ (v : View). v.eyes.was_head) (cell_view c true s r);
  }

  pub sees_tail : (c : ℕ) (s : SlotId)
      → Refers fits d (Cell c) (learn_next false) (NodeTells c) s old new → SeesTail s new
  sees_tail c s r = record {
    owns = cell_owns c false s r;
    node = cell_node c false s r;
    life = cell_life c false s r;
    was_tail = ap (λ (v : View). v.eyes.was_tail) (cell_view c false s r);
    is_node = cell_is_node c false s r;
    inside =
        let there = slot_there d (Cell c) old new s rest r in
        let shape = ap (λ (v : CoreView). v.shape.slots) (core_found fits d (place.Cell c) old new s r)
        ∙ ap (λ (z : Shape). z.slots) rest.of_domain.1 in omega arith;
  }

  -- what stood behind a node is a node
  pub found_node : (front s : SlotId)
      → Refers fits d (Field front 0) next_next (NextTells (ends_of d)) s old new
      → (object_in new.view s).payload ≡ no_payload
  found_node front s r =
      let step = r.protects.checks.walks.1 in
      let follows : r.protects.checks.walks.0.view.client.eyes.following ≡ s.0 + 1 =
      ap (λ (v : View). v.eyes.following)
      (sym (client_checked d (Field front 0) old new s rest r)
      ∙ client_found d (Field front 0) old new s rest r)
      ∙ omega arith in
      ap (λ (o : Object). o.payload) (known_found d (Field front 0) old new s rest r)
      ∙ ap (λ (o : Object). o.payload)
      (step.told.says.objects s (has_found d (Field front 0) old new s rest r))
      ∙ step.told.happened.fact.2.node s.0 follows

  -- NEXT. A seat that found a node behind one that it saw in the head cell sees both
  module _ (front s : SlotId) (sees : SeesHead front old) (knows : KnowsStill old.view.core old new)
      (r : Refers fits d (Field front 0) next_next (NextTells (ends_of d)) s old new) where
    next_seen : new.view.client
        ≡ record r.protects.mid.view.client {
          eyes = record r.protects.mid.view.client.eyes { following = suc s.0; found = 0 };
        }
    next_seen = client_found d (Field front 0) old new s rest r

    next_owned : new.view.core.owned ≡ old.view.core.owned ++ s ∷ []
    next_owned = ap (λ (v : CoreView). v.owned) (core_found fits d (place.Field front 0) old new s r)

    pub sees_next : SeesNext front s new
    sees_next =
        let client = r.protects.announces.client in
        record {
          head = head_still front old new sees
              (still_owned front s old.view.core.owned new.view.core.owned next_owned sees.owns)
              (knows front (has_owned front old sees.owns))
              (ap (λ (v : View). v.eyes.node) next_seen ∙ ap (λ (v : View). v.eyes.node) client)
              (ap (λ (v : View). v.eyes.life) next_seen ∙ ap (λ (v : View). v.eyes.life) client)
              (ap (λ (v : View). v.eyes.was_head) next_seen
              ∙ ap (λ (v : View). v.eyes.was_head) client);
          owns = owns_pushed s old.view.core.owned new.view.core.owned next_owned;
          following = ap (λ (v : View). v.eyes.following) next_seen ∙ omega arith;
          is_node = found_node front s r;
        }

  -- one that found none saw the last node, if that is the head's
  pub finds_last : (front : SlotId) → SeesHead front old → IsAttached old.view.client
      → FindsNull fits d (Field front 0) next_next (NextTells (ends_of d)) old new
      → FindsLast fits d front old new
  finds_last front sees attached null = record {
    null = null;
    nothing =
        let step = null.becomes.walks.1 in
        let after = null.becomes.walks.0 in
        let following : after.view.client.eyes.following ≡ 0 =
        ap (λ (z : SeatState View). z.view.client.eyes.following) (sym null.becomes.walks.2)
        ∙ ap (λ (v : View). v.eyes.following) (client_null d (Field front 0) old new null) in
        step.told.happened.fact.2.none sees.was_head attached.attached following;
  }

  -- ITEM. A seat that found the item of the next node sees it
  module _ (front next s : SlotId) (sees : SeesNext front next old)
      (knows : KnowsStill old.view.core old new)
      (r : Refers fits d (Field next 1) (see_item_next d.shape.slots) TellsNothing s old new) where
    item_seen : new.view.client
        ≡ record r.protects.mid.view.client {
          eyes = record r.protects.mid.view.client.eyes { found = suc s.0 };
        }
    item_seen = client_found d (Field next 1) old new s rest r

    item_owned : new.view.core.owned ≡ old.view.core.owned ++ s ∷ []
    item_owned = ap (λ (v : CoreView). v.owned) (core_found fits d (place.Field next 1) old new s r)

    pub sees_item : SeesItem front next s new
    sees_item =
        let client = r.protects.announces.client in
        record {
          nodes = record {
            head = head_still front old new sees.head
                (still_owned front s old.view.core.owned new.view.core.owned item_owned
                sees.head.owns)
                (knows front (has_owned front old sees.head.owns))
                (ap (λ (v : View). v.eyes.node) item_seen ∙ ap (λ (v : View). v.eyes.node) client)
                (ap (λ (v : View). v.eyes.life) item_seen ∙ ap (λ (v : View). v.eyes.life) client)
                (ap (λ (v : View). v.eyes.was_head) item_seen
                ∙ ap (λ (v : View). v.eyes.was_head) client);
            owns = still_owned next s old.view.core.owned new.view.core.owned item_owned
                sees.owns;
            following = ap (λ (v : View). v.eyes.following) item_seen
                ∙ ap (λ (v : View). v.eyes.following) client ∙ sees.following;
            is_node = ap (λ (o : Object). o.payload) (knows next (has_owned next old sees.owns))
                ∙ sees.is_node;
          };
          owns = owns_pushed s old.view.core.owned new.view.core.owned item_owned;
          found = ap (λ (v : View). v.eyes.found) item_seen ∙ omega arith;
        }

  -- and one that found none has noted so
  pub sees_none : (front next : SlotId) → SeesNext front next old → KnowsStill old.view.core old new
      → FindsNull fits d (Field next 1) (see_item_next d.shape.slots) TellsNothing old new
      → SeesNone d.shape.slots front next new
  sees_none front next sees knows null =
      let client = client_null d (Field next 1) old new null in
      let owned = ap (λ (v : CoreView). v.owned) null.becomes.core in
      record {
        nodes = record {
          head = head_still front old new sees.head
              (subst (λ l. 0 < times front l) (sym owned) sees.head.owns)
              (knows front (has_owned front old sees.head.owns))
              (ap (λ (v : View). v.eyes.node) client) (ap (λ (v : View). v.eyes.life) client)
              (ap (λ (v : View). v.eyes.was_head) client);
          owns = subst (λ l. 0 < times next l) (sym owned) sees.owns;
          following = ap (λ (v : View). v.eyes.following) client ∙ sees.following;
          is_node = ap (λ (o : Object). o.payload) (knows next (has_owned next old sees.owns))
              ∙ sees.is_node;
        };
        gone = ap (λ (v : View). v.eyes.found) client;
      }

  -- the deed that notes the item is ready for the look, and for the check of whatever was found
  item_at : (front next : SlotId) (seat : SeatState View) (step : PlainAct)
      → SeesNext front next seat → IsAttached seat.view.client
      → (step ≡ plain.Look (Field next 1)) ⊎ ((j : ℕ) × (step ≡ plain.Check j (Field next 1)))
      → ItemReady (own_of seat.view) seat.view.client step
  item_at front next seat step sees attached reads = record {
    node = next.0;
    old = front.0;
    reads = reads;
    attached = attached.attached;
    held = (let some' = sees.head.owns in omega arith);
    seen = sees.head.node;
    seen_life = own_life front seat (has_owned front seat sees.head.owns) ∙ sees.head.life;
    following = sees.following;
  }

  pub item_ready : (front next : SlotId) → SeesNext front next old → IsAttached old.view.client
      → IsReadyToLoad fits d (Field next 1) ItemReady old
  item_ready front next sees attached = record {
    look = λ w. item_at front next old (plain.Look (Field next 1)) sees attached (inl refl);
    check = λ s mid announces w.
        let owned = ap (λ (v : CoreView). v.owned) announces.becomes.core in
        item_at front next mid (plain.Check 0 (Field next 1))
        (next_still front next old mid sees
        (subst (λ l. 0 < times front l) (sym owned) sees.head.owns)
        (subst (λ l. 0 < times next l) (sym owned) sees.owns)
        (announces.knows front (has_owned front old sees.head.owns))
        (announces.knows next (has_owned next old sees.owns))
        (ap (λ (v : View). v.eyes) announces.client))
        (record {
          here = ap (λ (v : View). v.here) announces.client ∙ attached.here;
          attached = ap (λ (v : View). v.attached) announces.client ∙ attached.attached;
        })
        (inr (0, refl));
  }
