-- The exchange of the head cell: what its deed asks, and what it leaves.
use Rattle.std.proofs.Common.{◌≡◌, ℕ, ◌+◌, ◌-◌, ◌<◌, Bool, true, false, [], ◌∷◌, ◌++◌, refl, ap, sym, ◌∙◌, arith, List}
use Rattle.std.specs.Prelude.{◌==◌, Some, None, cond, if◌then◌else◌}
use Rattle.queue_protocol.specs.plain_state.declared.act.EventPlace.TheVariants.{Cell}
use Rattle.queue_protocol.specs.plain_state.declared.act.PlainAct.TheVariants as plain
use Rattle.queue_protocol.specs.plain_state.declared.slot.SlotId.{SlotId}
use Rattle.queue_protocol.specs.plain_state.Lists.{times}
use Rattle.queue_protocol.specs.plain_protocol.Owns.{Object}
use Rattle.slot_store.specs.core_events.declared.act.Act.TheVariants as act
use Rattle.slot_store.specs.core_events.declared.outcome.Outcome.{Outcome}
use Rattle.slot_store.specs.core_events.declared.outcome.Outcome.TheVariants as outcome
use Rattle.slot_store.specs.core_events.declared.view.CoreView.{CoreView}
use Rattle.slot_store.specs.core_events.Views.{without}
use Rattle.slot_store.specs.core_events.Words.{slot_in}
use Rattle.slot_store.specs.domain_rule.Views.{object_in, own_of}
use Rattle.slot_store.specs.acquire_retire.Calls.{IsReady, IsSameView, same_view}
use Rattle.slot_store.specs.acquire_retire.Domains.{DomainState}
use Rattle.slot_store.specs.acquire_retire.Seats.{SeatState}
use Rattle.slot_store.specs.control_word.Calls.{DropsStrong, GainsStrong, without_strong}
use Rattle.slot_store.specs.control_word.Moves.{KnowsStill}
use Rattle.slot_store.proofs.Below.control_word_Finding.{slot_there}
use Rattle.slot_store.specs.retiring_stores.Exchanging.{LosesTo, Replaces}
use Rattle.queue_protocol.specs.queue_law.declared.view.Item.{Item}
use Rattle.queue_protocol.specs.queue_law.declared.view.View.{View}
use Rattle.queue_protocol.specs.queue_law.Lessons.{TellsNothing}
use Rattle.queue_protocol.specs.queue_law.Pops.{TakeReady, popped_item, popped_view, take_next}
use Rattle.queue_protocol.specs.queue_law.Words.{life_in, payload_in}
use Rattle.queue_protocol.specs.declared.law.QueueLaw.{QueueLaw}
use Rattle.linked_queue.specs.Leaving.{Leaves}
use Rattle.linked_queue.specs.Pops.{HasEmptied, item_in, popped_too}
use Rattle.linked_queue.specs.Queues.{IsAttached, deeds_in, ends_of}
use Rattle.linked_queue.specs.Seeing.{SeesItem}
use Rattle.linked_queue.proofs.Leavings.{copy_leaves, drop_leaves, leaves_all, leaves_same}
use Rattle.linked_queue.proofs.Nodes.{next_still}
use Rattle.linked_queue.proofs.Owning.{has_owned, own_life, own_payload, still_owned, through}

-- an exchange that answers that it is done found what was expected
pub is_done : (w n : ℕ) (o : Outcome) (b : Bool) → (w == n) ≡ b
    → outcome.Done ≡ (if b then outcome.Done else outcome.LostTo (slot_in w)) → (w == n) ≡ true
is_done w n o true test is = test
is_done w n o false test is = absurd (cc (is))

module _ (fits : List ℕ → Type 0) (d : DomainState QueueLaw) (front next item : SlotId) (old copied : SeatState View)
    (sees : SeesItem front next item old)
    (copies : GainsStrong fits d same_view IsSameView next old copied)
    (client : copied.view.client ≡ old.view.client)
    (knows : KnowsStill old.view.core old copied) where
  owned : copied.view.core.owned ≡ old.view.core.owned ++ next ∷ []
  owned = ap (λ (v : CoreView). v.owned) copies.core

  more : (x : SlotId) → 0 < times x old.view.core.owned → 0 < times x copied.view.core.owned
  more x = still_owned x next old.view.core.owned copied.view.core.owned owned

  sees_copied : SeesItem front next item copied
  sees_copied = record {
    nodes = next_still front next old copied sees.nodes (more front sees.nodes.head.owns)
        (more next sees.nodes.owns) (knows front (has_owned front old sees.nodes.head.owns))
        (knows next (has_owned next old sees.nodes.owns))
        (ap (λ (v : View). v.eyes) client);
    owns = more item sees.owns;
    found = ap (λ (v : View). v.eyes.found) client ∙ sees.found;
  }

  -- the node is a slot of the domain
  pub front_there : front.0 < d.shape.slots
  front_there =
      let some' = sees.nodes.head.owns in
      slot_there copies.walks.1.told front (omega arith)

  -- THE DEED is ready
  pub take_ready : (i : ℕ) (given : SlotId) → i ≡ d.protocol.head → given ≡ next
      → IsAttached old.view.client
      → IsReady (TakeReady (ends_of d)) d.shape (act.Cas (Cell i) (Some front) (Some given))
      copied.view
  take_ready i given is same attached w = record {
    old = front.0;
    new = next.0;
    item = item.0;
    act_is = λ j. plain.TryReplace (Cell (is j)) (Some front) (Some (same j));
    held = (let some' = sees_copied.nodes.head.owns in omega arith);
    seen = sees_copied.nodes.head.node;
    seen_life =
        own_life front copied (has_owned front copied sees_copied.nodes.head.owns)
        ∙ sees_copied.nodes.head.life;
    following = sees_copied.nodes.following;
    found = sees_copied.found;
    has_item = sees_copied.owns;
    here = ap (λ (v : View). v.here) client ∙ attached.here;
  }

  -- WHAT IT LEAVES where it was won
  module _ (new : SeatState View)
      (replaces : Replaces fits d take_next TellsNothing (Cell d.protocol.head)
      (Some next) (Some front) copied new)
      (still : Leaves (without next copied.view.core.owned) copied new) where
    taken : new.view.client ≡ popped_view (own_of copied.view) copied.view.client
    taken =
        let step = replaces.puts.step in
        let v = copied.view.client in
        let done = is_done step.word (front.0 + 1) outcome.Done (step.word == front.0 + 1) refl
        step.answers in
        replaces.client ∙ step.told.client
        ∙ ap (λ n. cond (step.word == n) (popped_view (own_of copied.view) v) v)
        sees_copied.nodes.head.node
        ∙ ap (λ b. cond b (popped_view (own_of copied.view) v) v) done

    the_item : popped_item (own_of copied.view) copied.view.client ≡ item_in old item
    the_item =
        let has = has_owned item copied sees_copied.owns in
        let known = knows item (has_owned item old sees.owns) in
        let found = sees_copied.found in
        let at : copied.view.client.eyes.found - 1 ≡ item.0 = omega arith in
        let life = ap (life_in (own_of copied.view)) at ∙ own_life item copied has
        ∙ ap (λ (o : Object). o.life) known in
        let payload = ap (payload_in (own_of copied.view)) at ∙ own_payload item copied has
        ∙ ap (λ (o : Object). o.payload) known in
        λ i. record { slot = at i; life = life i; payload = payload i }

    pub taken_deeds : deeds_in new.view.client
        ≡ popped_too (item_in old item) (deeds_in old.view.client)
    taken_deeds =
        ap deeds_in taken
        ∙ ap (λ (x : Item). popped_too x (deeds_in copied.view.client)) the_item
        ∙ ap (λ (v : View). popped_too (item_in old item) (deeds_in v)) client

    pub taken_leaves : Leaves old.view.core.owned old new
    taken_leaves = through next None old copied copied new
        (copy_leaves next old copied copies knows) (leaves_same copied copied refl) still

    pub taken_dummy : HasEmptied next new
    taken_dummy =
        let some' = sees.nodes.owns in
        let is = taken_leaves.owns next in
        let follows = sees_copied.nodes.following in
        let at : copied.view.client.eyes.following - 1 ≡ next.0 = omega arith in
        record {
          owns = omega arith;
          dummy = ap (λ (v : View). v.dummy) taken ∙ follows;
          life =
              ap (λ (o : Object). o.life) (taken_leaves.knows next (omega arith) (omega arith))
              ∙ sym (ap (λ (v : View). v.dummy_life) taken
              ∙ ap (life_in (own_of copied.view)) at
              ∙ own_life next copied (has_owned next copied sees_copied.nodes.owns)
              ∙ ap (λ (o : Object). o.life) (knows next (has_owned next old sees.nodes.owns)));
          is_node =
              ap (λ (o : Object). o.payload) (taken_leaves.knows next (omega arith) (omega arith))
              ∙ sees.nodes.is_node;
        }

  -- and where it was lost
  module _ (lost' new : SeatState View) (now : ℕ)
      (loses : LosesTo fits d take_next TellsNothing (Cell d.protocol.head) (Some next)
      (Some front) now copied lost') where
    lost_leaves : Leaves copied.view.core.owned copied lost'
    lost_leaves =
        let by = loses.loses.becomes in
        leaves_all copied lost' _ by.core
        (λ s has. ap (λ (z : SeatState View). object_in z.view s) by.walks.2
        ∙ by.walks.1.told.objects s has)

    pub unchanged : DropsStrong fits d next lost' new
        → KnowsStill (without_strong next lost'.view.core) lost' new
        → Leaves old.view.core.owned old new
    unchanged drops still = through next None old copied lost' new
        (copy_leaves next old copied copies knows) lost_leaves
        (drop_leaves next lost' new drops still)
