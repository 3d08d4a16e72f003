-- The exchange of the tail cell, and the link that follows it: what their deeds ask, and what they leave.
use Rattle.std.proofs.Common.{◌≡◌, ℕ, ◌+◌, ◌-◌, ◌<◌, Bool, true, false, [], ◌∷◌, ◌++◌, refl, ap, sym, ◌∙◌, arith, List}
use Rattle.std.specs.Prelude.{◌==◌, Some, None, cond, if◌then◌else◌}
use Rattle.weak_part_calls.specs.plain_state.declared.act.EventPlace.TheVariants.{Cell, Field}
use Rattle.weak_part_calls.specs.plain_state.declared.act.PlainAct.TheVariants as plain
use Rattle.weak_part_calls.specs.plain_state.declared.slot.SlotId.{SlotId}
use Rattle.weak_part_calls.specs.plain_state.Lists.{times}
use Rattle.weak_part_calls.specs.plain_protocol.Owns.{Object}
use Rattle.weak_part_calls.specs.core_events.declared.act.Act.TheVariants as act
use Rattle.weak_part_calls.specs.core_events.declared.outcome.Outcome.TheVariants as outcome
use Rattle.weak_part_calls.specs.core_events.declared.view.CoreView.{CoreView}
use Rattle.weak_part_calls.specs.core_events.Views.{without}
use Rattle.weak_part_calls.specs.core_events.Words.{slot_in}
use Rattle.weak_part_calls.specs.domain_rule.Views.{object_in, own_of}
use Rattle.weak_part_calls.specs.acquire_retire.Calls.{IsReady, IsSameView, same_view}
use Rattle.weak_part_calls.specs.acquire_retire.Domains.{DomainState}
use Rattle.weak_part_calls.specs.acquire_retire.Seats.{SeatState}
use Rattle.weak_part_calls.specs.control_word.Calls.{DropsStrong, GainsStrong, without_strong}
use Rattle.weak_part_calls.specs.control_word.Moves.{KnowsStill}
use Rattle.weak_part_calls.specs.retiring_stores.Exchanging.{LosesTo, Replaces}
use Rattle.linked_queue.specs.queue_law.declared.view.Form.TheVariants.{Double}
use Rattle.linked_queue.specs.queue_law.declared.view.View.{View}
use Rattle.linked_queue.specs.queue_law.Lessons.{TellsNothing}
use Rattle.linked_queue.specs.queue_law.Pushes.{ExchangeReady, LandReady, exchange_next, flying_view}
use Rattle.linked_queue.specs.queue_law.Words.{life_in}
use Rattle.linked_queue.specs.queue_protocol.declared.law.QueueLaw.{QueueLaw}
use Rattle.linked_queue.specs.Leaving.{Leaves}
use Rattle.linked_queue.specs.Queues.{IsAttached, ends_of}
use Rattle.linked_queue.proofs.Leavings.{copy_leaves, drop_leaves, leaves_same}
use Rattle.linked_queue.proofs.Linkings.{lost_keeps}
use Rattle.linked_queue.proofs.Owning.{has_owned, own_life, own_payload, still_owned, through}
use Rattle.linked_queue.proofs.Takings.{is_done}
use Rattle.double_link_queue.specs.Pushes.{CanExchange, IsInFlight}

-- EXCHANGE
module _ (fits : List ℕ → Type 0) (d : DomainState QueueLaw) (last node : SlotId)
    (old copied : SeatState View) (can : CanExchange last node old)
    (copies : GainsStrong fits d same_view IsSameView node old copied)
    (client : copied.view.client ≡ old.view.client)
    (knows : KnowsStill old.view.core old copied) where
  owned : copied.view.core.owned ≡ old.view.core.owned ++ node ∷ []
  owned = ap (λ (v : CoreView). v.owned) copies.core

  more : (x : SlotId) → 0 < times x old.view.core.owned → 0 < times x copied.view.core.owned
  more x = still_owned x node old.view.core.owned copied.view.core.owned owned

  life_at : (x : SlotId) → 0 < times x old.view.core.owned
      → life_in (own_of copied.view) x.0 ≡ (object_in old.view x).life
  life_at x owns = own_life x copied (has_owned x copied (more x owns))
      ∙ ap (λ (o : Object). o.life) (knows x (has_owned x old owns))

  pub exchange_ready : (i : ℕ) (given : SlotId) → i ≡ d.protocol.tail → given ≡ node
      → d.protocol.form ≡ Double → IsAttached old.view.client
      → IsReady (ExchangeReady (ends_of d)) d.shape (act.Cas (Cell i) (Some last) (Some given))
      copied.view
  exchange_ready i given at same form attached w =
      let carried = can.load.carried in
      let tail = can.tail in
      let load = can.load in
      record {
        old = last.0;
        node = node.0;
        act_is = λ j. plain.TryReplace (Cell (at j)) (Some last) (Some (same j));
        form = form;
        push = record {
          item = old.view.client.load.item - 1;
          fresh = ap (λ (v : View). v.load.node) client ∙ load.node;
          fresh_life = life_at node load.owns ∙ load.life
              ∙ sym (ap (λ (v : View). v.load.life) client);
          is_node = own_payload node copied (has_owned node copied (more node load.owns))
              ∙ ap (λ (o : Object). o.payload) (knows node (has_owned node old load.owns))
              ∙ load.is_node;
          carried = ap (λ (v : View). v.load.item) client ∙ omega arith;
          here = ap (λ (v : View). v.here) client ∙ attached.here;
          attached = ap (λ (v : View). v.attached) client ∙ attached.attached;
        };
        held = (let some' = more last tail.owns in omega arith);
        seen = ap (λ (v : View). v.eyes.node) client ∙ tail.node;
        seen_life = life_at last tail.owns ∙ tail.life
            ∙ sym (ap (λ (v : View). v.eyes.life) client);
        helped = ap (λ (v : View). v.eyes.helped) client ∙ can.helped;
        backed = ap (λ (v : View). v.load.back) client ∙ can.backed
            ∙ sym (ap (λ (v : View). v.eyes.node) client ∙ tail.node);
      }

  -- where it was won
  module _ (new : SeatState View) (still : Leaves (without node copied.view.core.owned) copied new)
    where
      pub exchange_keeps : Leaves old.view.core.owned old new
      exchange_keeps = through node None old copied copied new
          (copy_leaves node old copied copies knows) (leaves_same copied copied refl) still

      pub flying : Replaces fits d exchange_next TellsNothing (Cell d.protocol.tail) (Some node)
          (Some last) copied new
          → new.view.client ≡ flying_view old.view.client
      flying replaces =
          let step = replaces.puts.step in
          let v = copied.view.client in
          let done = is_done step.word (last.0 + 1) outcome.Done (step.word == last.0 + 1) refl
          step.answers in
          replaces.client ∙ step.told.client
          ∙ ap (λ n. cond (step.word == n) (flying_view v) v)
          (ap (λ (u : View). u.eyes.node) client ∙ can.tail.node)
          ∙ ap (λ b. cond b (flying_view v) v) done ∙ ap flying_view client

      pub in_flight : new.view.client ≡ flying_view old.view.client → IsInFlight last node new
      in_flight is =
          let at_last = exchange_keeps.owns last in
          let at_node = exchange_keeps.owns node in
          let some_last = can.tail.owns in
          let some_node = can.load.owns in
          let known = exchange_keeps.knows last (omega arith) (omega arith) in
          record {
            owns_last = omega arith;
            owns_node = omega arith;
            at_prev = ap (λ (v : View). v.flight.prev) is ∙ can.tail.node;
            prev_life = ap (λ (o : Object). o.life) known ∙ can.tail.life
                ∙ sym (ap (λ (v : View). v.flight.prev_life) is);
            at_node = ap (λ (v : View). v.flight.node) is ∙ can.load.node;
            node_life =
                ap (λ (o : Object). o.life) (exchange_keeps.knows node (omega arith) (omega arith))
                ∙ can.load.life ∙ sym (ap (λ (v : View). v.flight.life) is);
            is_node = ap (λ (o : Object). o.payload) known ∙ can.tail.is_node;
          }

  -- and where it was lost
  module _ (lost' new : SeatState View) (now : ℕ)
      (loses : LosesTo fits d exchange_next TellsNothing (Cell d.protocol.tail) (Some node)
      (Some last) now copied lost') where
    pub unexchanged : DropsStrong fits d node lost' new
        → KnowsStill (without_strong node lost'.view.core) lost' new
        → Leaves old.view.core.owned old new
    unexchanged drops still = through node None old copied lost' new
        (copy_leaves node old copied copies knows)
        (lost_keeps fits d (Cell d.protocol.tail) (Some node) (Some last) now copied lost' loses)
        (drop_leaves node lost' new drops still)

    -- it found another word than the one that its deed asks for, so the view is as it was
    pub lost_client : lost'.view.client ≡ old.view.client
    lost_client =
        let by = loses.loses.becomes in
        let step = by.walks.1 in
        let v = copied.view.client in
        ap (λ (z : SeatState View). z.view.client) by.walks.2 ∙ step.told.client
        ∙ ap (λ n. cond (step.word == n) (flying_view v) v)
        (ap (λ (u : View). u.eyes.node) client ∙ can.tail.node)
        ∙ go (step.word == last.0 + 1) refl ∙ client
      where
        go : (b : Bool)
            → (loses.loses.becomes.walks.1.word == last.0 + 1) ≡ b
            → cond (loses.loses.becomes.walks.1.word == last.0 + 1) (flying_view copied.view.client)
            copied.view.client ≡ copied.view.client
        go false test = ap (λ c. cond c (flying_view copied.view.client) copied.view.client) test
        go true test =
            let is : outcome.LostTo loses.found ≡ outcome.Done = loses.loses.becomes.walks.1.answers
            ∙ ap (λ c. if c then outcome.Done else outcome.LostTo (slot_in
            loses.loses.becomes.walks.1.word)) test in
            absurd (cc (is))

-- LAND
pub land_ready : (d : DomainState QueueLaw) (last node : SlotId) (seat : SeatState View)
    → IsInFlight last node seat
    → IsReady LandReady d.shape (act.Cas (Field last 0) None (Some node)) seat.view
land_ready d last node seat flies w = record {
  prev = last.0;
  node = node.0;
  act_is = refl;
  at_prev = flies.at_prev;
  prev_life = own_life last seat (has_owned last seat flies.owns_last) ∙ flies.prev_life;
  at_node = flies.at_node;
  node_life = own_life node seat (has_owned node seat flies.owns_node) ∙ flies.node_life;
}
