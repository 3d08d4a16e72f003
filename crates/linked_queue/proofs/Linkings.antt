-- The exchanges at the end of a queue: what their deeds ask, and what they leave.
use Rattle.std.proofs.Common.{◌≡◌, ℕ, ◌-◌, ◌<◌, Bool, true, [], ◌∷◌, ◌++◌, refl, ap, sym, ◌∙◌, subst, arith, ◌+◌, ◌≤◌, List}
use Rattle.std.specs.Prelude.{◌==◌, Option, Some, None, cond}
use Rattle.queue_protocol.specs.plain_state.declared.act.EventPlace.{EventPlace}
use Rattle.queue_protocol.specs.plain_state.declared.act.EventPlace.TheVariants.{Field}
use Rattle.queue_protocol.specs.plain_state.declared.act.PlainAct.TheVariants as plain
use Rattle.queue_protocol.specs.plain_state.declared.slot.SlotId.{SlotId}
use Rattle.queue_protocol.specs.plain_state.Lists.{times}
use Rattle.queue_protocol.specs.plain_protocol.Owns.{Object, OwnPart}
use Rattle.queue_protocol.specs.plain_state.declared.act.PlainAct.{PlainAct}
use Rattle.slot_store.specs.core_events.declared.act.Act.TheVariants as act
use Rattle.slot_store.specs.core_events.declared.outcome.Outcome.TheVariants as outcome
use Rattle.slot_store.specs.core_events.declared.shape.Shape.{Shape}
use Rattle.slot_store.specs.core_events.declared.view.CoreView.{CoreView}
use Rattle.slot_store.specs.core_events.Views.{without}
use Rattle.slot_store.proofs.Below.core_law_Kit.{times_without}
use Rattle.slot_store.specs.counted_handles.declared.refusal.LoadError.{LoadError}
use Rattle.slot_store.specs.counted_handles.declared.refusal.LoadError.TheVariants as unloaded
use Rattle.slot_store.specs.domain_rule.Views.{object_in, own_of}
use Rattle.slot_store.specs.acquire_retire.Calls.{IsReady, IsSameView, same_view}
use Rattle.slot_store.specs.acquire_retire.Domains.{DomainState}
use Rattle.slot_store.specs.acquire_retire.Seats.{SeatState}
use Rattle.slot_store.specs.control_word.Calls.{DropsStrong, GainsStrong, without_strong}
use Rattle.slot_store.specs.control_word.Moves.{KnowsStill}
use Rattle.slot_store.specs.retiring_stores.Exchanging.{LosesTo, Replaces}
use Rattle.queue_protocol.specs.queue_law.declared.view.Form.TheVariants.{Linked}
use Rattle.queue_protocol.specs.queue_law.declared.view.View.{View}
use Rattle.queue_protocol.specs.queue_law.Lessons.{TellsNothing}
use Rattle.queue_protocol.specs.queue_law.Pushes.{LinkReady, link_next, linked_view}
use Rattle.queue_protocol.specs.queue_law.Views.{sees_node}
use Rattle.queue_protocol.specs.queue_law.Words.{life_in}
use Rattle.queue_protocol.specs.declared.law.QueueLaw.{QueueLaw}
use Rattle.linked_queue.specs.Leaving.{Leaves}
use Rattle.linked_queue.specs.Pushes.{HasLoad, IsWhyUnlinked, SeesBehind, SeesTail, advanced_in}
use Rattle.linked_queue.specs.Queues.{IsAttached, ends_of}
use Rattle.linked_queue.specs.Seeing.{IsWhyUnread}
use Rattle.linked_queue.proofs.Leavings.{copy_leaves, drop_leaves, leaves_all, leaves_same}
use Rattle.linked_queue.proofs.Owning.{has_owned, holds_more, own_life, own_payload, still_owned, through}
use Rattle.linked_queue.proofs.Takings.{is_done}
use Rattle.linked_queue.proofs.Trails.{trail_then}

-- an exchange that was lost leaves what the seat has
pub lost_keeps : (fits : List ℕ → Type 0) (d : DomainState QueueLaw) {next : OwnPart → OwnPart → View → PlainAct → ℕ → View}
    (place : EventPlace) (given expected : Option SlotId) (now : ℕ) (old new : SeatState View)
    → LosesTo fits d next TellsNothing place given expected now old new
    → Leaves old.view.core.owned old new
lost_keeps fits d place given expected now old new loses =
    let by = loses.loses.becomes in
    leaves_all old new _ by.core
    (λ s has. ap (λ (z : SeatState View). object_in z.view s) by.walks.2
    ∙ by.walks.1.told.objects s has)

-- nothing, and then one reference fewer
pub then_gives : (n : SlotId) (a b c : SeatState View) → 0 < times n a.view.core.owned
    → Leaves a.view.core.owned a b → Leaves (without n b.view.core.owned) b c
    → Leaves (without n a.view.core.owned) a c
then_gives n a b c some' first more = record {
  owns = λ x.
      let e = more.owns x in
      let f = first.owns x in
      let g = first.owns n in
      let left = times_without x n a.view.core.owned some' in
      let still = times_without x n b.view.core.owned (omega arith) in omega arith;
  same = more.same ∙ first.same;
  adds = (let late = more.adds in let early = first.adds in omega arith);
  trail = trail_then a b c first.trail more.trail;
  knows = λ x was is.
      let f = first.owns x in
      let mid = holds_more x a.view.core b.view.core (sym first.same) (omega arith) was in
      more.knows x mid is ∙ first.knows x was mid;
}

-- ADVANCE
module _ (fits : List ℕ → Type 0) (d : DomainState QueueLaw) (last next : SlotId) (old : SeatState View)
    (sees : SeesBehind last next old) where
  -- the view is told that the tail cell has held the next node
  pub advanced : (new : SeatState View)
      → new.view.client
      ≡ record old.view.client {
        eyes = record (sees_node old.view.client.eyes.following
            (life_in (own_of old.view) (old.view.client.eyes.following - 1))) {
              was_tail = true;
            };
      }
      → new.view.client ≡ advanced_in next old old.view.client
  advanced new is =
      let follows = sees.following in
      let at : old.view.client.eyes.following - 1 ≡ next.0 = omega arith in
      let life = ap (life_in (own_of old.view)) at
      ∙ own_life next old (has_owned next old sees.owns) in
      is ∙ λ i. record old.view.client {
        eyes = record (sees_node (follows i) (life i)) { was_tail = true };
      }

  pub advanced_tail : (new : SeatState View) → new.view.client ≡ advanced_in next old old.view.client
      → 0 < times next new.view.core.owned → object_in new.view next ≡ object_in old.view next
      → next.0 < new.view.core.shape.slots → SeesTail next new
  advanced_tail new is owns object inside = record {
    owns = owns;
    node = ap (λ (v : View). v.eyes.node) is;
    life = ap (λ (o : Object). o.life) object ∙ sym (ap (λ (v : View). v.eyes.life) is);
    was_tail = ap (λ (v : View). v.eyes.was_tail) is;
    is_node = ap (λ (o : Object). o.payload) object ∙ sees.is_node;
    inside = inside;
  }

-- what is seen behind a node of the tail cell is seen still, whatever is noted of where the tail cell has gone
pub behind_noted : (last next : SlotId) (old new : SeatState View) (passed : Bool)
    → SeesBehind last next old
    → ((x : SlotId) → 0 < times x old.view.core.owned → 0 < times x new.view.core.owned)
    → ((x : SlotId) → 0 < times x old.view.core.owned → object_in new.view x ≡ object_in old.view x)
    → new.view.core.shape ≡ old.view.core.shape
    → new.view.client
    ≡ record old.view.client { eyes = record old.view.client.eyes { passed = passed } }
    → SeesBehind last next new
behind_noted last next old new passed sees owns knows shape client = record {
  tail = record {
    owns = owns last sees.tail.owns;
    node = ap (λ (v : View). v.eyes.node) client ∙ sees.tail.node;
    life = ap (λ (o : Object). o.life) (knows last sees.tail.owns) ∙ sees.tail.life
        ∙ sym (ap (λ (v : View). v.eyes.life) client);
    was_tail = ap (λ (v : View). v.eyes.was_tail) client ∙ sees.tail.was_tail;
    is_node = ap (λ (o : Object). o.payload) (knows last sees.tail.owns) ∙ sees.tail.is_node;
    inside = subst (λ (z : Shape). last.0 < z.slots) (sym shape) sees.tail.inside;
  };
  owns = owns next sees.owns;
  following = ap (λ (v : View). v.eyes.following) client ∙ sees.following;
  is_node = ap (λ (o : Object). o.payload) (knows next sees.owns) ∙ sees.is_node;
}

pub behind_still : (last next : SlotId) (old new : SeatState View) → SeesBehind last next old
    → ((x : SlotId) → 0 < times x old.view.core.owned → 0 < times x new.view.core.owned)
    → ((x : SlotId) → 0 < times x old.view.core.owned → object_in new.view x ≡ object_in old.view x)
    → new.view.core.shape ≡ old.view.core.shape → new.view.client ≡ old.view.client
    → SeesBehind last next new
behind_still last next old new sees owns knows shape client =
    behind_noted last next old new old.view.client.eyes.passed sees owns knows shape client

-- LINK
module _ (fits : List ℕ → Type 0) (d : DomainState QueueLaw) (last node : SlotId) (old copied : SeatState View)
    (tail : SeesTail last old) (load : HasLoad node old)
    (copies : GainsStrong fits d same_view IsSameView node old copied)
    (client : copied.view.client ≡ old.view.client)
    (knows : KnowsStill old.view.core old copied) where
  owned : copied.view.core.owned ≡ old.view.core.owned ++ node ∷ []
  owned = ap (λ (v : CoreView). v.owned) copies.core

  pub more : (x : SlotId) → 0 < times x old.view.core.owned → 0 < times x copied.view.core.owned
  more x = still_owned x node old.view.core.owned copied.view.core.owned owned

  life_of : (x : SlotId) → 0 < times x old.view.core.owned
      → life_in (own_of copied.view) x.0 ≡ (object_in old.view x).life
  life_of x owns = own_life x copied (has_owned x copied (more x owns))
      ∙ ap (λ (o : Object). o.life) (knows x (has_owned x old owns))

  pub link_ready : (given : SlotId) → given ≡ node → d.protocol.form ≡ Linked
      → IsAttached old.view.client
      → IsReady (LinkReady (ends_of d)) d.shape (act.Cas (Field last 0) None (Some given)) copied.view
  link_ready given same form attached w =
      let carried = load.carried in
      record {
        last = last.0;
        node = node.0;
        act_is = ap (λ s. plain.TryReplace (Field last 0) None (Some s)) same;
        form = form;
        push = record {
          item = old.view.client.load.item - 1;
          fresh = ap (λ (v : View). v.load.node) client ∙ load.node;
          fresh_life = life_of node load.owns ∙ load.life
              ∙ sym (ap (λ (v : View). v.load.life) client);
          is_node = own_payload node copied (has_owned node copied (more node load.owns))
              ∙ ap (λ (o : Object). o.payload) (knows node (has_owned node old load.owns))
              ∙ load.is_node;
          carried = ap (λ (v : View). v.load.item) client ∙ omega arith;
          here = ap (λ (v : View). v.here) client ∙ attached.here;
          attached = ap (λ (v : View). v.attached) client ∙ attached.attached;
        };
        seen = ap (λ (v : View). v.eyes.node) client ∙ tail.node;
        seen_life = life_of last tail.owns ∙ tail.life
            ∙ sym (ap (λ (v : View). v.eyes.life) client);
        was_tail = ap (λ (v : View). v.eyes.was_tail) client ∙ tail.was_tail;
      }

  -- where it was won
  module _ (new : SeatState View) (still : Leaves (without node copied.view.core.owned) copied new)
    where
      pub link_leaves : Leaves old.view.core.owned old new
      link_leaves = through node None old copied copied new
          (copy_leaves node old copied copies knows) (leaves_same copied copied refl) still

      pub linked_client :
          Replaces fits d link_next TellsNothing (Field last 0) (Some node) None copied new
          → new.view.client ≡ linked_view old.view.client
      linked_client replaces =
          let step = replaces.puts.step in
          let v = copied.view.client in
          let done = is_done step.word 0 outcome.Done (step.word == 0) refl step.answers in
          replaces.client ∙ step.told.client ∙ ap (λ b. cond b (linked_view v) v) done
          ∙ ap linked_view client

      pub linked_behind : new.view.client ≡ linked_view old.view.client → SeesBehind last node new
      linked_behind is =
          let at_last = link_leaves.owns last in
          let at_node = link_leaves.owns node in
          let some_last = tail.owns in
          let some_node = load.owns in
          let shape = ap (λ (v : CoreView). v.shape) link_leaves.same in
          record {
            tail = record {
              owns = omega arith;
              node = ap (λ (v : View). v.eyes.node) is ∙ tail.node;
              life =
                  ap (λ (o : Object). o.life) (link_leaves.knows last (omega arith) (omega arith))
                  ∙ tail.life ∙ sym (ap (λ (v : View). v.eyes.life) is);
              was_tail = ap (λ (v : View). v.eyes.was_tail) is;
              is_node =
                  ap (λ (o : Object). o.payload)
                  (link_leaves.knows last (omega arith) (omega arith))
                  ∙ tail.is_node;
              inside = subst (λ (z : Shape). last.0 < z.slots) (sym shape) tail.inside;
            };
            owns = omega arith;
            following = ap (λ (v : View). v.eyes.following) is ∙ load.node;
            is_node =
                ap (λ (o : Object). o.payload) (link_leaves.knows node (omega arith) (omega arith))
                ∙ load.is_node;
          }

  -- and where it was lost
  module _ (lost' new : SeatState View) (now : ℕ)
      (loses : LosesTo fits d link_next TellsNothing (Field last 0) (Some node) None now
      copied lost') where
    pub unlinked : DropsStrong fits d node lost' new
        → KnowsStill (without_strong node lost'.view.core) lost' new
        → Leaves old.view.core.owned old new
    unlinked drops still = through node None old copied lost' new
        (copy_leaves node old copied copies knows)
        (lost_keeps fits d (Field last 0) (Some node) None now copied lost' loses)
        (drop_leaves node lost' new drops still)

-- what is seen in the tail cell is seen still once another reference was given up
pub tail_still : (last : SlotId) (old new : SeatState View) → SeesTail last old
    → 0 < times last new.view.core.owned → object_in new.view last ≡ object_in old.view last
    → new.view.core.shape ≡ old.view.core.shape → new.view.client ≡ old.view.client
    → SeesTail last new
tail_still last old new sees owns object shape client = record {
  owns = owns;
  node = ap (λ (v : View). v.eyes.node) client ∙ sees.node;
  life = ap (λ (o : Object). o.life) object ∙ sees.life
      ∙ sym (ap (λ (v : View). v.eyes.life) client);
  was_tail = ap (λ (v : View). v.eyes.was_tail) client ∙ sees.was_tail;
  is_node = ap (λ (o : Object). o.payload) object ∙ sees.is_node;
  inside = subst (λ (z : Shape). last.0 < z.slots) (sym shape) sees.inside;
}

-- why a load gave nothing tells why no node was linked
pub why_read : (differs loses : ℕ → ℕ → Type 0) (n : ℕ) (error : LoadError) (old : SeatState View)
    → ((seen now : ℕ) → differs seen now → loses seen now) → IsWhyUnread differs error old
    → IsWhyUnlinked loses n error old
why_read differs loses n unloaded.Spent old so why = omega (arith, why)
why_read differs loses n (unloaded.Moved seen now) old so why = so seen now why

-- why a later step was refused tells why all of it was, by the adds that were used before
pub why_later : (inner outer : ℕ → ℕ → Type 0) (k n j : ℕ) → n ≡ k + j → (error : LoadError)
    (old mid : SeatState View) → mid.view.core.adds ≤ old.view.core.adds + j
    → mid.view.core.quota.adds ≡ old.view.core.quota.adds
    → ((seen now : ℕ) → inner seen now → outer seen now) → IsWhyUnlinked inner k error mid
    → IsWhyUnlinked outer n error old
why_later inner outer k n j is unloaded.Spent old mid adds quota so why = omega arith
why_later inner outer k n j is (unloaded.Moved seen now) old mid adds quota so why = so seen now why
