-- The deeds that link nodes: the deciding exchange of a push, and what follows it.
use Rattle.std.specs.Prelude.{◌≡◌, ℕ, ◌+◌, ◌-◌, ◌<◌, true, cond, ◌==◌, [], ◌∷◌, ◌++◌, Some, None}
use Rattle.plain_protocol.specs.plain_state.declared.act.EventPlace.TheVariants.{Cell}
use Rattle.plain_protocol.specs.plain_state.declared.act.PlainAct.{PlainAct}
use Rattle.plain_protocol.specs.plain_state.declared.act.PlainAct.TheVariants as act
use Rattle.plain_protocol.specs.plain_state.State.{no_payload}
use Rattle.plain_protocol.specs.Owns.{OwnPart}
use Rattle.queue_law.specs.Words.{id, first_of, held_times, life_in, payload_in}
use Rattle.queue_law.specs.Views.{Linked, Double, View, Item, Flight, no_load, no_flight, sees_node}
use Rattle.queue_law.specs.Chain.{Ends}

-- the seat's own node can be linked: it has its item, and the seat is attached
pub record PushReady (own : OwnPart) (v : View) (node : ℕ) : Type 0 where
  pub item : ℕ
  pub fresh : v.load.node ≡ node + 1
  pub fresh_life : life_in own node ≡ v.load.life
  pub is_node : payload_in own node ≡ no_payload
  pub carried : v.load.item ≡ item + 1
  pub here : v.here ≡ true
  pub attached : v.attached ≡ true

abbrev pub carried_item : View → Item
carried_item v = record {
  slot = v.load.item - 1;
  life = v.load.item_life;
  payload = v.load.item_payload;
}

-- the seat has pushed the item of its own node, which is no longer its own
abbrev pub pushed_view : View → View
pushed_view v = record v {
  load = no_load;
  pushed = v.pushed ++ record { item = carried_item v; taker = v.number } ∷ [];
}

-- LINK, in a linked queue. Field 0 of the last node, which the tail cell held, gets the seat's own node
pub record LinkReady (u : Ends) (own : OwnPart) (v : View) (step : PlainAct) : Type 0 where
  pub last : ℕ
  pub node : ℕ
  pub act_is : step ≡ act.TryReplace (first_of last) None (Some (id node))
  pub form : u.form ≡ Linked
  pub push : PushReady own v node
  pub seen : v.eyes.node ≡ last + 1
  pub seen_life : life_in own last ≡ v.eyes.life
  pub was_tail : v.eyes.was_tail ≡ true

abbrev pub linked_view : View → View
linked_view v = record (pushed_view v) {
  eyes = record (sees_node v.eyes.node v.eyes.life) { was_tail = true; following = v.load.node };
}

abbrev pub link_next : OwnPart → OwnPart → View → PlainAct → ℕ → View
link_next own after v step found = cond (found == 0) (linked_view v) v

-- ADVANCE, in a linked queue. The tail cell gets the node after the one that it holds
pub record AdvanceReady (u : Ends) (own : OwnPart) (v : View) (step : PlainAct) : Type 0 where
  pub old : ℕ
  pub new : ℕ
  pub act_is : step ≡ act.TryReplace (Cell u.tail) (Some (id old)) (Some (id new))
  pub form : u.form ≡ Linked
  pub held : 0 < held_times old own.seat
  pub held_new : 0 < held_times new own.seat
  pub seen : v.eyes.node ≡ old + 1
  pub seen_life : life_in own old ≡ v.eyes.life
  pub following : v.eyes.following ≡ new + 1
  pub was_tail : v.eyes.was_tail ≡ true
  pub attached : v.attached ≡ true

-- afterwards the tail cell has held that node, whoever advanced it
abbrev pub advance_next : OwnPart → OwnPart → View → PlainAct → ℕ → View
advance_next own after v step found = record v {
  eyes = record (sees_node v.eyes.following (life_in own (v.eyes.following - 1))) {
    was_tail = true;
  };
}

-- EXCHANGE, in a doubly linked queue. The tail cell gets the seat's own node, whose weak field leads back to the node
-- that it held, where the link of that one's predecessor isn't missing
pub record ExchangeReady (u : Ends) (own : OwnPart) (v : View) (step : PlainAct) : Type 0 where
  pub old : ℕ
  pub node : ℕ
  pub act_is : step ≡ act.TryReplace (Cell u.tail) (Some (id old)) (Some (id node))
  pub form : u.form ≡ Double
  pub push : PushReady own v node
  pub held : 0 < held_times old own.seat
  pub seen : v.eyes.node ≡ old + 1
  pub seen_life : life_in own old ≡ v.eyes.life
  pub helped : v.eyes.helped ≡ true
  pub backed : v.load.back ≡ v.eyes.node

abbrev pub takes_off : View → Flight
takes_off v = record {
  prev = v.eyes.node;
  prev_life = v.eyes.life;
  node = v.load.node;
  life = v.load.life;
}

abbrev pub flying_view : View → View
flying_view v = record (pushed_view v) { flight = takes_off v }

abbrev pub exchange_next : OwnPart → OwnPart → View → PlainAct → ℕ → View
exchange_next own after v step found = cond (found == v.eyes.node) (flying_view v) v

-- LAND. The end of a push in flight: field 0 of the node before gets the pushed one, where it is still null
pub record LandReady (own : OwnPart) (v : View) (step : PlainAct) : Type 0 where
  pub prev : ℕ
  pub node : ℕ
  pub act_is : step ≡ act.TryReplace (first_of prev) None (Some (id node))
  pub at_prev : v.flight.prev ≡ prev + 1
  pub prev_life : life_in own prev ≡ v.flight.prev_life
  pub at_node : v.flight.node ≡ node + 1
  pub node_life : life_in own node ≡ v.flight.life

abbrev pub land_next : OwnPart → OwnPart → View → PlainAct → ℕ → View
land_next own after v step found = record v { flight = no_flight }

-- HELP. Field 0 of the node before one that was seen gets that one, where it is still null
pub record HelpReady (u : Ends) (own : OwnPart) (v : View) (step : PlainAct) : Type 0 where
  pub before : ℕ
  pub node : ℕ
  pub act_is : step ≡ act.TryReplace (first_of before) None (Some (id node))
  pub form : u.form ≡ Double
  pub held : 0 < held_times node own.seat
  pub seen : v.eyes.node ≡ node + 1
  pub seen_life : life_in own node ≡ v.eyes.life
  pub at_before : v.eyes.before ≡ before + 1

abbrev pub helped_view : View → View
helped_view v = record v { eyes = record v.eyes { helped = true } }

abbrev pub help_next : OwnPart → OwnPart → View → PlainAct → ℕ → View
help_next own after v step found = helped_view v
