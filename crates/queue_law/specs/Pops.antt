-- The deeds of a pop.
use Rattle.std.specs.Prelude.{◌≡◌, ℕ, ◌+◌, ◌-◌, ◌<◌, true, cond, ◌==◌, [], ◌∷◌, ◌++◌, Some, None}
use Rattle.plain_protocol.specs.plain_state.declared.act.EventPlace.TheVariants.{Cell}
use Rattle.plain_protocol.specs.plain_state.declared.act.PlainAct.{PlainAct}
use Rattle.plain_protocol.specs.plain_state.declared.act.PlainAct.TheVariants as act
use Rattle.plain_protocol.specs.Owns.{OwnPart}
use Rattle.queue_law.specs.Words.{id, second_of, times, held_times, life_in, payload_in}
use Rattle.queue_law.specs.Views.{View, Item}
use Rattle.queue_law.specs.Chain.{Ends}

-- TAKE. The head cell gets the node after the one that it holds, and the seat takes its item, of which it has a
-- reference already
pub record TakeReady (u : Ends) (own : OwnPart) (v : View) (step : PlainAct) : Type 0 where
  pub old : ℕ
  pub new : ℕ
  pub item : ℕ
  pub act_is : step ≡ act.TryReplace (Cell u.head) (Some (id old)) (Some (id new))
  pub held : 0 < held_times old own.seat
  pub seen : v.eyes.node ≡ old + 1
  pub seen_life : life_in own old ≡ v.eyes.life
  pub following : v.eyes.following ≡ new + 1
  pub found : v.eyes.found ≡ item + 1
  pub has_item : 0 < times item own.seat.owned
  pub here : v.here ≡ true

abbrev pub popped_item : OwnPart → View → Item
popped_item own v = record {
  slot = v.eyes.found - 1;
  life = life_in own (v.eyes.found - 1);
  payload = payload_in own (v.eyes.found - 1);
}

abbrev pub popped_view : OwnPart → View → View
popped_view own v = record v {
  dummy = v.eyes.following;
  dummy_life = life_in own (v.eyes.following - 1);
  popped = v.popped ++ record { item = popped_item own v; taker = v.number } ∷ [];
}

abbrev pub take_next : OwnPart → OwnPart → View → PlainAct → ℕ → View
take_next own after v step found = cond (found == v.eyes.node) (popped_view own v) v

-- EMPTY. Field 1 of the new dummy is cleared
pub record EmptyReady (own : OwnPart) (v : View) (step : PlainAct) : Type 0 where
  pub node : ℕ
  pub act_is : step ≡ act.Replace (second_of node) None
  pub dummy : v.dummy ≡ node + 1
  pub dummy_life : life_in own node ≡ v.dummy_life

abbrev pub empty_next : OwnPart → OwnPart → View → PlainAct → ℕ → View
empty_next own after v step found = v
