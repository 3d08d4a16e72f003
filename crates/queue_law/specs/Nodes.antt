-- The deeds on a node of the seat's own: it is made, and gets its item and its way back.
use Rattle.std.specs.Prelude.{◌≡◌, ℕ, ◌+◌, ◌-◌, ◌<◌, Some}
use Rattle.plain_protocol.specs.plain_state.declared.act.PlainAct.{PlainAct}
use Rattle.plain_protocol.specs.plain_state.declared.act.PlainAct.TheVariants as act
use Rattle.plain_protocol.specs.plain_state.State.{no_payload}
use Rattle.plain_protocol.specs.plain_state.Steps.{word_of}
use Rattle.plain_protocol.specs.Owns.{OwnPart}
use Rattle.queue_law.specs.Words.{id, second_of, back_of, times, life_in, payload_in}
use Rattle.queue_law.specs.Views.{View, no_load}

-- MAKE. The slot that the seat is filling becomes a node
pub record MakeReady (own : OwnPart) (v : View) (step : PlainAct) : Type 0 where
  pub node : ℕ
  pub act_is : step ≡ act.Make (id node)
  pub is_node : payload_in own node ≡ no_payload

abbrev pub made : PlainAct → ℕ
made (act.Make s) = s.0
made _ = 0

abbrev pub make_next : OwnPart → OwnPart → View → PlainAct → ℕ → View
make_next own after v step found =
    record v { load = record no_load { node = made step + 1; life = life_in own (made step) + 1 } }

-- what an exchange puts
abbrev pub given : PlainAct → ℕ
given (act.Replace at new) = word_of new
given _ = 0

-- CARRY. Field 1 of the seat's own node gets an item
pub record CarryReady (own : OwnPart) (v : View) (step : PlainAct) : Type 0 where
  pub node : ℕ
  pub item : ℕ
  pub act_is : step ≡ act.Replace (second_of node) (Some (id item))
  pub fresh : v.load.node ≡ node + 1
  pub fresh_life : life_in own node ≡ v.load.life
  pub has_item : 0 < times item own.seat.owned

abbrev pub carry_next : OwnPart → OwnPart → View → PlainAct → ℕ → View
carry_next own after v step found = record v {
  load = record v.load {
    item = given step;
    item_life = life_in own (given step - 1);
    item_payload = payload_in own (given step - 1);
  };
}

-- BACK. The weak field of the seat's own node gets a weak reference
pub record BackReady (own : OwnPart) (v : View) (step : PlainAct) : Type 0 where
  pub node : ℕ
  pub prev : ℕ
  pub act_is : step ≡ act.Replace (back_of node) (Some (id prev))
  pub fresh : v.load.node ≡ node + 1
  pub fresh_life : life_in own node ≡ v.load.life

abbrev pub back_next : OwnPart → OwnPart → View → PlainAct → ℕ → View
back_next own after v step found = record v { load = record v.load { back = given step } }
