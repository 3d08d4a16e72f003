-- The deeds of seat 0 that lay and shut a queue.
use Rattle.std.specs.Prelude.{◌≡◌, ℕ, zero, suc, ◌+◌, ◌-◌, Bool, true, false, cond, ◌==◌, List, [], ◌∷◌, length, Some, None}
use Rattle.plain_protocol.specs.plain_state.declared.act.EventPlace.TheVariants.{Cell}
use Rattle.plain_protocol.specs.plain_state.declared.act.PlainAct.{PlainAct}
use Rattle.plain_protocol.specs.plain_state.declared.act.PlainAct.TheVariants as act
use Rattle.plain_protocol.specs.plain_state.State.{Plain}
use Rattle.plain_protocol.specs.Owns.{OwnPart}
use Rattle.queue_law.specs.Words.{id, slot_at, cell_at, life_in, whole_of}
use Rattle.queue_law.specs.Views.{Form, Linked, Double, View, Item, no_load, sees_node}
use Rattle.queue_law.specs.Chain.{Ends}

-- LAY. The dummy goes into the tail cell
pub record LayTailReady (u : Ends) (own : OwnPart) (v : View) (step : PlainAct) : Type 0 where
  pub node : ℕ
  pub act_is : step ≡ act.Replace (Cell u.tail) (Some (id node))
  pub unlaid : v.stand.laid ≡ 0
  pub root : v.number ≡ 0
  pub here : v.here ≡ true
  pub fresh : v.load.node ≡ node + 1
  pub fresh_life : life_in own node ≡ v.load.life
  pub no_back : v.load.back ≡ 0

abbrev pub lay_tail_next : OwnPart → OwnPart → View → PlainAct → ℕ → View
lay_tail_next own after v step found = record v {
  load = no_load;
  eyes = sees_node v.load.node v.load.life;
  stand = record { laid = 1; left = [] };
}

-- and then into the head cell
pub record LayHeadReady (u : Ends) (own : OwnPart) (v : View) (step : PlainAct) : Type 0 where
  pub node : ℕ
  pub act_is : step ≡ act.Replace (Cell u.head) (Some (id node))
  pub laying : v.stand.laid ≡ 1
  pub root : v.number ≡ 0
  pub here : v.here ≡ true
  pub seen : v.eyes.node ≡ node + 1
  pub seen_life : life_in own node ≡ v.eyes.life

abbrev pub lay_head_next : OwnPart → OwnPart → View → PlainAct → ℕ → View
lay_head_next own after v step found =
    record v { stand = record { laid = 2; left = [] }; attached = true }

-- the item that field 1 of a slot holds
abbrev pub item_of : Plain → ℕ → Item
item_of p c =
    let x = (slot_at p c).second - 1 in
    record { slot = x; life = (slot_at p x).life; payload = (slot_at p x).payload }

-- the slot behind one that isn't the last: by field 0 or, where that is null, the tail's slot t
abbrev pub behind : Plain → ℕ → ℕ → ℕ
behind p t s = cond ((slot_at p s).first == 0) t ((slot_at p s).first - 1)

-- s is the last: its field 0 is null or, in a doubly linked queue, it is the tail's slot
abbrev pub is_end : Form → Plain → ℕ → ℕ → Bool
is_end Linked p t s = (slot_at p s).first == 0
is_end Double p t s = s == t

-- the items of up to so many slots behind s
abbrev pub walk : ℕ → Form → Plain → ℕ → ℕ → List Item
walk zero form p t s = []
walk (suc more) form p t s =
    cond (is_end form p t s) [] (item_of p (behind p t s) ∷ walk more form p t (behind p t s))

-- what waits, for a seat that sees the whole state
abbrev pub waiting_in : Ends → ℕ → Plain → List Item
waiting_in u many p = walk many u.form p (cell_at p u.tail - 1) (cell_at p u.head - 1)

-- SHUT. The head cell is cleared, and what waits is noted
pub record ShutHeadReady (u : Ends) (own : OwnPart) (v : View) (step : PlainAct) : Type 0 where
  pub act_is : step ≡ act.Replace (Cell u.head) None
  pub plain : Plain
  pub alone : own.whole ≡ Some plain
  pub laid : v.stand.laid ≡ 2
  pub attached : v.attached ≡ true

abbrev pub shut_head_next : Ends → OwnPart → OwnPart → View → PlainAct → ℕ → View
shut_head_next u own after v step found = record v {
  attached = false;
  stand = record { laid = 3; left = waiting_in u (length v.pushed) (whole_of own.whole) };
}

-- and then the tail cell
pub record ShutTailReady (u : Ends) (own : OwnPart) (v : View) (step : PlainAct) : Type 0 where
  pub act_is : step ≡ act.Replace (Cell u.tail) None
  pub plain : Plain
  pub alone : own.whole ≡ Some plain
  pub laid : v.stand.laid ≡ 3

abbrev pub shut_tail_next : OwnPart → OwnPart → View → PlainAct → ℕ → View
shut_tail_next own after v step found = record v { stand = record v.stand { laid = 4 } }
