-- An example: what a seat notes that puts a second key into a map of one node.
use Rattle.std.specs.Prelude.{ℕ, [], ◌∷◌, ◌==◌, if◌then◌else◌, Option, Some, None}
use Rattle.plain_protocol.specs.plain_state.declared.act.EventPlace.TheVariants.{Cell, Field}
use Rattle.plain_protocol.specs.plain_state.declared.act.PlainAct.TheVariants as act
use Rattle.plain_protocol.specs.plain_state.declared.slot.SlotId.{SlotId}
use Rattle.plain_protocol.specs.plain_state.State.{new_seat}
use Rattle.plain_protocol.specs.Owns.{Object, OwnPart}
use Rattle.map_law.specs.Views.{View, first_view}
use Rattle.map_law.specs.Nodes.{words}
use Rattle.map_law.specs.Making.{make_next, set_next}
use Rattle.map_law.specs.Lessons.{read_next, see_next}

-- the old root is in slot 0, the new leaf in slot 1, and the copy of the root in slot 2
abbrev pub old_root : SlotId
old_root = record { 0 = 0 }

abbrev pub new_leaf : SlotId
new_leaf = record { 0 = 1 }

abbrev pub new_root : SlotId
new_root = record { 0 = 2 }

-- key 3 has 7, and key 9 is to have 5; the new nodes are in this life
abbrev pub objects : ℕ → SlotId → Option Object
objects life s = if s.0 == 0
    then Some (record { life = 1; payload = words 3 7 1 })
    else (if s.0 == 1
    then Some (record { life = life; payload = words 9 5 1 })
    else Some (record { life = life; payload = words 3 7 2 }))

abbrev pub own : ℕ → OwnPart
own life = record {
  seat = record new_seat { owned = new_leaf ∷ new_root ∷ [] };
  objects = objects life;
  whole = None;
}

-- seat 2 has seen the root, and read both its fields
abbrev pub seen : View
seen = see_next (own 4) (own 4) (first_view 2) (act.Check 1 (Cell 0)) 1

abbrev pub read : View
read =
    let once = read_next old_root 0 (own 4) (own 4) seen (act.Look (Field old_root 0)) 0 in
    read_next old_root 1 (own 4) (own 4) once (act.Look (Field old_root 1)) 0

-- it has made both nodes, and then set field 1 of the copy
abbrev pub both : View
both =
    let one = make_next new_leaf (own 4) (own 5) read (act.Make new_leaf) 0 in
    make_next new_root (own 4) (own 5) one (act.Make new_root) 0

abbrev pub linked : View
linked =
    set_next 1 new_leaf (own 5) (own 5) both (act.Replace (Field new_root 1) (Some new_leaf)) 0
