-- The deeds that make a record: its slots are made, the last part first; each leads to the one that was made before
-- it; the head goes into a cell.
use Rattle.std.specs.Prelude.{◌≡◌, ◌≢◌, ◌⊎◌, ℕ, zero, suc, ◌+◌, ◌-◌, ◌<◌, ◌==◌, false, List, [], ◌∷◌, if◌then◌else◌, sum, Some, None}
use Rattle.plain_protocol.specs.plain_state.declared.act.EventPlace.{EventPlace}
use Rattle.plain_protocol.specs.plain_state.declared.act.EventPlace.TheVariants.{Cell, Field}
use Rattle.plain_protocol.specs.plain_state.declared.act.PlainAct.{PlainAct}
use Rattle.plain_protocol.specs.plain_state.declared.act.PlainAct.TheVariants as act
use Rattle.plain_protocol.specs.plain_state.declared.slot.SlotId.{SlotId}
use Rattle.plain_protocol.specs.plain_state.Lists.{times}
use Rattle.plain_protocol.specs.plain_state.State.{Plain, slot_at}
use Rattle.plain_protocol.specs.Owns.{OwnPart}
use Rattle.directory_law.specs.declared.view.Rope.{Rope}
use Rattle.directory_law.specs.Payloads.{Text, IsPart, IsOwn}
use Rattle.directory_law.specs.Views.{rope}
use Rattle.directory_law.specs.Cells.{Area, on}
use Rattle.directory_law.specs.Making.{alone, linked, first_noted}
use Rattle.directory_law.specs.Steps.{id, life_in, payload_in, slot_in}
use Rattle.cell_law.specs.Views.{IsWord, MayBind, Unseen, View, sight}
use Rattle.cell_law.specs.Cells.{cell, IsRecord, NoRecord}
use Rattle.cell_law.specs.Walks.{Walked}

-- MAKE. The slot that the seat is filling becomes a head or a part, which stands nowhere
pub record MakeReady (own : OwnPart) (v : View) (step : PlainAct) : Type 0 where
  pub slot : SlotId
  pub act_is : step ≡ act.Make slot
  pub is_own : IsOwn (payload_in own slot)

abbrev pub make_next : OwnPart → OwnPart → View → PlainAct → ℕ → View
make_next own after v step found = record v { noted = alone after (slot_in step) ∷ v.noted }

-- LINK. Field 1 of the slot that was made last gets the part that was noted before it, by a store or where it is null
abbrev pub Links : SlotId → SlotId → PlainAct → Type 0
Links slot part step =
    (step ≡ act.Replace (Field slot 1) (Some part))
    ⊎ (step ≡ act.TryReplace (Field slot 1) None (Some part))

pub record LinkReady (own : OwnPart) (v : View) (step : PlainAct) : Type 0 where
  pub slot : SlotId
  pub part : SlotId
  pub links : Links slot part step
  pub owned : 0 < times slot own.seat.owned
  pub part_owned : 0 < times part own.seat.owned
  pub is_part : IsPart (payload_in own part)
  pub text : Text
  pub others : List Rope
  pub noted : v.noted ≡ alone own slot ∷ rope part (life_in own part) text ∷ others

abbrev pub link_next : OwnPart → OwnPart → View → PlainAct → ℕ → View
link_next own after v step found = record v { noted = linked v.noted }

-- BIND. The first null cell of the walk of a text gets the head that was noted last, where it is still null. The seat
-- may put one head more into a cell
pub record BindReady (z : Area) (own : OwnPart) (v : View) (step : PlainAct) : Type 0 where
  pub slot : SlotId
  pub text : Text
  pub passed : ℕ
  pub act_is : step ≡ act.TryReplace (Cell (z.first + on z text passed)) None (Some slot)
  pub some_cells : 0 < z.cells
  pub is_open : v.cleared ≡ false
  pub granted : MayBind v
  pub owned : 0 < times slot own.seat.owned
  pub is_word : IsWord text
  pub walked : Walked z own v text passed
  pub others : List Rope
  pub noted : v.noted ≡ rope slot (life_in own slot) text ∷ others

abbrev pub other_notes : List Rope → List Rope
other_notes [] = []
other_notes (e ∷ es) = es

-- the view where the head that was noted last went into cell c
abbrev pub binds : ℕ → View → View
binds c v = record v {
  noted = other_notes v.noted;
  bound = first_noted v.noted ∷ v.bound;
  seen = sight c (first_noted v.noted).slot ∷ v.seen;
}

-- the number of the cell that a step looks at or writes
abbrev pub cell_index : EventPlace → ℕ
cell_index (Cell i) = i
cell_index _ = 0

abbrev pub cell_of : PlainAct → ℕ
cell_of (act.Look at) = cell_index at
cell_of (act.Check j at) = cell_index at
cell_of (act.TryReplace at old new) = cell_index at
cell_of _ = 0

-- the view where cell c showed this word
abbrev pub sees : ℕ → ℕ → View → View
sees c zero v = v
sees c (suc s) v = record v { seen = sight c (id s) ∷ v.seen }

abbrev pub bind_next : Area → OwnPart → OwnPart → View → PlainAct → ℕ → View
bind_next z own after v step found =
    if found == 0 then binds (cell_of step - z.first) v else sees (cell_of step - z.first) found v

-- WHAT THEY TELL. A set cell doesn't change
abbrev pub Stays : Area → Plain → Plain → Type 0
Stays z p q = (c : ℕ) (s : SlotId) → c < z.cells → cell z p c ≡ Some s → cell z q c ≡ Some s

abbrev pub MakeTells : Area → Plain → Plain → ℕ → View → View → Type 0
MakeTells z p q n v w = Stays z p q

-- no slot changes but the one that the seat noted last
abbrev pub LinkTells : Area → Plain → Plain → ℕ → View → View → Type 0
LinkTells z p q n v w =
    Stays z p q
    × ((s : SlotId) → s ≢ (first_noted v.noted).slot → slot_at q s ≡ slot_at p s)

-- the head is the record of its text then, and no cell held one before
pub record WinsCell (z : Area) (p q : Plain) (v w : View) : Type 0 where
  pub at : ℕ
  pub inside : at < z.cells
  pub held : cell z q at ≡ Some (first_noted v.noted).slot
  pub next : w ≡ binds at v
  pub new : NoRecord z p (first_noted v.noted).text
  pub is : IsRecord z q (first_noted v.noted).text (first_noted v.noted).slot

-- the cell holds another head, which the view has seen then; nothing else has changed. Where the view had seen nothing
-- there, the head is another seat's, so not all was granted to this one
pub record LosesCell (z : Area) (p q : Plain) (v w : View) : Type 0 where
  pub at : ℕ
  pub inside : at < z.cells
  pub holder : SlotId
  pub held : cell z p at ≡ Some holder
  pub next : w ≡ record v { seen = sight at holder ∷ v.seen }
  pub same : q ≡ p
  pub other : Unseen v at → v.grant < sum z.interns

abbrev pub BindTells : Area → Plain → Plain → ℕ → View → View → Type 0
BindTells z p q n v w = Stays z p q × (WinsCell z p q v w ⊎ LosesCell z p q v w)
