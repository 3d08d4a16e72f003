-- The deeds that make a record: its slots are made, the last part first; each leads to the one that was made before
-- it; the head goes into a cell.
use Rattle.std.specs.Prelude.{◌≡◌, ◌≢◌, ◌⊎◌, ℕ, ◌+◌, ◌<◌, ◌==◌, List, [], ◌∷◌, ◌++◌, if◌then◌else◌, Some, None}
use Rattle.plain_protocol.specs.plain_state.declared.act.EventPlace.TheVariants.{Field, WeakCell}
use Rattle.plain_protocol.specs.plain_state.declared.act.PlainAct.{PlainAct}
use Rattle.plain_protocol.specs.plain_state.declared.act.PlainAct.TheVariants as act
use Rattle.plain_protocol.specs.plain_state.declared.slot.SlotId.{SlotId}
use Rattle.plain_protocol.specs.plain_state.Lists.{times}
use Rattle.plain_protocol.specs.plain_state.State.{Plain, slot_at}
use Rattle.plain_protocol.specs.Owns.{OwnPart}
use Rattle.directory_law.specs.Payloads.{Text, IsPart, IsOwn, IsText}
use Rattle.directory_law.specs.Views.{Rope, View, rope, without}
use Rattle.directory_law.specs.Cells.{Area, on}
use Rattle.directory_law.specs.Law.{IsBound}
use Rattle.directory_law.specs.Steps.{id, life_in, payload_in, slot_in, Stays}
use Rattle.directory_law.specs.Walks.{Walked}

-- MAKE. The slot that the seat is filling becomes a head or a part, which stands nowhere
pub record MakeReady (own : OwnPart) (v : View) (step : PlainAct) : Type 0 where
  pub slot : SlotId
  pub act_is : step ≡ act.Make slot
  pub is_own : IsOwn (payload_in own slot)

-- the note of a slot that leads nowhere yet
abbrev pub alone : OwnPart → SlotId → Rope
alone own s = rope s (life_in own s) (payload_in own s ∷ [])

abbrev pub make_next : OwnPart → OwnPart → View → PlainAct → ℕ → View
make_next own after v step found = record v { noted = alone after (slot_in step) ∷ v.noted }

-- LINK. Field 1 of the slot that was made last gets the part that was noted before it
pub record LinkReady (own : OwnPart) (v : View) (step : PlainAct) : Type 0 where
  pub slot : SlotId
  pub part : SlotId
  pub act_is : step ≡ act.Replace (Field slot 1) (Some part)
  pub owned : 0 < times slot own.seat.owned
  pub part_owned : 0 < times part own.seat.owned
  pub is_part : IsPart (payload_in own part)
  pub text : Text
  pub others : List Rope
  pub noted : v.noted ≡ alone own slot ∷ rope part (life_in own part) text ∷ others

-- the first note takes over the text of the second
abbrev pub linked : List Rope → List Rope
linked [] = []
linked (e ∷ []) = e ∷ []
linked (e ∷ f ∷ es) = rope e.slot e.life (e.text ++ f.text) ∷ without f.slot f.life (f ∷ es)

abbrev pub link_next : OwnPart → OwnPart → View → PlainAct → ℕ → View
link_next own after v step found = record v { noted = linked v.noted }

-- BIND. The first null cell of the walk of a text gets the head that was noted last, where it is still null
pub record BindReady (z : Area) (own : OwnPart) (v : View) (step : PlainAct) : Type 0 where
  pub slot : SlotId
  pub text : Text
  pub passed : ℕ
  pub act_is : step ≡ act.TryReplace (WeakCell (z.first + on z text passed)) None (Some slot)
  pub some_cells : 0 < z.cells
  pub owned : 0 < times slot own.seat.owned
  pub is_text : IsText text
  pub walked : Walked z v text passed
  pub spare : v.used < v.quota
  pub others : List Rope
  pub noted : v.noted ≡ rope slot (life_in own slot) text ∷ others

abbrev pub first_noted : List Rope → Rope
first_noted [] = rope (id 0) 0 []
first_noted (e ∷ es) = e

abbrev pub bound : Rope → View → View
bound e v = record v {
  noted = without e.slot e.life v.noted;
  kept = e ∷ v.kept;
  used = v.used + 1;
}

abbrev pub bind_next : OwnPart → OwnPart → View → PlainAct → ℕ → View
bind_next own after v step found = if found == 0 then bound (first_noted v.noted) v else v

-- WHAT THEY TELL. No set cell changes
abbrev pub MakeTells : Area → Plain → Plain → ℕ → View → View → Type 0
MakeTells z p q n v w = Stays z p q

-- no slot changes but one that the seat notes, the last
abbrev pub LinkTells : Area → Plain → Plain → ℕ → View → View → Type 0
LinkTells z p q n v w =
    Stays z p q
    × ((s : SlotId) → s ≢ (first_noted v.noted).slot → slot_at q s ≡ slot_at p s)

-- a head that was bound is the live record of its text
abbrev pub BindTells : Area → Plain → Plain → ℕ → View → View → Type 0
BindTells z p q n v w =
    Stays z p q
    × ((w ≡ v) ⊎ IsBound z q (first_noted v.noted).text (first_noted v.noted).slot)
