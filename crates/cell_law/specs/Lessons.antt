-- The deeds by which a seat learns, each at a step that changes nothing; and that of seat 0 when it clears a cell.
use Rattle.std.specs.Prelude.{◌≡◌, ◌≢◌, ℕ, zero, suc, ◌+◌, ◌-◌, ◌<◌, true, false, List, [], ◌∷◌, ◌++◌, None}
use Rattle.plain_protocol.specs.plain_state.declared.act.EventPlace.TheVariants.{Cell, Field}
use Rattle.plain_protocol.specs.plain_state.declared.act.PlainAct.{PlainAct}
use Rattle.plain_protocol.specs.plain_state.declared.act.PlainAct.TheVariants as act
use Rattle.plain_protocol.specs.plain_state.declared.slot.SlotId.{SlotId}
use Rattle.plain_protocol.specs.plain_state.declared.slot.Stage.TheVariants.{Live}
use Rattle.plain_protocol.specs.plain_state.State.{Plain, slot_at, stage_at}
use Rattle.plain_protocol.specs.Acts.{IsCalm}
use Rattle.plain_protocol.specs.Owns.{OwnPart, own_part}
use Rattle.directory_law.specs.declared.view.Rope.{Rope}
use Rattle.directory_law.specs.Payloads.{IsHead, IsPart, IsText}
use Rattle.directory_law.specs.Views.{In, rope}
use Rattle.directory_law.specs.Cells.{Area}
use Rattle.directory_law.specs.Steps.{id, life_in, LooksAt}
use Rattle.cell_law.specs.Views.{Sight, View}
use Rattle.cell_law.specs.Cells.{BindsAlone, HasRoom, IsRecord, cell}
use Rattle.cell_law.specs.Walks.{HasAll, payloads, WalksTell, last_sight, last_of}
use Rattle.cell_law.specs.Making.{cell_of, sees, Stays}

-- LOOK. What a cell of the range holds
pub record LookReady (z : Area) (own : OwnPart) (v : View) (step : PlainAct) : Type 0 where
  pub at : ℕ
  pub inside : at < z.cells
  pub looks : LooksAt (Cell (z.first + at)) step

abbrev pub look_next : Area → OwnPart → OwnPart → View → PlainAct → ℕ → View
look_next z own after v step found = sees (cell_of step - z.first) found v

-- what was seen stands there still: its first slot is a head, the others are parts, and all of them live
abbrev pub SightHolds : Plain → List SlotId → Type 0
SightHolds p [] = Unit {0}
SightHolds p (s ∷ ss) =
    (stage_at p s ≡ Live) × IsHead (slot_at p s).payload
    × ((r : SlotId) → In r ss → (stage_at p r ≡ Live) × IsPart (slot_at p r).payload)

abbrev pub SightsHold : Plain → View → Type 0
SightsHold p w = w.cleared ≡ false → (e : Sight) → In e w.seen → SightHolds p e.slots

-- no slot was seen in a cell that is null
abbrev pub NullsUnseen : Area → Plain → View → Type 0
NullsUnseen z p v =
    v.cleared ≡ false → (e : Sight) → In e v.seen → e.slots ≢ [] → cell z p e.cell ≢ None

-- and where the walk of a text ends here, no cell holds a record with it
pub record LookTells (z : Area) (p q : Plain) (n : ℕ) (v w : View) : Type 0 where
  pub stays : Stays z p q
  pub walks : WalksTell z p n v
  pub holds : SightsHold p w
  pub unseen : NullsUnseen z p v
  pub room : HasRoom z p v

-- READ. Field 1 of the slot that was seen last: the part that it holds is seen then
pub record ReadReady (own : OwnPart) (v : View) (step : PlainAct) : Type 0 where
  pub is_open : v.cleared ≡ false
  pub earlier : List Sight
  pub seen : v.seen ≡ last_sight v.seen ∷ earlier
  pub some_slot : (last_sight v.seen).slots ≢ []
  pub looks : LooksAt (Field (last_of (last_sight v.seen).slots) 1) step

abbrev pub sees_part : ℕ → Sight → Sight
sees_part zero e = e
sees_part (suc s) e = record e { slots = e.slots ++ id s ∷ [] }

abbrev pub read_next : OwnPart → OwnPart → View → PlainAct → ℕ → View
read_next own after v step found = record v { seen = sees_part found (last_sight v.seen) ∷ v.seen }

-- where it is null, the slots that were seen, if the seat has them, have the whole text
abbrev pub EndTells : Plain → ℕ → List SlotId → Type 0
EndTells p n slots =
    HasAll (own_part p n) slots → (slot_at p (last_of slots)).second ≡ None
    → IsText (payloads (own_part p n) slots)

abbrev pub ReadTells : Area → Plain → Plain → ℕ → View → View → Type 0
ReadTells z p q n v w =
    Stays z p q × SightsHold p w × EndTells p n (last_sight v.seen).slots

-- FIND. A calm step, at which the seat has the slots that it saw last, and their payloads are a whole text
pub record FindReady (own : OwnPart) (v : View) (step : PlainAct) : Type 0 where
  pub calm : IsCalm step
  pub is_open : v.cleared ≡ false
  pub earlier : List Sight
  pub seen : v.seen ≡ last_sight v.seen ∷ earlier
  pub has : HasAll own (last_sight v.seen).slots
  pub whole : IsText (payloads own (last_sight v.seen).slots)

abbrev pub first_of : List SlotId → SlotId
first_of [] = id 0
first_of (s ∷ ss) = s

-- the record of which these slots were seen, with the payloads that the seat has
abbrev pub found_rope : OwnPart → List SlotId → Rope
found_rope own slots = rope (first_of slots) (life_in own (first_of slots)) (payloads own slots)

abbrev pub find_next : OwnPart → OwnPart → View → PlainAct → ℕ → View
find_next own after v step found =
    record v { found = found_rope own (last_sight v.seen).slots ∷ v.found }

-- it is the record of that text, and where all was granted to this seat it has bound that itself
pub record Finds (z : Area) (p : Plain) (v : View) (e : Rope) : Type 0 where
  pub is : IsRecord z p e.text e.slot
  pub life : (slot_at p e.slot).life ≡ e.life
  pub own : BindsAlone z v → In e v.bound

abbrev pub FindTells : Area → Plain → Plain → ℕ → View → View → Type 0
FindTells z p q n v w = (e : Rope) → w.found ≡ e ∷ v.found → Finds z p v e

-- CLEAR. Seat 0, when it is alone, puts null into a cell
pub record ClearReady (z : Area) (own : OwnPart) (v : View) (step : PlainAct) : Type 0 where
  pub at : ℕ
  pub inside : at < z.cells
  pub act_is : step ≡ act.Replace (Cell (z.first + at)) None
  pub alone : own.whole ≢ None

abbrev pub clear_next : OwnPart → OwnPart → View → PlainAct → ℕ → View
clear_next own after v step found = record v { cleared = true }

-- no slot changes, and no cell but for one, which is null then
pub record ClearTells (z : Area) (p q : Plain) (n : ℕ) (v w : View) : Type 0 where
  pub slots : (s : SlotId) → slot_at q s ≡ slot_at p s
  pub cells : (c : ℕ) → c < z.cells → cell z q c ≢ None → cell z q c ≡ cell z p c
