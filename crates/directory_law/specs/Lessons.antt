-- The deeds by which a seat learns: each is a step that changes nothing which the law reads.
use Rattle.std.specs.Prelude.{◌≡◌, ℕ, zero, suc, ◌+◌, ◌-◌, ◌<◌, ◌≤◌, Bool, true, false, ◌==◌, List, [], ◌∷◌, ◌++◌, if◌then◌else◌, slice_index_or, Option, Some, None}
use Rattle.plain_protocol.specs.plain_state.declared.act.EventPlace.TheVariants.{Field, WeakCell}
use Rattle.plain_protocol.specs.plain_state.declared.act.PlainAct.{PlainAct}
use Rattle.plain_protocol.specs.plain_state.declared.act.PlainAct.TheVariants as act
use Rattle.plain_protocol.specs.plain_state.declared.slot.SlotId.{SlotId}
use Rattle.plain_protocol.specs.plain_state.Lists.{times}
use Rattle.plain_protocol.specs.plain_state.State.{Plain, slot_at}
use Rattle.plain_protocol.specs.plain_state.Places.{HoldsStrongly}
use Rattle.plain_protocol.specs.Acts.{IsCalm}
use Rattle.plain_protocol.specs.Owns.{Object, OwnPart}
use Rattle.directory_law.specs.Payloads.{Text, IsHead, IsText}
use Rattle.directory_law.specs.Views.{Note, Rope, Seen, Ran, Led, View, In, note, without}
use Rattle.directory_law.specs.Cells.{Area}
use Rattle.directory_law.specs.Law.{IsBound}
use Rattle.directory_law.specs.Steps.{id, life_in, payload_in, slot_of, slot_in, LooksAt, place_of, weak_index, Stays}
use Rattle.directory_law.specs.Walks.{FindsRoom, WalksTell}

-- LOOK at a weak cell, whichever. A seat that has an intern left is told that its walk doesn't come around
abbrev pub LookReady : OwnPart → View → PlainAct → Type 0
LookReady own v step = (c : ℕ) × (step ≡ act.Look (WeakCell c))

abbrev pub look_next : OwnPart → OwnPart → View → PlainAct → ℕ → View
look_next own after v step found = v

abbrev pub LookTells : Area → Plain → Plain → ℕ → View → View → Type 0
LookTells z p q n v w = Stays z p q × WalksTell z p v × FindsRoom z v

-- SEE. What a cell of the range held, if the seat has it afterwards
pub record SeeReady (z : Area) (own : OwnPart) (v : View) (step : PlainAct) : Type 0 where
  pub cell : ℕ
  pub inside : cell < z.cells
  pub looks : LooksAt (WeakCell (z.first + cell)) step

abbrev pub sees : ℕ → SlotId → Option Object → View → View
sees c s None v = v
sees c s (Some o) v =
    record v { seen = record { cell = c; slot = s; life = o.life; head = o.payload } ∷ v.seen }

abbrev pub see_next : Area → OwnPart → OwnPart → View → PlainAct → ℕ → View
see_next z own after v step zero = v
see_next z own after v step (suc s) =
    sees (weak_index (place_of step) - z.first) (id s) (after.objects (id s)) v

-- it is a head; and where a walk ends here, the text has no live record
abbrev pub SeeTells : Area → Plain → Plain → ℕ → View → View → Type 0
SeeTells z p q n v w =
    Stays z p q × WalksTell z p v × ((e : Seen) → In e w.seen → IsHead e.head)

-- an intern that a step counts, or none
abbrev pub spent : Bool → ℕ
spent true = 1
spent false = 0

-- the seat has seen s in a cell, in the life in which it now has it
abbrev pub HasSeen : OwnPart → View → SlotId → Type 0
HasSeen own v s =
    (c : ℕ)
    × In (record { cell = c; slot = s; life = life_in own s; head = payload_in own s }) v.seen

-- UPGRADE. An add to a head that was seen in a cell
pub record UpgradeReady (spends : Bool) (own : OwnPart) (v : View) (step : PlainAct)
    : Type 0 where
  pub slot : SlotId
  pub act_is : step ≡ act.Add slot
  pub seen : HasSeen own v slot
  pub spare : v.used + spent spends ≤ v.quota

-- the payload of the head is read
abbrev pub starts_at : OwnPart → SlotId → Ran
starts_at own s = record {
  slot = s;
  life = life_in own s;
  before = payload_in own s ∷ [];
  now = s;
  now_life = life_in own s;
}

abbrev pub upgrade_next : Bool → OwnPart → OwnPart → View → PlainAct → ℕ → View
upgrade_next spends own after v step found =
    if found == 0
    then record v { used = v.used + spent spends; ran = starts_at own (slot_in step) ∷ v.ran }
    else record v { ended = note (slot_in step) (life_in own (slot_in step)) ∷ v.ended }

-- where a text was begun, it is that of a live record, in a cell
abbrev pub UpgradeTells : Area → Plain → Plain → ℕ → View → View → Type 0
UpgradeTells z p q n v w =
    (e : Ran) → w.ran ≡ e ∷ v.ran
    → (tail : Text) × IsText (e.before ++ tail) × IsBound z p (e.before ++ tail) e.slot

abbrev pub first_ran : List Ran → Ran
first_ran [] = record { slot = id 0; life = 0; before = []; now = id 0; now_life = 0 }
first_ran (e ∷ es) = e

-- LEAD, READ ON. A look or a check of field 1 of the slot that was read last, which the seat holds strongly
pub record ReadReady (own : OwnPart) (v : View) (step : PlainAct) : Type 0 where
  pub earlier : List Ran
  pub ran : v.ran ≡ first_ran v.ran ∷ earlier
  pub looks : LooksAt (Field (first_ran v.ran).now 1) step
  pub held : HoldsStrongly own.seat (first_ran v.ran).now
  pub life : life_in own (first_ran v.ran).now ≡ (first_ran v.ran).now_life

-- what it held is noted
abbrev pub leads : Ran → ℕ → Led
leads e found = record { slot = e.now; life = e.now_life; next = slot_of found }

abbrev pub lead_next : OwnPart → OwnPart → View → PlainAct → ℕ → View
lead_next own after v step found = record v { led = leads (first_ran v.ran) found ∷ v.led }

-- one slot more is read
abbrev pub reads_on : Ran → SlotId → Object → Ran
reads_on e s o =
    record e { before = e.before ++ o.payload ∷ []; now = s; now_life = o.life }

-- the part that it held is read, if the seat has it afterwards
abbrev pub reads_part : SlotId → Option Object → View → View
reads_part s None v = v
reads_part s (Some o) v = record v { ran = reads_on (first_ran v.ran) s o ∷ v.ran }

abbrev pub read_next : OwnPart → OwnPart → View → PlainAct → ℕ → View
read_next own after v step zero = v
read_next own after v step (suc s) = reads_part (id s) (after.objects (id s)) v

-- field 1 holds what it was seen to hold; where it is null, the whole text was read
pub record ReadTells (p q : Plain) (n : ℕ) (v w : View) : Type 0 where
  pub led : (e : Led) → In e v.led → e.slot ≡ (first_ran v.ran).now
      → e.life ≡ (first_ran v.ran).now_life → (slot_at p e.slot).second ≡ e.next
  pub whole : (slot_at p (first_ran v.ran).now).second ≡ None → IsText (first_ran v.ran).before

-- ANSWER. A calm step, at which the seat owns a head that was seen in a cell and whose text was read
pub record AnswerReady (spends : Bool) (own : OwnPart) (v : View) (step : PlainAct)
    : Type 0 where
  pub calm : IsCalm step
  pub earlier : List Ran
  pub ran : v.ran ≡ first_ran v.ran ∷ earlier
  pub owned : 0 < times (first_ran v.ran).slot own.seat.owned
  pub seen : HasSeen own v (first_ran v.ran).slot
  pub life : (first_ran v.ran).life ≡ life_in own (first_ran v.ran).slot
  pub whole : IsText (first_ran v.ran).before
  pub spare : v.used + spent spends ≤ v.quota

abbrev pub answer_next : Bool → OwnPart → OwnPart → View → PlainAct → ℕ → View
answer_next spends own after v step found = record v { used = v.used + spent spends }

-- it is the live record of that text
abbrev pub AnswerTells : Area → Plain → Plain → ℕ → View → View → Type 0
AnswerTells z p q n v w = IsBound z p (first_ran v.ran).before (first_ran v.ran).slot

-- FORGET. From a calm step on, lives that were seen to have ended are noted no more
abbrev pub ForgetReady : OwnPart → View → PlainAct → Type 0
ForgetReady own v step = IsCalm step

abbrev pub without_ended : List Note → List Rope → List Rope
without_ended [] es = es
without_ended (e ∷ ns) es = without_ended ns (without e.slot e.life es)

abbrev pub forget_next : OwnPart → OwnPart → View → PlainAct → ℕ → View
forget_next own after v step found = record v { noted = without_ended v.ended v.noted }

abbrev pub ForgetTells : Area → Plain → Plain → ℕ → View → View → Type 0
ForgetTells z p q n v w = Stays z p q

-- DRAW. A ticket, whose interns the seat has more
abbrev pub DrawReady : OwnPart → View → PlainAct → Type 0
DrawReady own v step = step ≡ act.Ticket

abbrev pub drawn : Area → View → ℕ → View
drawn z v t = record v { quota = v.quota + slice_index_or z.grants t 0 }

abbrev pub draw_next : Area → OwnPart → OwnPart → View → PlainAct → ℕ → View
draw_next z own after v step found = drawn z v found

abbrev pub DrawTells : Area → Plain → Plain → ℕ → View → View → Type 0
DrawTells z p q n v w = w ≡ drawn z v p.tickets
