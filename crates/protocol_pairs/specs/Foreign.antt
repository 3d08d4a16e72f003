-- What the seat can tell of its step is so in the plain state.
use Rattle.std.proofs.Common.{ℕ, Bool, true, false, List, inl, inr, Option, Some, None}
use Rattle.std.specs.Prelude.{if◌then◌else◌}
use Rattle.plain_protocol.specs.plain_state.declared.act.EventPlace.{EventPlace}
use Rattle.plain_protocol.specs.plain_state.declared.act.EventPlace.TheVariants.{Cell, Field, WeakCell, WeakField}
use Rattle.plain_protocol.specs.plain_state.declared.act.PlainAct.{PlainAct}
use Rattle.plain_protocol.specs.plain_state.declared.act.PlainAct.TheVariants as act
use Rattle.plain_protocol.specs.plain_state.declared.slot.SlotId.{SlotId}
use Rattle.plain_protocol.specs.plain_state.State.{Plain, seat_at, slot_at}
use Rattle.plain_protocol.specs.Acts.{Owned, OwnsPlace, IsForeign}
use Rattle.plain_protocol.specs.Owns.{Object, OwnPart, has_slot, object_of, own_part}
use Rattle.protocol_pairs.specs.Shares.{either_of}
use Rattle.protocol_pairs.specs.Spared.{HasOneOf, HasPlace, IsWithin, IsSpared, others}

-- the payload that the seat has of a slot is the slot's
has_one : (owned : List ℕ → Type 0) (p : Plain) (n : ℕ) (s : SlotId)
    → HasOneOf owned ((own_part p n).objects s) → owned (slot_at p s).payload
has_one owned p n s = by_test (has_slot (seat_at p n) s)
  where
    by_test : (b : Bool) → HasOneOf owned (if b then Some (object_of (slot_at p s)) else None)
        → owned (slot_at p s).payload
    by_test true is = is
    by_test false is = absurd is

has_place : (owned : Owned) (p : Plain) (n : ℕ) (place : EventPlace)
    → HasPlace owned (own_part p n) place → OwnsPlace owned p place
has_place owned p n (Cell i) is = is
has_place owned p n (Field s i) is = has_one owned.payload p n s is
has_place owned p n (WeakCell i) is = is
has_place owned p n (WeakField s) is = has_one owned.payload p n s is

-- a place that another part owns isn't owned
other_place : (owned : Owned) (p : Plain) (place : EventPlace) → OwnsPlace (others owned) p place
    → ¬ (OwnsPlace owned p place)
other_place owned p (Cell i) not = not
other_place owned p (Field s i) not = not
other_place owned p (WeakCell i) not = not
other_place owned p (WeakField s) not = not

-- a step that the seat sees to be foreign is so
pub spared_is_foreign : (owned : Owned) (p : Plain) (n : ℕ) (step : PlainAct)
    → IsSpared owned (own_part p n) step → IsForeign owned p step
spared_is_foreign owned p n (act.Make s) is = has_one (others owned).payload p n s is
spared_is_foreign owned p n (act.Replace place new) is =
    other_place owned p place (has_place (others owned) p n place is)
spared_is_foreign owned p n (act.TryReplace place old new) is =
    other_place owned p place (has_place (others owned) p n place is)
spared_is_foreign owned p n (act.Leave j) is = is
spared_is_foreign owned p n act.Ticket is = is
spared_is_foreign owned p n _ is = tt

-- what belongs to one also belongs to the other
pub record Includes (less more : Owned) : Type 0 where
  pub cell : (i : ℕ) → less.cell i → more.cell i
  pub weak_cell : (i : ℕ) → less.weak_cell i → more.weak_cell i
  pub payload : (words : List ℕ) → less.payload words → more.payload words
  pub tickets : less.tickets → more.tickets

pub left_included : (a b : Owned) → Includes a (either_of a b)
left_included a b = record {
  cell = λ i. inl;
  weak_cell = λ i. inl;
  payload = λ words. inl;
  tickets = inl;
}

pub right_included : (a b : Owned) → Includes b (either_of a b)
right_included a b = record {
  cell = λ i. inr;
  weak_cell = λ i. inr;
  payload = λ words. inr;
  tickets = inr;
}

less_place : (less more : Owned) (p : Plain) (place : EventPlace) → Includes less more
    → OwnsPlace less p place → OwnsPlace more p place
less_place less more p (Cell i) all is = all.cell i is
less_place less more p (Field s i) all is = all.payload (slot_at p s).payload is
less_place less more p (WeakCell i) all is = all.weak_cell i is
less_place less more p (WeakField s) all is = all.payload (slot_at p s).payload is

-- a step that is foreign to more is foreign to less
pub foreign_to_less : (less more : Owned) (p : Plain) (step : PlainAct) → Includes less more
    → IsForeign more p step → IsForeign less p step
foreign_to_less less more p (act.Make s) all is = λ own. is (all.payload (slot_at p s).payload own)
foreign_to_less less more p (act.Replace place new) all is =
    λ own. is (less_place less more p place all own)
foreign_to_less less more p (act.TryReplace place old new) all is =
    λ own. is (less_place less more p place all own)
foreign_to_less less more p (act.Leave j) all is = is
foreign_to_less less more p act.Ticket all is = λ own. is (all.tickets own)
foreign_to_less less more p _ all is = tt

within_slot : (less more : List ℕ → Type 0) → ((words : List ℕ) → less words → more words)
    → (o : Option Object) → HasOneOf less o → HasOneOf more o
within_slot less more all None is = is
within_slot less more all (Some o) is = all o.payload is

within_place : (less more : Owned) (own : OwnPart) (place : EventPlace) → Includes less more
    → HasPlace less own place → HasPlace more own place
within_place less more own (Cell i) all is = all.cell i is
within_place less more own (Field s i) all is =
    within_slot less.payload more.payload all.payload (own.objects s) is
within_place less more own (WeakCell i) all is = all.weak_cell i is
within_place less more own (WeakField s) all is =
    within_slot less.payload more.payload all.payload (own.objects s) is

-- a step within less is within more
pub within_more : (less more : Owned) (own : OwnPart) (step : PlainAct) → Includes less more
    → IsWithin less own step → IsWithin more own step
within_more less more own (act.Make s) all is =
    within_slot less.payload more.payload all.payload (own.objects s) is
within_more less more own (act.Replace place new) all is = within_place less more own place all is
within_more less more own (act.TryReplace place old new) all is =
    within_place less more own place all is
within_more less more own (act.Leave j) all is = is
within_more less more own act.Ticket all is = all.tickets is
within_more less more own _ all is = tt
