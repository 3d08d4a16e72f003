-- Which steps leave what a protocol owns, and which write nothing else, as the seat that makes the step can tell: it
-- knows the payload of each slot that it holds or fills.
use Rattle.std.specs.Prelude.{ℕ, List, Option, Some, None}
use Rattle.plain_protocol.specs.plain_state.declared.act.EventPlace.{EventPlace}
use Rattle.plain_protocol.specs.plain_state.declared.act.EventPlace.TheVariants.{Cell, Field, WeakCell, WeakField}
use Rattle.plain_protocol.specs.plain_state.declared.act.PlainAct.{PlainAct}
use Rattle.plain_protocol.specs.plain_state.declared.act.PlainAct.TheVariants as act
use Rattle.plain_protocol.specs.Acts.{Owned}
use Rattle.plain_protocol.specs.Owns.{OwnPart, Object}

-- the seat has the slot, and its payload is one of these
abbrev pub HasOneOf : (List ℕ → Type 0) → Option Object → Type 0
HasOneOf owned None = ⊥
HasOneOf owned (Some o) = owned o.payload

-- the place is an owned cell, or a field of an owned object that the seat has
abbrev pub HasPlace : Owned → OwnPart → EventPlace → Type 0
HasPlace owned own (Cell i) = owned.cell i
HasPlace owned own (Field s i) = HasOneOf owned.payload (own.objects s)
HasPlace owned own (WeakCell i) = owned.weak_cell i
HasPlace owned own (WeakField s) = HasOneOf owned.payload (own.objects s)

-- the step makes no other object, changes no other place and draws no other's ticket; and it isn't a leave
abbrev pub IsWithin : Owned → OwnPart → PlainAct → Type 0
IsWithin owned own (act.Make s) = HasOneOf owned.payload (own.objects s)
IsWithin owned own (act.Replace place new) = HasPlace owned own place
IsWithin owned own (act.TryReplace place old new) = HasPlace owned own place
IsWithin owned own (act.Leave j) = ⊥
IsWithin owned own act.Ticket = owned.tickets
IsWithin owned own _ = Unit {0}

-- what isn't owned, in the same words
abbrev pub others : Owned → Owned
others owned = record {
  cell = λ i. ¬ (owned.cell i);
  weak_cell = λ i. ¬ (owned.weak_cell i);
  payload = λ words. ¬ (owned.payload words);
  tickets = ¬ owned.tickets;
}

-- the step is foreign to what is owned: it stays within all that isn't
abbrev pub IsSpared : Owned → OwnPart → PlainAct → Type 0
IsSpared owned = IsWithin (others owned)
