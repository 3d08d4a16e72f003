-- Which steps leave what a protocol speaks of.
use Rattle.std.specs.Prelude.{ℕ, List}
use Rattle.plain_state.specs.declared.act.EventPlace.{EventPlace}
use Rattle.plain_state.specs.declared.act.EventPlace.TheVariants.{Cell, Field, WeakCell, WeakField}
use Rattle.plain_state.specs.declared.act.PlainAct.{PlainAct}
use Rattle.plain_state.specs.declared.act.PlainAct.TheVariants as act
use Rattle.plain_state.specs.State.{Plain, slot_at}

-- the step makes no object, draws no ticket, changes no cell and no field of a live object, and isn't a leave; a Clear
-- acts in a slot that has ended
abbrev pub IsCalm : PlainAct → Type 0
IsCalm (act.Claim s) = Unit {0}
IsCalm (act.Fill s i word) = Unit {0}
IsCalm (act.Make s) = ⊥
IsCalm (act.Add s) = Unit {0}
IsCalm (act.Drop s) = Unit {0}
IsCalm (act.WeakGain s) = Unit {0}
IsCalm (act.WeakDrop s) = Unit {0}
IsCalm (act.Look place) = Unit {0}
IsCalm (act.Check j place) = Unit {0}
IsCalm (act.Alive j) = Unit {0}
IsCalm (act.EndSnapshot k s) = Unit {0}
IsCalm (act.Replace place new) = ⊥
IsCalm (act.TryReplace place old new) = ⊥
IsCalm (act.Count s) = Unit {0}
IsCalm (act.Mark s) = Unit {0}
IsCalm (act.WeakCount s) = Unit {0}
IsCalm (act.See s i) = Unit {0}
IsCalm (act.Eject k s) = Unit {0}
IsCalm (act.End s) = Unit {0}
IsCalm (act.Clear place) = Unit {0}
IsCalm (act.Destroy s) = Unit {0}
IsCalm (act.Give s) = Unit {0}
IsCalm (act.Leave j) = ⊥
IsCalm act.Split = Unit {0}
IsCalm act.Ticket = ⊥
IsCalm act.Still = Unit {0}

-- what a protocol owns: cells, weak cells, the objects with certain payloads, and whether it owns the tickets
pub record Owned : Type 1 where
  pub cell : ℕ → Type 0
  pub weak_cell : ℕ → Type 0
  pub payload : List ℕ → Type 0
  pub tickets : Type 0

-- the place is an owned cell, or a field of an owned object
abbrev pub OwnsPlace : Owned → Plain → EventPlace → Type 0
OwnsPlace owned p (Cell i) = owned.cell i
OwnsPlace owned p (Field s i) = owned.payload (slot_at p s).payload
OwnsPlace owned p (WeakCell i) = owned.weak_cell i
OwnsPlace owned p (WeakField s) = owned.payload (slot_at p s).payload

-- the step makes no owned object, draws no owned ticket, changes no owned place, and isn't a leave
abbrev pub IsForeign : Owned → Plain → PlainAct → Type 0
IsForeign owned p (act.Claim s) = Unit {0}
IsForeign owned p (act.Fill s i word) = Unit {0}
IsForeign owned p (act.Make s) = ¬ (owned.payload (slot_at p s).payload)
IsForeign owned p (act.Add s) = Unit {0}
IsForeign owned p (act.Drop s) = Unit {0}
IsForeign owned p (act.WeakGain s) = Unit {0}
IsForeign owned p (act.WeakDrop s) = Unit {0}
IsForeign owned p (act.Look place) = Unit {0}
IsForeign owned p (act.Check j place) = Unit {0}
IsForeign owned p (act.Alive j) = Unit {0}
IsForeign owned p (act.EndSnapshot k s) = Unit {0}
IsForeign owned p (act.Replace place new) = ¬ (OwnsPlace owned p place)
IsForeign owned p (act.TryReplace place old new) = ¬ (OwnsPlace owned p place)
IsForeign owned p (act.Count s) = Unit {0}
IsForeign owned p (act.Mark s) = Unit {0}
IsForeign owned p (act.WeakCount s) = Unit {0}
IsForeign owned p (act.See s i) = Unit {0}
IsForeign owned p (act.Eject k s) = Unit {0}
IsForeign owned p (act.End s) = Unit {0}
IsForeign owned p (act.Clear place) = Unit {0}
IsForeign owned p (act.Destroy s) = Unit {0}
IsForeign owned p (act.Give s) = Unit {0}
IsForeign owned p (act.Leave j) = ⊥
IsForeign owned p act.Split = Unit {0}
IsForeign owned p act.Ticket = ¬ owned.tickets
IsForeign owned p act.Still = Unit {0}
