-- What a weak cell holds goes on to be an object, alive or not, with its payload: whatever the step.
use Rattle.std.proofs.Common.{◌≡◌, ◌≢◌, ⊎_elim, ℕ, ◌<◌, Bool, true, false, List, length, get_or, refl, sym, ap, subst, ◌∙◌, arith, Option, Some, None}
use Rattle.std.specs.Prelude.{slice_set, ◌==◌, if◌then◌else◌}
use Rattle.std.proofs.lemmas.Bool.{cases_lt}
use Rattle.std.proofs.lemmas.List.{get_or-set_same, get_or-set_other, get_or_past, set_past}
use Rattle.plain_protocol.specs.plain_state.declared.act.EventPlace.{EventPlace}
use Rattle.plain_protocol.specs.plain_state.declared.act.EventPlace.TheVariants.{Cell, Field, WeakCell, WeakField}
use Rattle.plain_protocol.specs.plain_state.declared.act.PlainAct.{PlainAct}
use Rattle.plain_protocol.specs.plain_state.declared.act.PlainAct.TheVariants as act
use Rattle.plain_protocol.specs.plain_state.declared.slot.PlainSlot.{PlainSlot}
use Rattle.plain_protocol.specs.plain_state.declared.slot.SlotId.{SlotId}
use Rattle.plain_protocol.specs.plain_state.Lawful.{Lawful}
use Rattle.plain_protocol.specs.plain_state.Lists.{cell_times}
use Rattle.plain_protocol.specs.plain_state.Places.{with_field}
use Rattle.plain_protocol.specs.plain_state.References.{held_in}
use Rattle.plain_protocol.specs.plain_state.State.{Plain, new_slot, slot_at}
use Rattle.plain_protocol.specs.plain_state.Steps.{Does, Replaces}
use Rattle.plain_protocol.proofs.Below.plain_state_Kit.{cases_slot, cells_at, held_self}
use Rattle.plain_protocol.specs.Calm.{IsMade}
use Rattle.plain_protocol.proofs.Calm.{calm_leaves}

-- it was an object, and is one still, with the same payload
abbrev pub GoesOn : PlainSlot → PlainSlot → Type 0
GoesOn x y = IsMade x.stage → IsMade y.stage × (y.payload ≡ x.payload)

-- of a list of slots one is written
one_slot : (xs ys : List PlainSlot) (x : SlotId) (y : PlainSlot) → ys ≡ slice_set xs x.0 y
    → GoesOn (get_or xs x.0 new_slot) y
    → (s : SlotId) → GoesOn (get_or xs s.0 new_slot) (get_or ys s.0 new_slot)
one_slot xs ys x y is goes s =
    subst (λ l. GoesOn (get_or xs s.0 new_slot) (get_or l s.0 new_slot)) (sym is) (⊎_elim
    (λ (below : x.0 < length xs). ⊎_elim
    (λ (same : s ≡ x).
    subst (λ (z : SlotId). GoesOn (get_or xs z.0 new_slot) (get_or (slice_set xs x.0 y) z.0 new_slot))
    (sym same) (rw (get_or-set_same xs x.0 y new_slot below) goes))
    (λ (ne : s.0 ≢ x.0). rw (get_or-set_other xs x.0 s.0 y new_slot ne) (λ made. (made, refl)))
    (cases_slot s x))
    (λ past. rw (set_past xs x.0 y past) (λ made. (made, refl)))
    (cases_lt x.0 (length xs)))

same_slots : (xs ys : List PlainSlot) → ys ≡ xs
    → (s : SlotId) → GoesOn (get_or xs s.0 new_slot) (get_or ys s.0 new_slot)
same_slots xs ys is s =
    subst (λ l. GoesOn (get_or xs s.0 new_slot) (get_or l s.0 new_slot)) (sym is)
    (λ made. (made, refl))

other_field : (x : PlainSlot) (first : Bool) (new : Option SlotId)
    → GoesOn x (if first then record x { first = new } else record x { second = new })
other_field x true new made = (made, refl)
other_field x false new made = (made, refl)

module _ (p q : Plain) where
  replaced : (n : ℕ) (place : EventPlace) (new : Option SlotId) → Replaces p n place new q
      → (s : SlotId) → GoesOn (slot_at p s) (slot_at q s)
  replaced n (Cell i) new r = same_slots p.slots q.slots (ap (λ (z : Plain). z.slots) r.2)
  replaced n (Field x i) new r =
      one_slot p.slots q.slots x (with_field i new (slot_at p x)) (ap (λ (z : Plain). z.slots) r.2)
      (other_field (slot_at p x) (i == 0) new)
  replaced n (WeakCell i) new r = same_slots p.slots q.slots (ap (λ (z : Plain). z.slots) r.2)
  replaced n (WeakField x) new r =
      one_slot p.slots q.slots x (record (slot_at p x) { weak_field = new })
      (ap (λ (z : Plain). z.slots) r.2) (λ made. (made, refl))

  pub goes_on : (n : ℕ) (step : PlainAct) (found : ℕ) → Lawful p → Does p n step found q
      → (s : SlotId) → 0 < cell_times s p.weak_cells → GoesOn (slot_at p s) (slot_at q s)
  goes_on n (act.Make x) found lawful d s held =
      one_slot p.slots q.slots x _ (ap (λ (z : Plain). z.slots) d.1.3)
      (λ made. absurd (made.1 d.1.0)) s
  goes_on n (act.Replace place new) found lawful d s held = replaced n place new d.1.2 s
  goes_on n (act.TryReplace place old new) found lawful d s held = ⊎_elim
      (λ hit. replaced n place new hit.1 s)
      (λ miss. same_slots p.slots q.slots (ap (λ (z : Plain). z.slots) miss.1) s)
      d.1.2
  goes_on n (act.Leave j) found lawful d s held =
      same_slots p.slots q.slots (ap (λ (z : Plain). z.slots) d.1.8) s
  goes_on n act.Ticket found lawful d s held =
      same_slots p.slots q.slots (ap (λ (z : Plain). z.slots) d.1.1) s
  goes_on n step found lawful d s held =
      ((calm_leaves p q n step found lawful tt d).slots s).held held

-- a weak cell that holds it
pub weak_cell_times : (p : Plain) (c : ℕ) (s : SlotId) → get_or p.weak_cells c None ≡ Some s
    → 0 < cell_times s p.weak_cells
weak_cell_times p c s is = ⊎_elim
    (λ low. let a = cells_at s p.weak_cells c low in
    let b = ap (held_in s) is ∙ held_self s in omega arith)
    (λ past. let e : None ≡ Some s = sym (get_or_past p.weak_cells c None past) ∙ is in absurd cc)
    (cases_lt c (length p.weak_cells))
