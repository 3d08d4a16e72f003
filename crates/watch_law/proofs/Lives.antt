-- An object's life stays as long as it is one, alive or not: whatever the step.
use Rattle.std.proofs.Common.{◌≡◌, ◌≢◌, ⊎_elim, ℕ, ◌<◌, Bool, true, false, List, length, get_or, refl, sym, ap, subst, Option}
use Rattle.std.specs.Prelude.{slice_set, ◌==◌, if◌then◌else◌}
use Rattle.std.proofs.lemmas.Bool.{cases_lt}
use Rattle.std.proofs.lemmas.List.{get_or-set_same, get_or-set_other, set_past}
use Rattle.plain_protocol.specs.plain_state.declared.act.EventPlace.{EventPlace}
use Rattle.plain_protocol.specs.plain_state.declared.act.EventPlace.TheVariants.{Cell, Field, WeakCell, WeakField}
use Rattle.plain_protocol.specs.plain_state.declared.act.PlainAct.{PlainAct}
use Rattle.plain_protocol.specs.plain_state.declared.act.PlainAct.TheVariants as act
use Rattle.plain_protocol.specs.plain_state.declared.slot.PlainSlot.{PlainSlot}
use Rattle.plain_protocol.specs.plain_state.declared.slot.SlotId.{SlotId}
use Rattle.plain_protocol.specs.plain_state.Lawful.{Lawful}
use Rattle.plain_protocol.specs.plain_state.Places.{with_field}
use Rattle.plain_protocol.specs.plain_state.State.{Plain, new_slot, slot_at}
use Rattle.plain_protocol.specs.plain_state.Steps.{Does, Replaces}
use Rattle.plain_protocol.proofs.Below.plain_state_Kit.{cases_slot}
use Rattle.plain_protocol.specs.Calm.{IsMade}
use Rattle.plain_protocol.proofs.Calm.{calm_leaves}

abbrev pub LivesOn : PlainSlot → PlainSlot → Type 0
LivesOn x y = IsMade x.stage → y.life ≡ x.life

-- of a list of slots one is written
one_slot : (xs ys : List PlainSlot) (x : SlotId) (y : PlainSlot) → ys ≡ slice_set xs x.0 y
    → LivesOn (get_or xs x.0 new_slot) y
    → (s : SlotId) → LivesOn (get_or xs s.0 new_slot) (get_or ys s.0 new_slot)
one_slot xs ys x y is goes s =
    subst (λ l. LivesOn (get_or xs s.0 new_slot) (get_or l s.0 new_slot)) (sym is) (⊎_elim
    (λ (below : x.0 < length xs). ⊎_elim
    (λ (same : s ≡ x).
    subst (λ (z : SlotId). LivesOn (get_or xs z.0 new_slot) (get_or (slice_set xs x.0 y) z.0 new_slot))
    (sym same) (rw (get_or-set_same xs x.0 y new_slot below) goes))
    (λ (ne : s.0 ≢ x.0). rw (get_or-set_other xs x.0 s.0 y new_slot ne) (λ made. refl))
    (cases_slot s x))
    (λ past. rw (set_past xs x.0 y past) (λ made. refl))
    (cases_lt x.0 (length xs)))

same_slots : (xs ys : List PlainSlot) → ys ≡ xs
    → (s : SlotId) → LivesOn (get_or xs s.0 new_slot) (get_or ys s.0 new_slot)
same_slots xs ys is s =
    subst (λ l. LivesOn (get_or xs s.0 new_slot) (get_or l s.0 new_slot)) (sym is) (λ made. refl)

other_field : (x : PlainSlot) (first : Bool) (new : Option SlotId)
    → LivesOn x (if first then record x { first = new } else record x { second = new })
other_field x true new made = refl
other_field x false new made = refl

module _ (p q : Plain) where
  replaced : (n : ℕ) (place : EventPlace) (new : Option SlotId) → Replaces p n place new q
      → (s : SlotId) → LivesOn (slot_at p s) (slot_at q s)
  replaced n (Cell i) new r = same_slots p.slots q.slots (ap (λ (z : Plain). z.slots) r.2)
  replaced n (Field x i) new r =
      one_slot p.slots q.slots x (with_field i new (slot_at p x)) (ap (λ (z : Plain). z.slots) r.2)
      (other_field (slot_at p x) (i == 0) new)
  replaced n (WeakCell i) new r = same_slots p.slots q.slots (ap (λ (z : Plain). z.slots) r.2)
  replaced n (WeakField x) new r =
      one_slot p.slots q.slots x (record (slot_at p x) { weak_field = new })
      (ap (λ (z : Plain). z.slots) r.2) (λ made. refl)

  pub lives_on : (n : ℕ) (step : PlainAct) (found : ℕ) → Lawful p → Does p n step found q
      → (s : SlotId) → LivesOn (slot_at p s) (slot_at q s)
  lives_on n (act.Make x) found lawful d =
      one_slot p.slots q.slots x _ (ap (λ (z : Plain). z.slots) d.1.3)
      (λ made. absurd (made.1 d.1.0))
  lives_on n (act.Replace place new) found lawful d = replaced n place new d.1.2
  lives_on n (act.TryReplace place old new) found lawful d = λ s. ⊎_elim
      (λ hit. replaced n place new hit.1 s)
      (λ miss. same_slots p.slots q.slots (ap (λ (z : Plain). z.slots) miss.1) s)
      d.1.2
  lives_on n (act.Leave j) found lawful d =
      same_slots p.slots q.slots (ap (λ (z : Plain). z.slots) d.1.8)
  lives_on n act.Ticket found lawful d =
      same_slots p.slots q.slots (ap (λ (z : Plain). z.slots) d.1.1)
  lives_on n step found lawful d =
      λ s made. ((calm_leaves p q n step found lawful tt d).slots s).life
