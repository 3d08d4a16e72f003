-- The fields of dying slots that a seat has left null stay null: only a seat that holds a slot strongly
-- writes into its fields, and one that is dying nobody holds so.
use Rattle.std.proofs.Common.{◌≡◌, ◌≢◌, inl, ⊎_elim, ℕ, true, get_or, refl, ap, sym, ◌∙◌, arith}
use Rattle.std.specs.Prelude.{Option}
use Rattle.std.proofs.lemmas.List.{get_or-set_other}
use Rattle.std.proofs.lemmas.Bool.Decides.{nat_tests}
use Rattle.plain_protocol.specs.plain_state.declared.act.EventPlace.{EventPlace}
use Rattle.plain_protocol.specs.plain_state.declared.act.EventPlace.TheVariants.{Cell, Field, WeakCell, WeakField}
use Rattle.plain_protocol.specs.plain_state.declared.act.PlainAct.{PlainAct}
use Rattle.plain_protocol.specs.plain_state.declared.act.PlainAct.TheVariants as plain
use Rattle.plain_protocol.specs.plain_state.declared.slot.PlainSlot.{PlainSlot}
use Rattle.plain_protocol.specs.plain_state.declared.slot.SlotId.{SlotId}
use Rattle.plain_protocol.specs.plain_state.declared.slot.Stage.{Stage}
use Rattle.plain_protocol.specs.plain_state.declared.slot.Stage.TheVariants.{Free, Blank, Live, Ended}
use Rattle.plain_protocol.specs.plain_state.Lawful.{Lawful}
use Rattle.plain_protocol.specs.plain_state.Lists.{is_slot}
use Rattle.plain_protocol.specs.plain_state.Places.{IsOpen, HoldsStrongly, with_content}
use Rattle.plain_protocol.specs.plain_state.State.{Plain, new_slot, seat_at, slot_at, stage_at}
use Rattle.plain_protocol.specs.plain_state.Steps.{Does, Replaces}
use Rattle.plain_protocol.specs.Acts.{IsCalm}
use Rattle.plain_protocol.specs.Calm.{IsMade, StaysOrNull}
use Rattle.plain_protocol.proofs.Calm.{calm_leaves}
use Rattle.domain_rule.specs.Views.{is_field_of}

-- each field of y holds what it holds in x, or null
pub record FieldsStay (x y : PlainSlot) : Type 0 where
  pub first : StaysOrNull x.first y.first
  pub second : StaysOrNull x.second y.second
  pub weak_field : StaysOrNull x.weak_field y.weak_field

fields_same : (x y : PlainSlot) → y ≡ x → FieldsStay x y
fields_same x y same = record {
  first = inl (ap (λ (s : PlainSlot). s.first) same);
  second = inl (ap (λ (s : PlainSlot). s.second) same);
  weak_field = inl (ap (λ (s : PlainSlot). s.weak_field) same);
}

over_made : (x : PlainSlot) → x.stage ≡ Ended → IsMade x.stage
over_made x over = (
  λ e. let f : Ended ≡ Free = sym over ∙ e in cc,
  λ e. let f : Ended ≡ Blank = sym over ∙ e in cc,
)

own_field : (x : SlotId) → is_slot x x ≡ true
own_field x = grind (arith, nat_tests)

-- a write into a place of another slot leaves the slot
content_other : (p : Plain) (s : SlotId) (place : EventPlace) (new : Option SlotId)
    → ((x : SlotId) → is_field_of x place ≡ true → s.0 ≢ x.0)
    → slot_at (with_content p place new) s ≡ slot_at p s
content_other p s (Cell i) new other = refl
content_other p s (Field x i) new other =
    get_or-set_other p.slots x.0 s.0 _ new_slot (other x (own_field x))
content_other p s (WeakCell i) new other = refl
content_other p s (WeakField x) new other =
    get_or-set_other p.slots x.0 s.0 _ new_slot (other x (own_field x))

module _ (p q : Plain) (n : ℕ) (s : SlotId) (lawful : Lawful p) (over : stage_at p s ≡ Ended)
    (over_then : stage_at q s ≡ Ended)
    (lives : (x : SlotId) → HoldsStrongly (seat_at p n) x → stage_at p x ≡ Live) where
  -- a slot in another stage is another slot
  other_slot : (x : SlotId) (g : Stage) → stage_at p x ≡ g → Ended ≢ g → s.0 ≢ x.0
  other_slot x g at not e =
      not (sym over ∙ (ap (λ (i : ℕ). (get_or p.slots i new_slot).stage) e ∙ at))

  -- a seat writes into the fields of another slot
  open_other : (place : EventPlace) → IsOpen p n place → (x : SlotId)
      → is_field_of x place ≡ true → s.0 ≢ x.0
  open_other (Cell i) is x e = absurd (cc (e))
  open_other (Field y i) is x e =
      let live = other_slot y Live (lives y is.1) (λ f. cc) in
      let same : y.0 ≡ x.0 = grind (arith, nat_tests) in omega (arith, live)
  open_other (WeakCell i) is x e = absurd (cc (e))
  open_other (WeakField y) is x e =
      let live = other_slot y Live (lives y is) (λ f. cc) in
      let same : y.0 ≡ x.0 = grind (arith, nat_tests) in omega (arith, live)

  becomes : (r : Plain) → q ≡ r → slot_at r s ≡ slot_at p s → FieldsStay (slot_at p s) (slot_at q s)
  becomes r is same = fields_same _ _ (ap (λ (x : Plain). slot_at x s) is ∙ same)

  calmed : (step : PlainAct) (found : ℕ) → IsCalm step → Does p n step found q
      → FieldsStay (slot_at p s) (slot_at q s)
  calmed step found calm d =
      let m = ((calm_leaves p q n step found lawful calm d).slots s).made
      (over_made (slot_at q s) over_then) in
      record { first = m.2; second = m.3; weak_field = m.4 }

  replaced : (place : EventPlace) (new : Option SlotId) → IsOpen p n place → Replaces p n place new q
      → FieldsStay (slot_at p s) (slot_at q s)
  replaced place new is d =
      becomes _ d.2 (content_other _ s place new (open_other place is))

  -- in a slot that has ended, and that still has not been destroyed, each field stays or becomes null
  pub fields_stay : (step : PlainAct) (found : ℕ) → Does p n step found q
      → FieldsStay (slot_at p s) (slot_at q s)
  fields_stay (plain.Claim x) found d = calmed (plain.Claim x) found tt d
  fields_stay (plain.Fill x i w) found d = calmed (plain.Fill x i w) found tt d
  fields_stay (plain.Make x) found d =
      becomes _ d.1.3
      (get_or-set_other p.slots x.0 s.0 _ new_slot (other_slot x Blank d.1.0 (λ f. cc)))
  fields_stay (plain.Add x) found d = calmed (plain.Add x) found tt d
  fields_stay (plain.Drop x) found d = calmed (plain.Drop x) found tt d
  fields_stay (plain.WeakGain x) found d = calmed (plain.WeakGain x) found tt d
  fields_stay (plain.WeakDrop x) found d = calmed (plain.WeakDrop x) found tt d
  fields_stay (plain.Look place) found d = calmed (plain.Look place) found tt d
  fields_stay (plain.Check j place) found d = calmed (plain.Check j place) found tt d
  fields_stay (plain.Alive j) found d = calmed (plain.Alive j) found tt d
  fields_stay (plain.EndSnapshot k x) found d = calmed (plain.EndSnapshot k x) found tt d
  fields_stay (plain.Replace place new) found d = replaced place new d.1.0 d.1.2
  fields_stay (plain.TryReplace place old new) found d = ⊎_elim
      (λ done. replaced place new d.1.0 done.1)
      (λ lost. becomes p lost.1 refl) d.1.2
  fields_stay (plain.Count x) found d = calmed (plain.Count x) found tt d
  fields_stay (plain.Mark x) found d = calmed (plain.Mark x) found tt d
  fields_stay (plain.WeakCount x) found d = calmed (plain.WeakCount x) found tt d
  fields_stay (plain.See x i) found d = calmed (plain.See x i) found tt d
  fields_stay (plain.Eject k x) found d = calmed (plain.Eject k x) found tt d
  fields_stay (plain.End x) found d = calmed (plain.End x) found tt d
  fields_stay (plain.Clear place) found d = calmed (plain.Clear place) found tt d
  fields_stay (plain.Destroy x) found d = calmed (plain.Destroy x) found tt d
  fields_stay (plain.Give x) found d = calmed (plain.Give x) found tt d
  fields_stay (plain.Leave j) found d = becomes _ d.1.8 refl
  fields_stay plain.Split found d = calmed plain.Split found tt d
  fields_stay plain.Ticket found d = becomes _ d.1.1 refl
  fields_stay plain.Still found d = calmed plain.Still found tt d
