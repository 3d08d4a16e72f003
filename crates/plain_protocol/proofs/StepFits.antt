-- Every plain step keeps the payloads of all objects fitting.
use Rattle.std.proofs.Common.{◌≡◌, inl, ⊎_elim, ℕ, Bool, true, false, List, refl, sym, subst, Option, None}
use Rattle.std.specs.Prelude.{◌==◌, if◌then◌else◌}
use Rattle.plain_state.specs.declared.act.EventPlace.{EventPlace}
use Rattle.plain_state.specs.declared.act.EventPlace.TheVariants.{Cell, Field, WeakCell, WeakField}
use Rattle.plain_state.specs.declared.act.PlainAct.{PlainAct}
use Rattle.plain_state.specs.declared.act.PlainAct.TheVariants as act
use Rattle.plain_state.specs.declared.slot.PlainSlot.{PlainSlot}
use Rattle.plain_state.specs.declared.slot.SlotId.{SlotId}
use Rattle.plain_state.specs.State.{Plain, slot_at, with_slot}
use Rattle.plain_state.specs.Lawful.{IsVacant}
use Rattle.plain_state.specs.Places.{with_field, with_content}
use Rattle.plain_state.specs.Steps.{Replaces, Clears, Does}
use Rattle.plain_state.specs.Fits.{AllFit}
use Rattle.plain_state.proofs.Fitting.{Fits, slot_fits}

module _ (fits : List ℕ → Type 0) (p : Plain) where
  -- a slot that is without an object has any payload
  vacant_fits : (s : SlotId) (y : PlainSlot) → IsVacant y → AllFit fits p
      → AllFit fits (with_slot p s y)
  vacant_fits s y vacant all =
      slot_fits fits p s y all (λ has. absurd (⊎_elim vacant.0 vacant.1 has))

  field_fits : (first : Bool) (new : Option SlotId) (x : PlainSlot) → Fits fits x
      → Fits fits (if first then record x { first = new } else record x { second = new })
  field_fits true new x fit = fit
  field_fits false new x fit = fit

  -- one place is written
  content_fits : (place : EventPlace) (new : Option SlotId) → AllFit fits p
      → AllFit fits (with_content p place new)
  content_fits (Cell i) new all = all
  content_fits (Field s i) new all =
      slot_fits fits p s (with_field i new (slot_at p s)) all
      (field_fits (i == 0) new (slot_at p s) (all s))
  content_fits (WeakCell i) new all = all
  content_fits (WeakField s) new all =
      slot_fits fits p s (record (slot_at p s) { weak_field = new }) all (all s)

-- a place is written, and a seat with it
replaces_fits : (fits : List ℕ → Type 0) (p q : Plain) (n : ℕ) (place : EventPlace)
    (new : Option SlotId)
    → Replaces p n place new q → AllFit fits p → AllFit fits q
replaces_fits fits p q n place new is all =
    subst (AllFit fits) (sym is.2) (content_fits fits _ place new all)

clears_fits : (fits : List ℕ → Type 0) (p q : Plain) (n : ℕ) (place : EventPlace)
    → Clears p n place q → AllFit fits p → AllFit fits q
clears_fits fits p q n place is all =
    subst (AllFit fits) (sym is) (content_fits fits _ place None all)

pub step_fits : (fits : List ℕ → Type 0) (p q : Plain) (n : ℕ) (step : PlainAct) (found : ℕ)
    → Does p n step found q
    → ((s : SlotId) → step ≡ act.Make s → fits (slot_at p s).payload)
    → AllFit fits p → AllFit fits q
step_fits fits p q n (act.Claim s) found d made all =
    subst (AllFit fits) (sym d.1.4)
    (vacant_fits fits p s _ (λ e. cc, λ e. cc) all)
step_fits fits p q n (act.Fill s i word) found d made all =
    let blank = d.1.0 in
    subst (AllFit fits) (sym d.1.4)
    (vacant_fits fits p s _ (λ e. cc, λ e. cc) all)
step_fits fits p q n (act.Make s) found d made all =
    subst (AllFit fits) (sym d.1.3) (slot_fits fits p s _ all (λ _. made s refl))
step_fits fits p q n (act.Add s) found d made all =
    ⊎_elim
    (λ up. subst (AllFit fits) (sym up.2) all)
    (λ refused. subst (AllFit fits) (sym refused.2) all)
    d.1.1
step_fits fits p q n (act.Drop s) found d made all = subst (AllFit fits) (sym d.1.3) all
step_fits fits p q n (act.WeakGain s) found d made all = subst (AllFit fits) (sym d.1.2) all
step_fits fits p q n (act.WeakDrop s) found d made all = subst (AllFit fits) (sym d.1.3) all
step_fits fits p q n (act.Look place) found d made all = subst (AllFit fits) (sym d.1.2) all
step_fits fits p q n (act.Check j place) found d made all =
    ⊎_elim
    (λ same. subst (AllFit fits) (sym same) all)
    (λ taken. subst (AllFit fits) (sym taken.2.2) all)
    d.1.2
step_fits fits p q n (act.Alive j) found d made all =
    ⊎_elim
    (λ zero. subst (AllFit fits) (sym zero.1) all)
    (λ alive. subst (AllFit fits) (sym alive.2.2) all)
    d.1.3
step_fits fits p q n (act.EndSnapshot k s) found d made all = subst (AllFit fits) (sym d.1.3) all
step_fits fits p q n (act.Replace place new) found d made all =
    replaces_fits fits p q n place new d.1.2 all
step_fits fits p q n (act.TryReplace place old new) found d made all =
    ⊎_elim
    (λ done. replaces_fits fits p q n place new done.1 all)
    (λ lost. subst (AllFit fits) (sym lost.1) all)
    d.1.2
step_fits fits p q n (act.Count s) found d made all = subst (AllFit fits) (sym d.1.2) all
step_fits fits p q n (act.Mark s) found d made all =
    ⊎_elim
    (λ same. subst (AllFit fits) (sym same.0) all)
    (λ zero. subst (AllFit fits) (sym zero.2) (slot_fits fits p s _ all (all s)))
    d.1.1
step_fits fits p q n (act.WeakCount s) found d made all = subst (AllFit fits) (sym d.1.2) all
step_fits fits p q n (act.See s i) found d made all = subst (AllFit fits) (sym d.1.3) all
step_fits fits p q n (act.Eject k s) found d made all = subst (AllFit fits) (sym d.1.3) all
step_fits fits p q n (act.End s) found d made all =
    subst (AllFit fits) (sym d.1.3) (slot_fits fits p s _ all (λ _. all s (inl d.1.0)))
step_fits fits p q n (act.Clear place) found d made all =
    clears_fits fits p q n place d.1.2 all
step_fits fits p q n (act.Destroy s) found d made all =
    subst (AllFit fits) (sym d.1.3.2)
    (vacant_fits fits p s _ (λ e. cc, λ e. cc) all)
step_fits fits p q n (act.Give s) found d made all =
    subst (AllFit fits) (sym d.1.3)
    (vacant_fits fits p s _ (λ e. cc, λ e. cc) all)
step_fits fits p q n (act.Leave j) found d made all = subst (AllFit fits) (sym d.1.8) all
step_fits fits p q n act.Split found d made all = subst (AllFit fits) (sym d.1.1.2) all
step_fits fits p q n act.Ticket found d made all = subst (AllFit fits) (sym d.1.1) all
step_fits fits p q n act.Still found d made all = subst (AllFit fits) (sym d.1.1) all
