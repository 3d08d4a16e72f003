-- Which acts change an object: a fill and a start do, in the slot that the seat fills.
use Rattle.std.proofs.Common.{◌≡◌, ◌≢◌, ℕ, Bool, true, false, List, [], ◌∷◌, refl, ap, sym, ◌∙◌, arith}
use Rattle.std.specs.Prelude.{◌==◌, if◌then◌else◌, Option, Some, None}
use Rattle.std.proofs.lemmas.Bool.Decides.{nat_tests}
use Rattle.plain_protocol.specs.plain_state.declared.act.PlainAct.{PlainAct}
use Rattle.plain_protocol.specs.plain_state.declared.act.PlainAct.TheVariants as plain
use Rattle.plain_protocol.specs.plain_state.declared.slot.SlotId.{SlotId}
use Rattle.plain_protocol.specs.plain_state.Lists.{Entry}
use Rattle.plain_protocol.proofs.Below.plain_state_Kit.{slot_is}
use Rattle.plain_protocol.specs.Owns.{Object}
use Rattle.core_law.specs.core_events.declared.act.Act.{Act}
use Rattle.core_law.specs.core_events.declared.act.Act.TheVariants as act
use Rattle.core_law.specs.core_events.declared.shape.Shape.{Shape}
use Rattle.core_law.specs.core_events.declared.view.CoreView.{CoreView}
use Rattle.core_law.specs.core_events.declared.view.Note.{Note}
use Rattle.core_law.specs.core_events.declared.view.Note.TheVariants as note
use Rattle.core_law.specs.core_events.declared.view.Phase.TheVariants as phase
use Rattle.core_law.specs.core_events.Words.{bit_in}
use Rattle.core_law.specs.counter_word.Words.{has_help}
use Rattle.core_law.specs.core_events.Views.{note_of, slot_of}
use Rattle.core_law.specs.core_events.Steps.{May, is_last}
use Rattle.core_law.specs.core_events.ShownSteps.{shown_act, ejects, releases, is_ripe_field, on_slot}
use Rattle.domain_rule.specs.Told.{changed_object}

-- the plain step changes nothing of the object in s
abbrev pub Leaves : PlainAct → SlotId → Type 0
Leaves step s = (o : Object) → changed_object step s o ≡ o

-- the plain step makes no object
abbrev MakesNone : PlainAct → Type 0
MakesNone step = (s : SlotId) → step ≡ plain.Make s → ⊥

-- of two steps it is one or the other
module _ (b : Bool) (x y : PlainAct) where
  either_leaves : (s : SlotId) → Leaves x s → Leaves y s → Leaves (if b then x else y) s
  either_leaves s left right = go b
    where
      go : (t : Bool) → Leaves (if t then x else y) s
      go true = left
      go false = right

  either_makes_none : MakesNone x → MakesNone y → MakesNone (if b then x else y)
  either_makes_none left right = go b
    where
      go : (t : Bool) → MakesNone (if t then x else y)
      go true = left
      go false = right

ejects_leaves : (es : List Entry) (s : SlotId) → Leaves (ejects es) s
ejects_leaves [] s o = refl
ejects_leaves (e ∷ es) s o = refl

ejects_make_none : (es : List Entry) → MakesNone (ejects es)
ejects_make_none [] s e = absurd (cc (e))
ejects_make_none (x ∷ es) s e = absurd (cc (e))

releases_leaves : (n : Note) (s : SlotId) → Leaves (releases n) s
releases_leaves note.Idle s o = refl
releases_leaves (note.Announced k x) s o = refl
releases_leaves (note.Valid k x) s o = refl

releases_make_none : (n : Note) → MakesNone (releases n)
releases_make_none note.Idle s e = absurd (cc (e))
releases_make_none (note.Announced k x) s e = absurd (cc (e))
releases_make_none (note.Valid k x) s e = absurd (cc (e))

module _ (z : Shape) (w : ℕ) (v : CoreView) (s : SlotId) where
  -- the slot that the seat fills is another one
  filled_other : (r : SlotId) → v.phase ≡ phase.Blank r → (v.phase ≡ phase.Blank s → ⊥)
      → (s.0 == r.0) ≡ false
  filled_other r is off =
      let apart : s.0 ≢ r.0 = λ e. off (is ∙ ap phase.Blank (slot_is r s (sym e))) in
      grind (arith, nat_tests)

  -- a step on the slot of a phase leaves the objects, if the step does on each slot
  on_slot_leaves : (f : SlotId → PlainAct) (o : Option SlotId) → ((x : SlotId) → Leaves (f x) s)
      → Leaves (on_slot f o) s
  on_slot_leaves f None leaves = λ o. refl
  on_slot_leaves f (Some x) leaves = leaves x

  on_slot_makes_none : (f : SlotId → PlainAct) (o : Option SlotId)
      → ((x : SlotId) → MakesNone (f x)) → MakesNone (on_slot f o)
  on_slot_makes_none f None none = λ x e. absurd (cc (e))
  on_slot_makes_none f (Some x) none = none x

  -- in a slot that the seat doesn't fill no act changes the object
  pub act_leaves : (a : Act) → May z a v → (v.phase ≡ phase.Blank s → ⊥)
      → Leaves (shown_act z a w v) s
  act_leaves (act.Add x) may off o = refl
  act_leaves (act.Drop x) may off o = refl
  act_leaves act.Pay may off o = ejects_leaves v.owed s o
  act_leaves act.Finish may off o =
      either_leaves (w == 0) (on_slot plain.End (slot_of v.phase)) plain.Still s
      (on_slot_leaves plain.End (slot_of v.phase) (λ x o. refl)) (λ _. refl) o
  act_leaves act.Take may off o =
      either_leaves (has_help w) (on_slot plain.End (slot_of v.phase)) plain.Still s
      (on_slot_leaves plain.End (slot_of v.phase) (λ x o. refl)) (λ _. refl) o
  act_leaves (act.Count x) may off o = refl
  act_leaves act.Mark may off o = on_slot_leaves plain.Mark (slot_of v.phase) (λ x o. refl) o
  act_leaves (act.Announce j k x) may off o = refl
  act_leaves (act.Release j) may off o = releases_leaves (note_of v j) s o
  act_leaves (act.Look p) may off o = refl
  act_leaves (act.Check j p) may off o = refl
  act_leaves (act.Alive j) may off o = refl
  act_leaves act.Scan may off o =
      either_leaves (is_last z v) plain.Split plain.Still s (λ _. refl) (λ _. refl) o
  act_leaves (act.Swap p new) may off o =
      either_leaves (is_ripe_field v p) (plain.Clear p) (plain.Replace p new) s (λ _. refl)
      (λ _. refl) o
  act_leaves (act.Cas p old new) may off o = refl
  act_leaves (act.Claim x) may off o =
      either_leaves (bit_in x w == 1) (plain.Claim x) plain.Still s (λ _. refl) (λ _. refl) o
  act_leaves act.Arm may off o = refl
  act_leaves (act.Fill i x) may off o =
      rw (ap slot_of may.0.1) (rw (filled_other may.0.0 may.0.1 off) refl)
  act_leaves act.Start may off o =
      rw (ap slot_of may.1) (rw (filled_other may.0 may.1 off) refl)
  act_leaves (act.See x i) may off o = refl
  act_leaves act.Free may off o = on_slot_leaves plain.Give (slot_of v.phase) (λ x o. refl) o
  act_leaves act.Ticket may off o = refl
  act_leaves (act.Wadd x) may off o = refl
  act_leaves (act.Wdrop x) may off o = refl
  act_leaves (act.Destroy x) may off o = refl
  act_leaves (act.Wcount x) may off o = refl
  act_leaves (act.Leave j) may off o = refl

  -- an act that makes an object is a start
  pub made_by_start : (a : Act) → shown_act z a w v ≡ plain.Make s
      → (a ≡ act.Start) × (slot_of v.phase ≡ Some s)
  made_by_start (act.Add x) e = absurd (cc (e))
  made_by_start (act.Drop x) e = absurd (cc (e))
  made_by_start act.Pay e = absurd (ejects_make_none v.owed s e)
  made_by_start act.Finish e =
      absurd (either_makes_none (w == 0) (on_slot plain.End (slot_of v.phase)) plain.Still
      (on_slot_makes_none plain.End (slot_of v.phase) (λ x y e. absurd (cc (e)))) (λ _ e. absurd (cc (e))) s e)
  made_by_start act.Take e =
      absurd (either_makes_none (has_help w) (on_slot plain.End (slot_of v.phase)) plain.Still
      (on_slot_makes_none plain.End (slot_of v.phase) (λ x y e. absurd (cc (e)))) (λ _ e. absurd (cc (e))) s e)
  made_by_start (act.Count x) e = absurd (cc (e))
  made_by_start act.Mark e =
      absurd (on_slot_makes_none plain.Mark (slot_of v.phase) (λ y k f. absurd (cc (f))) s e)
  made_by_start (act.Announce j k x) e = absurd (cc (e))
  made_by_start (act.Release j) e = absurd (releases_make_none (note_of v j) s e)
  made_by_start (act.Look p) e = absurd (cc (e))
  made_by_start (act.Check j p) e = absurd (cc (e))
  made_by_start (act.Alive j) e = absurd (cc (e))
  made_by_start act.Scan e =
      absurd (either_makes_none (is_last z v) plain.Split plain.Still
      (λ _ e. absurd (cc (e))) (λ _ e. absurd (cc (e))) s e)
  made_by_start (act.Swap p new) e =
      absurd (either_makes_none (is_ripe_field v p) (plain.Clear p) (plain.Replace p new)
      (λ _ e. absurd (cc (e))) (λ _ e. absurd (cc (e))) s e)
  made_by_start (act.Cas p old new) e = absurd (cc (e))
  made_by_start (act.Claim x) e =
      absurd (either_makes_none (bit_in x w == 1) (plain.Claim x) plain.Still
      (λ _ e. absurd (cc (e))) (λ _ e. absurd (cc (e))) s e)
  made_by_start act.Arm e = absurd (cc (e))
  made_by_start (act.Fill i x) e =
      absurd (on_slot_makes_none (λ y. plain.Fill y i x) (slot_of v.phase) (λ y k f. absurd (cc (f))) s e)
  made_by_start act.Start e = (refl, made (slot_of v.phase) e)
    where
      made : (o : Option SlotId) → on_slot plain.Make o ≡ plain.Make s → o ≡ Some s
      made None e = absurd (cc (e))
      made (Some x) e = cc (e)
  made_by_start (act.See x i) e = absurd (cc (e))
  made_by_start act.Free e =
      absurd (on_slot_makes_none plain.Give (slot_of v.phase) (λ y k f. absurd (cc (f))) s e)
  made_by_start act.Ticket e = absurd (cc (e))
  made_by_start (act.Wadd x) e = absurd (cc (e))
  made_by_start (act.Wdrop x) e = absurd (cc (e))
  made_by_start (act.Destroy x) e = absurd (cc (e))
  made_by_start (act.Wcount x) e = absurd (cc (e))
  made_by_start (act.Leave j) e = absurd (cc (e))
