-- Steps that settle a heap, in turn: they add up, they keep it Sound, payloads still fit, and what they destroy is gone.
use Rattle.std.proofs.Common.{◌≡◌, inl, inr, ⊎_elim, ℕ, ◌+◌, ◌<◌, ◌≤◌, List, [], ◌∷◌, ◌++◌, length, refl, ap, sym, ◌∙◌, subst, arith, None}
use Rattle.std.specs.Prelude.{◌==◌, slice_set}
use Rattle.plain_state.specs.declared.act.EventPlace.{EventPlace}
use Rattle.plain_state.specs.declared.act.EventPlace.TheVariants.{Cell, Field, WeakCell, WeakField}
use Rattle.plain_state.specs.declared.act.PlainAct.{PlainAct}
use Rattle.plain_state.specs.declared.act.PlainAct.TheVariants as act
use Rattle.plain_state.specs.declared.slot.SlotId.{SlotId}
use Rattle.plain_state.specs.declared.slot.PlainSlot.{PlainSlot}
use Rattle.plain_state.specs.declared.slot.Stage.TheVariants.{Free, Live, Ended, Husk}
use Rattle.plain_state.specs.State.{Plain, seat_at, slot_at, stage_at}
use Rattle.plain_state.specs.Places.{with_field}
use Rattle.plain_state.specs.References.{over_slots}
use Rattle.plain_state.specs.Steps.{Does}
use Rattle.plain_state.specs.Sound.{Sound}
use Rattle.plain_state.specs.Fits.{AllFit}
use Rattle.plain_store.specs.Settling.{Settles, freed, SettlesBy, SettlesTo}
use Rattle.plain_store.specs.Draining.{SettlesFreely, Destroys, if_object, per_object, ended_of, freed_of}
use Rattle.plain_state.proofs.Kit.{slots_set, times_lost}
use Rattle.plain_state.proofs.Changes.{field_object}
use Rattle.plain_state.proofs.SeatRows.{is_there}
use Rattle.plain_state.proofs.SlotRows.{dying_ended}
use Rattle.plain_state.proofs.EveryStep.{step_sound}
use Rattle.plain_store.proofs.Fits.{fit_set}

-- steps and then more steps
pub append_settles : (weight : List ℕ → ℕ) (xs ys : List PlainAct) (p q r : Plain) (m n t : ℕ)
    → SettlesBy weight xs p m q → SettlesBy weight ys q n r → t ≡ m + n → SettlesBy weight (xs ++ ys) p t r
append_settles weight [] ys p q r m n t (e, z) more sum =
    let same : t ≡ n = omega arith in
    subst (λ (k : ℕ). SettlesBy weight ys p k r) (sym same) (subst (λ (x : Plain). SettlesBy weight ys x n r) e more)
append_settles weight (a ∷ xs) ys p q r m n t (x, found, rest, s, d, by, e) more sum =
    (x, found, rest + n, s, d, append_settles weight xs ys x q r rest n (rest + n) by more refl, omega arith)

pub then_settles : (weight : List ℕ → ℕ) (p q r : Plain) (m n t : ℕ)
    → SettlesTo weight p m q → SettlesTo weight q n r → t ≡ m + n → SettlesTo weight p t r
then_settles weight p q r m n t (xs, by) (ys, more) sum = (xs ++ ys, append_settles weight xs ys p q r m n t by more sum)

pub still_settles : (p : Plain) → SettlesFreely p p
still_settles p weight = ([], (refl, refl))

pub freely_then : (p q r : Plain) → SettlesFreely p q → SettlesFreely q r → SettlesFreely p r
freely_then p q r a b weight = then_settles weight p q r 0 0 0 (a weight) (b weight) refl

pub destroys_then : (p q r : Plain) (words : List ℕ) → Destroys p words q → SettlesFreely q r → Destroys p words r
destroys_then p q r words a b weight =
    then_settles weight p q r (weight words) 0 (weight words) (a weight) (b weight) (omega arith)

pub settles_sound : (weight : List ℕ → ℕ) (acts : List PlainAct) (p q : Plain) (t : ℕ) → Sound p → SettlesBy weight acts p t q → Sound q
settles_sound weight [] p q t so (e, z) = subst Sound (sym e) so
settles_sound weight (a ∷ acts) p q t so (m, found, rest, s, d, by, e) =
    settles_sound weight acts m q rest (step_sound p m 0 a found so d) by

-- a slot is written whose stage was such that n falls to m: so does the sum
worth_set : (n : ℕ) (p q : Plain) (x : SlotId) (y : PlainSlot) → x.0 < length p.slots → q.slots ≡ slice_set p.slots x.0 y
    → per_object n q + if_object n (stage_at p x) ≡ per_object n p + if_object n y.stage
worth_set n p q x y at e =
    let a = slots_set (λ (z : PlainSlot). if_object n z.stage) p.slots x.0 y at in
    let b : per_object n q ≡ over_slots (λ (z : PlainSlot). if_object n z.stage) (slice_set p.slots x.0 y) =
    ap (over_slots (λ (z : PlainSlot). if_object n z.stage)) e in
    omega arith

module _ (fits : List ℕ → Type 0) (weight : List ℕ → ℕ) (most : ℕ) (bounded : (words : List ℕ) → fits words → weight words ≤ most) where
  -- what one step keeps
  abbrev StepKeeps : Plain → PlainAct → Plain → Type 0
  StepKeeps p a q = AllFit fits q × (freed weight p a + per_object most q ≤ per_object most p)

  -- a slot is written, and its object stays as it is
  same_object : (p q : Plain) (x : SlotId) (y : PlainSlot) → AllFit fits p → x.0 < length p.slots → q.slots ≡ slice_set p.slots x.0 y
      → y.stage ≡ stage_at p x → y.payload ≡ (slot_at p x).payload → AllFit fits q × (0 + per_object most q ≤ per_object most p)
  same_object p q x y fit at e stage payload = (
    fit_set fits p q x y fit e (λ o. subst fits (sym payload) (fit x (⊎_elim (λ l. inl (sym stage ∙ l)) (λ d. inr (sym stage ∙ d)) o))),
    (let a = worth_set most p q x y at e in let b = ap (if_object most) stage in omega arith),
  )

  clear_keeps : (p q : Plain) (place : EventPlace) (found : ℕ) → Sound p → AllFit fits p → Does p 0 (act.Clear place) found q → StepKeeps p (act.Clear place) q
  clear_keeps p q (Cell i) found so fit d = absurd d.1.0
  clear_keeps p q (WeakCell i) found so fit d = absurd d.1.0
  clear_keeps p q (Field s i) found so fit d =
      let stage = dying_ended p 0 s so d.0.0 d.1.0.1.0 in
      let x = slot_at p s in
      let same = field_object None x (i == 0) in
      same_object p q s (with_field i None x) fit (is_there p s (λ f. cc)) (ap (λ (r : Plain). r.slots) d.1.2) same.0 same.3
  clear_keeps p q (WeakField s) found so fit d =
      let stage = dying_ended p 0 s so d.0.0 d.1.0.0 in
      let y : PlainSlot = record (slot_at p s) { weak_field = None } in
      same_object p q s y fit (is_there p s (λ f. cc)) (ap (λ (r : Plain). r.slots) d.1.2) refl refl

  step_keeps : (p q : Plain) (a : PlainAct) (found : ℕ) → Sound p → AllFit fits p → Settles p a q → Does p 0 a found q → StepKeeps p a q
  step_keeps p q (act.Eject k s) found so fit may d =
      subst (λ (r : Plain). AllFit fits r × (0 + per_object most r ≤ per_object most p)) (sym d.1.3) (fit, omega arith)
  step_keeps p q (act.Claim x) found so fit may d = absurd may
  step_keeps p q (act.Fill x i w) found so fit may d = absurd may
  step_keeps p q (act.Make x) found so fit may d = absurd may
  step_keeps p q (act.Add x) found so fit may d = absurd may
  step_keeps p q (act.Drop x) found so fit may d = absurd may
  step_keeps p q (act.WeakGain x) found so fit may d = absurd may
  step_keeps p q (act.WeakDrop x) found so fit may d = absurd may
  step_keeps p q (act.Look l) found so fit may d = absurd may
  step_keeps p q (act.Check j l) found so fit may d = absurd may
  step_keeps p q (act.EndSnapshot k x) found so fit may d = absurd may
  step_keeps p q (act.Replace l n) found so fit may d = absurd may
  step_keeps p q (act.TryReplace l m n) found so fit may d = absurd may
  step_keeps p q (act.Count x) found so fit may d = absurd may
  step_keeps p q (act.Mark x) found so fit may d = absurd may
  step_keeps p q (act.WeakCount x) found so fit may d = absurd may
  step_keeps p q (act.See x i) found so fit may d = absurd may
  step_keeps p q (act.Leave j) found so fit may d = absurd may
  step_keeps p q act.Still found so fit may d = absurd may
  step_keeps p q act.Ticket found so fit may d = absurd may
  step_keeps p q (act.Alive j) found so fit may d = absurd may
  step_keeps p q act.Split found so fit may d = absurd may
  step_keeps p q (act.Clear place) found so fit may d = clear_keeps p q place found so fit d
  step_keeps p q (act.End s) found so fit may d =
      let live = d.1.0 in
      let y = ended_of (slot_at p s) in
      let at : s.0 < length p.slots = is_there p s (λ f. cc) in
      let e : q.slots ≡ slice_set p.slots s.0 y = ap (λ (r : Plain). r.slots) d.1.3 in (
        fit_set fits p q s y fit e (λ o. fit s (inl live)),
        (let a = worth_set most p q s y at e in let b = ap (if_object most) live in omega arith),
      )
  step_keeps p q (act.Destroy s) found so fit may d =
      let gone = d.1.3 in
      let stage = dying_ended p 0 s so d.0.0 (times_lost s (seat_at p 0).dying gone.0 gone.1) in
      let y : PlainSlot = record (slot_at p s) { stage = Husk } in
      let at : s.0 < length p.slots = is_there p s (λ f. cc) in
      let e : q.slots ≡ slice_set p.slots s.0 y = ap (λ (r : Plain). r.slots) gone.2 in (
        fit_set fits p q s y fit e (λ o. absurd (⊎_elim (λ (l : Husk ≡ Live). cc) (λ (l : Husk ≡ Ended). cc) o)),
        (let a = worth_set most p q s y at e in let b = ap (if_object most) stage in
            let c = bounded (slot_at p s).payload (fit s (inr stage)) in omega arith),
      )
  step_keeps p q (act.Give s) found so fit may d =
      let husk = d.1.0 in
      let y = freed_of (slot_at p s) in
      let at : s.0 < length p.slots = is_there p s (λ f. cc) in
      let e : q.slots ≡ slice_set p.slots s.0 y = ap (λ (r : Plain). r.slots) d.1.3 in (
        fit_set fits p q s y fit e (λ o. absurd (⊎_elim (λ (l : Free ≡ Live). cc) (λ (l : Free ≡ Ended). cc) o)),
        (let a = worth_set most p q s y at e in let b = ap (if_object most) husk in omega arith),
      )

  pub settles_keeps : (acts : List PlainAct) (p q : Plain) (t : ℕ) → Sound p → AllFit fits p → SettlesBy weight acts p t q
      → AllFit fits q × (t + per_object most q ≤ per_object most p)
  settles_keeps [] p q t so fit (e, z) =
      subst (λ (r : Plain). AllFit fits r × (t + per_object most r ≤ per_object most p)) (sym e) (fit, omega arith)
  settles_keeps (a ∷ acts) p q t so fit (m, found, rest, s, d, by, e) =
      let k = step_keeps p m a found so fit s d in
      let l = settles_keeps acts m q rest (step_sound p m 0 a found so d) k.0 by in
      (l.0, omega arith)
