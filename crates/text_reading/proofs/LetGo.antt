-- The word by which a slot is held stands for nothing again.
use Rattle.std.proofs.Common.{◌≡◌, ◌≢◌, ⊎_elim, ℕ, zero, suc, ◌<◌, Bool, true, false, List, [], ◌∷◌, length, set, refl, ap, sym, ◌∙◌, subst, arith}
use Rattle.std.specs.Prelude.{Option, Some, None, if◌then◌else◌}
use Rattle.std.proofs.lemmas.Bool.{cases_eq}
use Rattle.std.proofs.lemmas.List.{set-set}
use Rattle.snapshot_ptr.specs.plain_state.declared.slot.Kind.TheVariants.{Strong}
use Rattle.snapshot_ptr.specs.plain_state.declared.slot.SlotId.{SlotId}
use Rattle.slot_store.specs.core_events.declared.act.Act.TheVariants as act
use Rattle.slot_store.specs.core_events.declared.outcome.Outcome.{Outcome}
use Rattle.slot_store.specs.core_events.declared.view.CoreView.{CoreView}
use Rattle.slot_store.specs.core_events.declared.view.Note.{Note}
use Rattle.slot_store.specs.core_events.declared.view.Note.TheVariants as note
use Rattle.slot_store.specs.core_events.Steps.{with_note}
use Rattle.slot_store.specs.core_events.Views.{note_of}
use Rattle.slot_store.specs.acquire_retire.Calls.{IsSameView, Steps, same_view}
use Rattle.slot_store.specs.acquire_retire.Domains.{DomainState}
use Rattle.slot_store.specs.acquire_retire.Notes.{is_free, least_free}
use Rattle.slot_store.specs.acquire_retire.Seats.{SeatState}
use Rattle.slot_store.specs.control_word.Moves.{KnowsStill}
use Rattle.slot_store.specs.control_word.Resting.{IsAtRest}
use Rattle.snapshot_ptr.proofs.Below.protected_loads_Noting.{beside, written, written_back}
use Rattle.snapshot_ptr.specs.Handles.{IsHeldBy}
use Rattle.snapshot_ptr.proofs.Released.{released}
use Rattle.snapshot_ptr.proofs.Under.{IsFreeWord}
use Rattle.text_reading.specs.Going.{ComesTo, freed, one_if}
use Rattle.text_reading.specs.Reading.{HasTwoFree}
use Rattle.text_reading.proofs.Steps.{comes_none, freed_trail}

-- A WORD that is released
module _ {V : Type 0} (old : SeatState V) where
  abbrev pub Left : Option ℕ → SeatState V → Type 0
  Left w new =
      ComesTo (one_if w) (freed w old.view.core) old.view.core new.view.core
      × KnowsStill (freed w old.view.core) old new

  pub let_go_none : (w : Option ℕ) → w ≡ None → Left w old
  let_go_none w is =
      subst (λ (x : Option ℕ). Left x old) (sym is) (comes_none old.view.core, λ x has. refl)

module _ {P V : Type 0} {fits : List ℕ → Type 0} (d : DomainState P) (old : SeatState V)
    (s : SlotId) (rest : IsAtRest d old) (w : Option ℕ)
    (held : IsHeldBy w s old.view.core.owned old.view.core.notes) where
  pub let_go_word : (j : ℕ) → w ≡ Some j → (new : SeatState V) (o : Outcome)
      → Steps fits d same_view IsSameView (act.Release j) old new o
      → Left old w new × (new.view.client ≡ old.view.client) × IsAtRest d new
  let_go_word j is new o release =
      let r = released d old j s rest
      (subst (λ (x : Option ℕ). IsHeldBy x s old.view.core.owned old.view.core.notes) is held)
      new o release in (
        subst (λ (x : Option ℕ). Left old x new) (sym is) ((_, r.0.core, refl), r.2),
        r.1,
        r.3,
      )

-- NOTES. A note that is written beside another, and one that is written back
pub set_beside : (ns : List Note) (i j : ℕ) (a b : Note) → i ≢ j
    → set (set ns i a) j b ≡ set (set ns j b) i a
set_beside [] i j a b other = refl
set_beside (n ∷ ns) zero zero a b other = absurd (other refl)
set_beside (n ∷ ns) zero (suc j) a b other = refl
set_beside (n ∷ ns) (suc i) zero a b other = refl
set_beside (n ∷ ns) (suc i) (suc j) a b other =
    ap (λ (x : List Note). n ∷ x) (set_beside ns i j a b (λ same. other (ap suc same)))

-- what a seat has that holds s by a word, if there is one, and of which this is the rest
abbrev pub with_hold : Option ℕ → SlotId → CoreView → CoreView
with_hold None s v = v
with_hold (Some j) s v = with_note j (note.Valid Strong s) v

-- the word, if there is one, stands for nothing in the rest
abbrev pub IsFreeIn : Option ℕ → CoreView → Type 0
IsFreeIn None v = Unit {0}
IsFreeIn (Some j) v = IsFreeWord j v

-- the rest is what is left where the word is released
pub freed_hold : (w : Option ℕ) (s : SlotId) (v : CoreView) → IsFreeIn w v
    → freed w (with_hold w s v) ≡ v
freed_hold None s v free = refl
freed_hold (Some j) s v free =
    ap (λ (ns : List Note). record v { notes = ns })
    (set-set v.notes j (note.Valid Strong s) note.Idle)
    ∙ written_back v j note.Idle free.2

module _ (v : CoreView) (four : length v.notes ≡ 4) where
  -- a word that is free beside one that holds a slot is another one, and free without it
  pub free_other : (i j : ℕ) (s : SlotId) → i < 4
      → IsFreeWord j (with_note i (note.Valid Strong s) v) → (i ≢ j) × IsFreeWord j v
  free_other i j s small free =
      let there : i < length v.notes = omega (arith, four, small) in
      let other : j ≢ i = λ same. absurd (cc (
        written v i there (note.Valid Strong s),
        ap (note_of (with_note i (note.Valid Strong s) v)) same,
        free.2,
      )) in (
        (λ same. other (sym same)),
        (
          free.0,
          free.1,
          sym (beside v i there (note.Valid Strong s) j other) ∙ free.2,
        ),
      )

  -- one hold in place of another
  pub hold_after : (w : Option ℕ) (j : ℕ) (s t : SlotId) → IsFreeIn w v
      → IsFreeWord j (with_hold w s v)
      → freed w (with_note j (note.Valid Strong t) (with_hold w s v)) ≡ with_hold (Some j) t v
  hold_after None j s t free beside' = refl
  hold_after (Some i) j s t free beside' =
      let apart = (free_other i j s free.1 beside').0 in
      ap (λ (ns : List Note). record v { notes = ns })
      (ap (λ (ns : List Note). set ns i note.Idle)
      (set_beside v.notes i j (note.Valid Strong s) (note.Valid Strong t) apart)
      ∙ (set-set (set v.notes j (note.Valid Strong t)) i (note.Valid Strong s) note.Idle
      ∙ (sym (set_beside v.notes i j note.Idle (note.Valid Strong t) apart)
      ∙ ap (λ (ns : List Note). set ns j (note.Valid Strong t))
      (ap (λ (x : CoreView). x.notes) (written_back v i note.Idle free.2)))))

  pub free_in_rest : (w : Option ℕ) (j : ℕ) (s : SlotId) → IsFreeIn w v
      → IsFreeWord j (with_hold w s v) → IsFreeWord j v
  free_in_rest None j s free beside' = beside'
  free_in_rest (Some i) j s free beside' = (free_other i j s free.1 beside').1

  -- one of two free words is free beside it
  pub one_free : (w : Option ℕ) (s : SlotId) → IsFreeIn w v → HasTwoFree v
      → (k : ℕ) × IsFreeWord k (with_hold w s v)
  one_free None s free two = (two.0, (two.2, omega (arith, two.3, two.4), two.5))
  one_free (Some i) s free two =
      let there : i < length v.notes = omega (arith, four, free.1) in
      let at = beside v i there (note.Valid Strong s) in ⊎_elim
      (λ (same : two.0 ≡ i).
      let other : two.1 ≢ i = λ e. omega (arith, e, same, two.3) in
      (two.1, (omega (arith, two.2, two.3), two.4, at two.1 other ∙ two.6)))
      (λ (other : two.0 ≢ i).
      (two.0, (two.2, omega (arith, two.3, two.4), at two.0 other ∙ two.5)))
      (cases_eq two.0 i)

-- where a word is free, there is a least one
abbrev least : Bool → Bool → Bool → Option ℕ
least a b c = if a then Some 1 else if b then Some 2 else if c then Some 3 else None

pub least_there : (v : CoreView) (k : ℕ) → IsFreeWord k v → least_free v ≢ None
least_there v k free none =
    go (is_free (note_of v 1)) (is_free (note_of v 2)) (is_free (note_of v 3)) refl refl refl none
    k free
  where
    taken : (i : ℕ) → is_free (note_of v i) ≡ false → note_of v i ≢ note.Idle
    taken i not idle = absurd (cc (sym not, ap is_free idle))

    go : (a b c : Bool) → is_free (note_of v 1) ≡ a → is_free (note_of v 2) ≡ b
        → is_free (note_of v 3) ≡ c
        → least a b c ≡ None → (k : ℕ) → IsFreeWord k v → ⊥
    go true b c x y z is k free = absurd (cc (is))
    go false true c x y z is k free = absurd (cc (is))
    go false false true x y z is k free = absurd (cc (is))
    go false false false x y z is zero free = omega (arith, free.0)
    go false false false x y z is (suc zero) free = taken 1 x free.2
    go false false false x y z is (suc (suc zero)) free = taken 2 y free.2
    go false false false x y z is (suc (suc (suc zero))) free = taken 3 z free.2
    go false false false x y z is (suc (suc (suc (suc k)))) free = omega (arith, free.1)

-- what the seat has without the hold is what it had
pub rest_is : {V : Type 0} (old now : SeatState V) (w : Option ℕ) (slot : SlotId) {n : ℕ}
    → (core : ComesTo n (with_hold w slot old.view.core) old.view.core now.view.core)
    → IsFreeIn w old.view.core
    → freed w now.view.core ≡ record old.view.core { trail = now.view.core.trail }
rest_is old now w slot core free =
    bare_freed w now.view.core
    ∙ (ap (λ (v : CoreView). record (freed w v) { trail = now.view.core.trail }) core.1
    ∙ (freed_trail w (with_hold w slot old.view.core) _ _
    ∙ ap (λ (v : CoreView). record v { trail = now.view.core.trail })
    (freed_hold w slot old.view.core free)))
  where
    bare_freed : (w : Option ℕ) (v : CoreView)
        → freed w v ≡ record (freed w v) { trail = v.trail }
    bare_freed None v = refl
    bare_freed (Some j) v = refl
