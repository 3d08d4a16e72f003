-- What a note that is written leaves of a seat's view.
use Rattle.std.proofs.Common.{◌≡◌, ◌≢◌, ⊎_elim, ℕ, ◌<◌, ◌+◌, List, length, refl, ap, sym, ◌∙◌, subst, arith}
use Rattle.std.specs.Prelude.{slice_index_or, slice_set}
use Rattle.std.proofs.lemmas.Bool.{cases_eq}
use Rattle.std.proofs.lemmas.Bool.Decides.{nat_tests}
use Rattle.std.proofs.lemmas.List.{get_or-set_same, get_or-set_other, set-get_or, set-set}
use Rattle.control_word.specs.plain_state.declared.act.EventPlace.{EventPlace}
use Rattle.control_word.specs.plain_state.declared.act.EventPlace.TheVariants.{Cell, Field, WeakCell, WeakField}
use Rattle.control_word.specs.plain_state.declared.slot.Kind.{Kind}
use Rattle.control_word.specs.plain_state.declared.slot.Kind.TheVariants.{Strong, Weak, Disposal}
use Rattle.control_word.specs.plain_state.declared.slot.SlotId.{SlotId}
use Rattle.control_word.specs.plain_state.Lists.{Entry, Gains, entry_times, times}
use Rattle.control_word.proofs.Below.plain_state_Kit.{entry_loses, entry_self}
use Rattle.control_word.specs.plain_protocol.Owns.{HasSlot, Object}
use Rattle.control_word.specs.core_events.declared.shape.Shape.{Shape}
use Rattle.control_word.specs.core_events.declared.view.CoreView.{CoreView}
use Rattle.control_word.specs.core_events.declared.view.Move.{Move}
use Rattle.control_word.specs.core_events.declared.view.Note.{Note}
use Rattle.control_word.specs.core_events.declared.view.Note.TheVariants as note
use Rattle.control_word.specs.core_events.Shows.{show_seat}
use Rattle.control_word.specs.core_events.ShownSteps.{releases}
use Rattle.control_word.specs.core_events.Steps.{with_note}
use Rattle.control_word.specs.core_events.Views.{CanReadFields, Holds, IsReadable, note_of, valid_of}
use Rattle.control_word.proofs.Below.core_law_Losing.{IsNotValid, valid_gains, valid_same}
use Rattle.control_word.specs.domain_rule.Told.{changed_object}
use Rattle.control_word.specs.acquire_retire.Domains.{DomainState}
use Rattle.control_word.specs.acquire_retire.Seats.{SeatState}
use Rattle.control_word.specs.Resting.{IsAtRest, IsSettled}
use Rattle.control_word.proofs.Becoming.{calling}

pub idle_not_valid : (n : Note) → n ≡ note.Idle → IsNotValid n
idle_not_valid n is k s valid = absurd (cc (is, valid))

pub announced_not_valid : (k : Kind) (s : SlotId) → IsNotValid (note.Announced k s)
announced_not_valid k s k' x valid = absurd (cc (valid))

-- a view with the same snapshots, but for its trail, has the same slots and reads the same places
module _ (v : CoreView) (ns : List Note) (ms : List Move) (same : valid_of ns ≡ valid_of v.notes)
  where
    pub same_has : (s : SlotId) → HasSlot (show_seat v) s
        → HasSlot (show_seat (record v { notes = ns; trail = ms })) s
    same_has s =
        subst (λ (es : List Entry). HasSlot (record (show_seat v) { snapshots = es }) s) (sym same)

    reads : (s : SlotId) → CanReadFields v s
        → CanReadFields (record v { notes = ns; trail = ms }) s
    reads s can =
        subst (λ (es : List Entry).
        0 < times s v.owned + entry_times Strong s es + entry_times Disposal s es) (sym same) can

    pub same_readable : (z : Shape) (place : EventPlace) → IsReadable z v place
        → IsReadable z (record v { notes = ns; trail = ms }) place
    same_readable z (Cell i) can = can
    same_readable z (Field s i) can = (can.0, reads s can.1)
    same_readable z (WeakCell i) can = can
    same_readable z (WeakField s) can = reads s can

-- a view with one snapshot more has the slots that it had, and holds that of the snapshot
module _ (v : CoreView) (ns : List Note) (ms : List Move) (k : Kind) (s : SlotId)
    (more : Gains (valid_of v.notes) (k, s) (valid_of ns)) where
  pub more_has : (x : SlotId) → HasSlot (show_seat v) x
      → HasSlot (show_seat (record v { notes = ns; trail = ms })) x
  more_has x has =
      let a = entry_loses Strong x (k, s) (valid_of ns) (valid_of v.notes) more in
      let b = entry_loses Weak x (k, s) (valid_of ns) (valid_of v.notes) more in
      let c = entry_loses Disposal x (k, s) (valid_of ns) (valid_of v.notes) more in
      grind (arith, nat_tests)

  pub some_more : 0 < entry_times k s (valid_of ns)
  some_more =
      let a = entry_loses k s (k, s) (valid_of ns) (valid_of v.notes) more in
      let one = entry_self k s in omega arith

  pub more_holds : Holds (record v { notes = ns; trail = ms }) s
  more_holds = of k some_more
    where
      of : (j : Kind) → 0 < entry_times j s (valid_of ns)
          → Holds (record v { notes = ns; trail = ms }) s
      of Strong some' = omega arith
      of Weak some' = omega arith
      of Disposal some' = omega arith

module _ (v : CoreView) (j : ℕ) (there : j < length v.notes) where
  pub written : (n : Note) → note_of (with_note j n v) j ≡ n
  written n = get_or-set_same v.notes j n note.Idle there

  pub beside : (n : Note) (i : ℕ) → i ≢ j → note_of (with_note j n v) i ≡ note_of v i
  beside n i apart = get_or-set_other v.notes j i n note.Idle apart

  -- where the note written is settled, and all others are, all are
  pub all_settled : (n : Note) → IsSettled n → ((i : ℕ) → IsSettled (note_of v i)) → (i : ℕ)
      → IsSettled (note_of (with_note j n v) i)
  all_settled n this others i =
      ⊎_elim
      (λ (same : i ≡ j). subst IsSettled
      (sym (ap (λ (m : ℕ). note_of (with_note j n v) m) same ∙ written n)) this)
      (λ (apart : i ≢ j). subst IsSettled (sym (beside n i apart)) (others i))
      (cases_eq i j)

  -- an announcement shows nothing, and a snapshot shows its entry
  pub announced_same : (n : Note) → IsNotValid n → note_of v j ≡ note.Idle
      → valid_of (slice_set v.notes j n) ≡ valid_of v.notes
  announced_same n not idle =
      valid_same v.notes j n there not (idle_not_valid (note_of v j) idle)

  pub snapshot_gains : (k : Kind) (s : SlotId) → note_of v j ≡ note.Idle
      → Gains (valid_of v.notes) (k, s) (valid_of (slice_set v.notes j (note.Valid k s)))
  snapshot_gains k s idle =
      valid_gains v.notes j k s there (idle_not_valid (note_of v j) idle)

-- of two notes that are written in one word the second stays, and a note that is written back changes nothing
pub second_stays : (v : CoreView) (j : ℕ) (m n : Note)
    → with_note j n (with_note j m v) ≡ with_note j n v
second_stays v j m n = ap (λ (ns : List Note). record v { notes = ns }) (set-set v.notes j m n)

pub written_back : (v : CoreView) (j : ℕ) (n : Note) → note_of v j ≡ n → with_note j n v ≡ v
written_back v j n is =
    ap (λ (ns : List Note). record v { notes = ns })
    (ap (slice_set v.notes j) (sym is) ∙ set-get_or v.notes j note.Idle)

-- a release shows no change of an object
pub release_keeps : (n : Note) (s : SlotId) (o : Object) → changed_object (releases n) s o ≡ o
release_keeps note.Idle s o = refl
release_keeps (note.Announced k x) s o = refl
release_keeps (note.Valid k x) s o = refl

module _ {P V : Type 0} (d : DomainState P) (old new : SeatState V) (rest : IsAtRest d old)
    (table : new.table ≡ old.table) where
  -- a seat that was at rest is so with other notes, of which the first stands for nothing and all are settled
  pub rests_noted : (ns : List Note)
      → calling new.view.core ≡ calling (record old.view.core { notes = ns })
      → slice_index_or ns 0 note.Idle ≡ note.Idle
      → ((i : ℕ) → IsSettled (slice_index_or ns i note.Idle)) → IsAtRest d new
  rests_noted ns is first settled = record {
    of_domain = (table ∙ rest.of_domain.0, ap (λ x. x.0) is ∙ rest.of_domain.1);
    idle = (ap (λ x. x.1) is ∙ rest.idle.0, ap (λ x. x.2) is ∙ rest.idle.1);
    owes_nothing = ap (λ x. x.4) is ∙ rest.owes_nothing;
    first = ap (λ x. slice_index_or x.3 0 note.Idle) is ∙ first;
    others = λ j. subst (λ (n : Note). IsSettled n)
        (sym (ap (λ x. slice_index_or x.3 j note.Idle) is)) (settled j);
  }

  pub rests_still : calling new.view.core ≡ calling old.view.core → IsAtRest d new
  rests_still is = rests_noted old.view.core.notes is rest.first rest.others
