-- What a whole look at a cell leaves of a seat, in which it saw null or a head.
use Rattle.std.proofs.Common.{◌≡◌, ℕ, Bool, true, false, List, ◌++◌, refl, sym, ap, subst, ◌∙◌, append_assoc, Some, None, inl, inr}
use Rattle.std.specs.Prelude.{◌≢◌, Err, IfOk, Ok, Option, Result}
use Rattle.atomic_weak.specs.plain_state.declared.act.EventPlace.TheVariants.{WeakCell}
use Rattle.atomic_weak.specs.plain_state.declared.slot.Kind.TheVariants.{Weak}
use Rattle.atomic_weak.specs.plain_state.declared.slot.SlotId.{SlotId}
use Rattle.atomic_weak.specs.core_events.declared.view.CoreView.{CoreView}
use Rattle.atomic_weak.specs.core_events.declared.view.Move.{Move}
use Rattle.atomic_weak.specs.core_events.declared.view.Note.TheVariants as note
use Rattle.atomic_weak.specs.core_events.Views.{note_of}
use Rattle.atomic_weak.specs.acquire_retire.Domains.{DomainState}
use Rattle.atomic_weak.specs.acquire_retire.Seats.{SeatState}
use Rattle.atomic_weak.specs.control_word.Moves.{KnowsStill}
use Rattle.atomic_weak.specs.protected_loads.Loads.{protected_by}
use Rattle.atomic_weak.specs.protected_loads.Retries.{lost_by}
use Rattle.atomic_weak.proofs.Below.protected_loads_Noting.{second_stays, written_back}
use Rattle.record_making.specs.directory_law.declared.view.View.{View}
use Rattle.record_making.specs.directory_law.Cells.{Area}
use Rattle.record_making.specs.directory_law.Payloads.{Text}
use Rattle.record_making.specs.directory_calls.Steps.{Leaves, with_found}
use Rattle.record_making.proofs.Below.directory_calls_Going.{leaves_core}
use Rattle.record_making.proofs.Below.directory_calls_Parts.{LearnsBy, Place}
use Rattle.text_reading.proofs.Below.snapshot_ptr_Under.{least_is_free}
use Rattle.text_reading.specs.Reading.{HasTwoFree}
use Rattle.weak_intern.specs.declared.looking.Sight.{Sight}
use Rattle.weak_intern.specs.declared.looking.Sight.TheVariants as sight
use Rattle.weak_intern.specs.declared.seeing.Sighted.{Sighted}
use Rattle.weak_intern.specs.Seeing.{HasSeenAt, Sees}
use Rattle.weak_intern.specs.Sighting.{Ends, IsSighted, Sights, SightsBy, Visits, compared_by, let_go_of, raised_moves, seat_without, sighted_in, with_added}
use Rattle.weak_intern.specs.Walking.{EndsBy, LooksBy, Meets, MeetsIn}
use Rattle.weak_intern.proofs.Sights.{meets_from, more_leaves}

-- A HEAD SEEN in weak cell i
module _ {V : Type 0} (i : ℕ) (it : Sighted) (a b : SeatState V)
    (sights : Sights i it.word (Some it) a.view.core b.view.core)
    (idle : note_of a.view.core it.word ≡ note.Idle) where
  -- without it the seat has what it had
  pub without_it : let_go_of it b.view.core ≡ record a.view.core { trail = b.view.core.trail }
  without_it =
      ap (λ (v : CoreView). record (let_go_of it v) { trail = b.view.core.trail }) sights.core
      ∙ ap (λ (v : CoreView). record v { trail = b.view.core.trail })
      (second_stays a.view.core it.word (note.Valid Weak it.slot) note.Idle
      ∙ written_back a.view.core it.word note.Idle idle)

  pub seen_leaves : KnowsStill a.view.core a b
      → Leaves a.view.core.owned a.view.core.weaks a (seat_without it b)
  seen_leaves knows =
      leaves_core a (seat_without it b) a.view.core _
      (without_it
      ∙ ap (λ (t : List Move). record a.view.core { trail = t })
      (ap (λ (v : CoreView). v.trail) sights.core))
      refl knows

  pub seen_free : HasTwoFree a.view.core → HasTwoFree (let_go_of it b.view.core)
  seen_free free = subst (λ (v : CoreView). HasTwoFree v) (sym without_it) free

  module _ (c : SeatState V) (s : SlotId) (payload : List ℕ) (how : Option Bool)
      (same : s ≡ it.slot) (ends : Ends it payload how b.view.core c.view.core) where
    abbrev tries : List Move
    tries = lost_by it.word (WeakCell i) sights.lost

    abbrev found : List Move
    found = protected_by it.word (WeakCell i) it.slot

    abbrev ended : List Move
    ended = compared_by it.slot ends.words ++ raised_moves it how

    shorter : (how : Option Bool) (t : List Move)
        → record (with_added how it.slot (record a.view.core { trail = b.view.core.trail })) {
          trail = t;
        }
        ≡ record (with_added how it.slot a.view.core) { trail = t }
    shorter None t = refl
    shorter (Some true) t = refl
    shorter (Some false) t = refl

    visits_it : Visits i it.slot payload how a.view.core c.view.core
    visits_it = record {
      word = it.word;
      lost = sights.lost;
      words = ends.words;
      few = ends.few;
      all = ends.all;
      core =
          ends.core
          ∙ (ap (λ (v : CoreView). record (with_added how it.slot v) {
            trail = b.view.core.trail ++ ended;
          }) without_it
          ∙ (shorter how (b.view.core.trail ++ ended)
          ∙ ap (λ (t : List Move). record (with_added how it.slot a.view.core) { trail = t })
          (ap (λ (v : CoreView). v.trail ++ ended) sights.core
          ∙ (append_assoc a.view.core.trail (tries ++ found) ended
          ∙ ap (λ (t : List Move). a.view.core.trail ++ t)
          (append_assoc tries found ended)))));
    }

    pub visits_then : Visits i s payload how a.view.core c.view.core
    visits_then =
        subst (λ (x : SlotId). Visits i x payload how a.view.core c.view.core) (sym same)
        visits_it

  pub looks_then : {E : Type 0} (c : SeatState V) (payload : List ℕ) (r : Result Sight E)
      → EndsBy it payload r b.view.core c.view.core → LooksBy i payload r a.view.core c.view.core
  looks_then c payload (Ok sight.Null) ends = absurd ends
  looks_then c payload (Ok sight.Other) (inl ends) =
      (it.slot, inl (visits_then c it.slot payload None refl ends))
  looks_then c payload (Ok sight.Other) (inr ends) =
      (it.slot, inr (visits_then c it.slot payload (Some false) refl ends))
  looks_then c payload (Ok (sight.Record strong)) ends =
      visits_then c strong.slot payload (Some true) ends.0 ends.1
  looks_then c payload (Err error) ends =
      (it.slot, visits_then c it.slot payload None refl ends)

-- A LOOK at weak cell i, in which this was seen
module _ {V : Type 0} (i : ℕ) (a b : SeatState V) (found : Option Sighted)
    (sights : SightsBy i found a.view.core b.view.core) (knows : KnowsStill a.view.core a b) where
  -- null
  module _ (null : found ≡ None) where
    pub null_by : (j : ℕ) × Sights i j None a.view.core b.view.core
    null_by = subst (λ f. SightsBy i f a.view.core b.view.core) null sights

    pub null_leaves : Leaves a.view.core.owned a.view.core.weaks a b
    null_leaves = leaves_core a b a.view.core _ null_by.1.core refl knows

    pub null_makes : b.view.core.makes ≡ a.view.core.makes
    null_makes = ap (λ (v : CoreView). v.makes) null_by.1.core

    pub null_adds : b.view.core.adds ≡ a.view.core.adds
    null_adds = ap (λ (v : CoreView). v.adds) null_by.1.core

  -- a head
  module _ (it : Sighted) (is : found ≡ Some it) where
    by : SightsBy i (Some it) a.view.core b.view.core
    by = subst (λ f. SightsBy i f a.view.core b.view.core) is sights

    idle : note_of a.view.core it.word ≡ note.Idle
    idle = (least_is_free a.view.core it.word by.0).2

    pub look_sighted : IsSighted it b.view.core
    look_sighted = by.1

    pub look_free : HasTwoFree a.view.core → HasTwoFree (let_go_of it b.view.core)
    look_free = seen_free i it a b by.2 idle

    pub look_without : Leaves a.view.core.owned a.view.core.weaks a (seat_without it b)
    look_without = seen_leaves i it a b by.2 idle knows

    pub look_makes : b.view.core.makes ≡ a.view.core.makes
    look_makes = ap (λ (v : CoreView). v.makes) by.2.core

    pub look_adds : b.view.core.adds ≡ a.view.core.adds
    look_adds = ap (λ (v : CoreView). v.adds) by.2.core

    pub look_saw : {P : Type 0} (seen : V → View) (d : DomainState P) (z : Area) (n : ℕ)
        → Sees seen d z n (sighted_in found) a b → HasSeenAt seen n it.slot b
    look_saw seen d z n sees = subst (λ f. Sees seen d z n (sighted_in f) a b) is sees

    module _ (c : SeatState V) where
      pub look_leaves : (o : Option SlotId)
          → Leaves (with_found o b.view.core.owned) b.view.core.weaks (seat_without it b) c
          → Leaves (with_found o a.view.core.owned) a.view.core.weaks a c
      look_leaves o second = more_leaves a (seat_without it b) c o look_without second

      pub look_by : {E : Type 0} (payload : List ℕ) (r : Result Sight E)
          → EndsBy it payload r b.view.core c.view.core
          → LooksBy i payload r a.view.core c.view.core
      look_by payload r ends = looks_then i it a b by.2 idle c payload r ends

      pub look_met : {P E : Type 0} (d : DomainState P) (l : Place V) (z : Area) (n : ℕ)
          (text : Text) (r : Result Sight E) → Sees l.seen d z n (sighted_in found) a b
          → LearnsBy l 0 a.view.client b.view.client
          → IfOk r (λ found. MeetsIn l.seen d z it.slot text found b c)
          → IfOk r (λ found. Meets l.seen d z n text found a c)
      look_met d l z n text (Ok found') sees learns meets =
          meets_from d l z a b c (ap (λ (v : CoreView). v.seat) by.2.core)
          (_, ap (λ (v : CoreView). v.trail) by.2.core) learns n text found'
          (meets n (look_saw l.seen d z n sees))
      look_met d l z n text (Err error) sees learns meets = tt

-- in a head nothing is null
pub no_null : {E A : Type 0} (r : Result Sight E) → IfOk r (λ found. found ≢ sight.Null)
    → r ≡ Ok sight.Null → A
no_null r head is = absurd (subst (λ x. IfOk x (λ found. found ≢ sight.Null)) is head refl)
