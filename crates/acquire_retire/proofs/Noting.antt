-- What a seat stores of its notes: the slot that each announces.
use Rattle.std.proofs.Common.{◌≡◌, ℕ, Bool, true, false, map, refl}
use Rattle.std.specs.Prelude.{Option, Some, None, slice_set, nat_lt, if◌then◌else◌}
use Rattle.std.proofs.lemmas.List.{map-set}
use Rattle.std.proofs.Math.Seq.{map-set_same}
use Rattle.plain_state.specs.declared.act.EventPlace.{EventPlace}
use Rattle.plain_state.specs.declared.slot.Kind.{Kind}
use Rattle.plain_state.specs.declared.slot.SlotId.{SlotId}
use Rattle.core_promises.specs.core_events.declared.act.Act.{Act}
use Rattle.core_promises.specs.core_events.declared.act.Act.TheVariants as act
use Rattle.core_promises.specs.core_events.declared.outcome.Outcome.{Outcome}
use Rattle.core_promises.specs.core_events.declared.shape.Shape.{Shape}
use Rattle.core_promises.specs.core_events.declared.view.CoreView.{CoreView}
use Rattle.core_promises.specs.core_events.declared.view.Note.{Note}
use Rattle.core_promises.specs.core_events.declared.view.Note.TheVariants as note
use Rattle.core_promises.specs.core_events.Steps.{answer, is_valid, moved, noted, validated, with_note}
use Rattle.core_promises.specs.core_events.Views.{note_of, slot_noted}
use Rattle.plain_state.specs.counter_word.Words.{value}
use Rattle.acquire_retire.specs.Seats.{Stored, stored}
use Rattle.acquire_retire.proofs.Calls.{kept}

-- what it stores after a note has come to announce a slot, or nothing
abbrev pub announces : ℕ → Option SlotId → Stored → Stored
announces j o s = record s { announced = slice_set s.announced j o }

pub announced_kept : (z : Shape) (j : ℕ) (k : Kind) (s : SlotId) (w : ℕ) (v : CoreView)
    → kept (moved z (act.Announce j k s) w v) ≡ (announces j (Some s) (stored v), v.room)
announced_kept z j k s w v = λ i. (
  record (stored v) { announced = map-set slot_noted v.notes j (note.Announced k s) i },
  v.room,
)

pub released_kept : (z : Shape) (j w : ℕ) (v : CoreView)
    → kept (moved z (act.Release j) w v) ≡ (announces j None (stored v), v.room)
released_kept z j w v =
    λ i. (record (stored v) { announced = map-set slot_noted v.notes j note.Idle i }, v.room)

-- what is under a snapshot stands announced as before
validated_slot : (n : Note) → slot_noted (validated n) ≡ slot_noted n
validated_slot note.Idle = refl
validated_slot (note.Announced k s) = refl
validated_slot (note.Valid k s) = refl

validated_same : (j : ℕ) (v : CoreView) (b : Bool)
    → map slot_noted (if b then with_note j (validated (note_of v j)) v else v).notes
    ≡ map slot_noted v.notes
validated_same j v true =
    map-set_same slot_noted v.notes j (validated (note_of v j)) note.Idle (validated_slot (note_of v j))
validated_same j v false = refl

validated_kept : (j : ℕ) (v : CoreView) (a : Act) (o : Outcome) (b : Bool)
    → kept (noted a o (if b then with_note j (validated (note_of v j)) v else v))
    ≡ (stored v, v.room)
validated_kept j v a o true =
    λ i. (record (stored v) { announced = validated_same j v true i }, v.room)
validated_kept j v a o false = refl

pub checked_kept : (z : Shape) (j : ℕ) (p : EventPlace) (w : ℕ) (v : CoreView)
    → kept (moved z (act.Check j p) w v) ≡ (stored v, v.room)
checked_kept z j p w v =
    validated_kept j v (act.Check j p) (answer z (act.Check j p) w v) (is_valid w (note_of v j))

pub alive_kept : (z : Shape) (j w : ℕ) (v : CoreView)
    → kept (moved z (act.Alive j) w v) ≡ (stored v, v.room)
alive_kept z j w v =
    validated_kept j v (act.Alive j) (answer z (act.Alive j) w v) (nat_lt 0 (value w))
