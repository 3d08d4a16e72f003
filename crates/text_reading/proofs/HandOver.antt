-- A snapshot that is taken before the one before it is let go.
use Rattle.std.proofs.Common.{◌≡◌, ◌≢◌, ℕ, ◌+◌, ◌<◌, List, [], ◌∷◌, ◌++◌, length, length-set, refl, ap, sym, ◌∙◌, subst, arith}
use Rattle.std.specs.Prelude.{Option, Some, None, slice_set}
use Rattle.std.proofs.lemmas.List.{set-set}
use Rattle.snapshot_ptr.specs.plain_state.declared.slot.Kind.TheVariants.{Strong}
use Rattle.snapshot_ptr.specs.plain_state.declared.slot.SlotId.{SlotId}
use Rattle.snapshot_ptr.specs.plain_protocol.Owns.{HasSlot, Object}
use Rattle.slot_store.specs.core_events.declared.view.CoreView.{CoreView}
use Rattle.slot_store.specs.core_events.declared.view.Move.{Move}
use Rattle.slot_store.specs.core_events.declared.view.Note.{Note}
use Rattle.slot_store.specs.core_events.declared.view.Note.TheVariants as note
use Rattle.slot_store.specs.core_events.Shows.{show_seat}
use Rattle.slot_store.specs.core_events.Steps.{with_note}
use Rattle.slot_store.specs.core_events.Views.{HoldsStrongly, note_of}
use Rattle.slot_store.specs.acquire_retire.Notes.{least_free}
use Rattle.slot_store.specs.acquire_retire.Seats.{SeatState}
use Rattle.slot_store.specs.control_word.Moves.{KnowsStill}
use Rattle.snapshot_ptr.proofs.Below.protected_loads_Noting.{beside, more_has, more_holds, snapshot_gains, written, written_back}
use Rattle.snapshot_ptr.proofs.Below.protected_loads_Telling.{holds_has}
use Rattle.snapshot_ptr.specs.Handles.{IsHeldBy}
use Rattle.snapshot_ptr.proofs.Under.{IsFreeWord, has_strongly, least_is_free}
use Rattle.directory_calls.specs.directory_law.declared.view.View.{View}
use Rattle.directory_calls.specs.directory_law.Lessons.{reads_on}
use Rattle.directory_calls.specs.directory_law.Payloads.{IsText}
use Rattle.text_reading.specs.Going.{ComesTo, ReadsOn, freed, last_run, one_if}
use Rattle.text_reading.proofs.LetGo.{set_beside}
use Rattle.text_reading.proofs.Steps.{comes_then, freed_trail}

-- a seat holds strongly what it holds by a word or owns
pub held_strongly : (v : CoreView) (w : Option ℕ) (s : SlotId) → IsHeldBy w s v.owned v.notes
    → HoldsStrongly v s
held_strongly v w s held = has_strongly (record { slot = s; word = w }) v held

-- a word that holds a slot isn't a free one
apart : (v : CoreView) (i j : ℕ) (s : SlotId) → note_of v i ≡ note.Valid Strong s
    → note_of v j ≡ note.Idle → j ≢ i
apart v i j s valid idle same = absurd (cc (valid, ap (note_of v) same, idle))

-- without the hold
module _ (v : CoreView) (four : length v.notes ≡ 4) where
  four_freed : (w : Option ℕ) → length (freed w v).notes ≡ 4
  four_freed None = four
  four_freed (Some i) = length-set v.notes i note.Idle ∙ four

  -- the seat had what it has
  freed_has : (w : Option ℕ) (s x : SlotId) → IsHeldBy w s v.owned v.notes
      → HasSlot (show_seat (freed w v)) x → HasSlot (show_seat v) x
  freed_has None s x held has = has
  freed_has (Some i) s x held has =
      let there : i < length v.notes = omega (arith, four, held.1) in
      let empty : i < length (with_note i note.Idle v).notes =
      omega (arith, four_freed (Some i), held.1) in
      let back : slice_set (slice_set v.notes i note.Idle) i (note.Valid Strong s) ≡ v.notes =
      set-set v.notes i note.Idle (note.Valid Strong s)
      ∙ ap (λ (u : CoreView). u.notes) (written_back v i (note.Valid Strong s) held.2) in
      subst (λ (ns : List Note). HasSlot (show_seat (record v { notes = ns })) x) back
      (more_has (with_note i note.Idle v)
      (slice_set (slice_set v.notes i note.Idle) i (note.Valid Strong s)) v.trail Strong s
      (snapshot_gains (with_note i note.Idle v) i empty Strong s (written v i there note.Idle))
      x has)

  module _ (w : Option ℕ) (s : SlotId) (held : IsHeldBy w s v.owned v.notes) (j : ℕ)
      (small : j < 4) (idle : note_of v j ≡ note.Idle) (part : SlotId) where
    -- it is the same to take a snapshot before or after
    freed_with : (w : Option ℕ) → IsHeldBy w s v.owned v.notes
        → freed w (with_note j (note.Valid Strong part) v)
        ≡ with_note j (note.Valid Strong part) (freed w v)
    freed_with None held = refl
    freed_with (Some i) held =
        ap (λ (ns : List Note). record v { notes = ns })
        (set_beside v.notes j i (note.Valid Strong part) note.Idle (apart v i j s held.2 idle))

    idle_freed : (w : Option ℕ) → IsHeldBy w s v.owned v.notes → note_of (freed w v) j ≡ note.Idle
    idle_freed None held = idle
    idle_freed (Some i) held =
        beside v i (omega (arith, four, held.1)) note.Idle j (apart v i j s held.2 idle) ∙ idle

    there_freed : j < length (freed w v).notes
    there_freed = omega (arith, four_freed w, small)

    taken_freed : (mid : CoreView) (n : ℕ)
        → (core : ComesTo n (with_note j (note.Valid Strong part) v) v mid)
        → freed w mid ≡ record (with_note j (note.Valid Strong part) (freed w v)) {
          trail = v.trail ++ core.0;
        }
    taken_freed mid n core =
        ap (freed w) core.1
        ∙ (freed_longer w (with_note j (note.Valid Strong part) v) (v.trail ++ core.0)
        ∙ ap (λ (u : CoreView). record u { trail = v.trail ++ core.0 }) (freed_with w held))
      where
        freed_longer : (w : Option ℕ) (u : CoreView) (t : List Move)
            → freed w (record u { trail = t }) ≡ record (freed w u) { trail = t }
        freed_longer None u t = refl
        freed_longer (Some i) u t = refl

    pub keeps_has : (mid : CoreView) (n : ℕ)
        → ComesTo n (with_note j (note.Valid Strong part) v) v mid
        → (x : SlotId) → HasSlot (show_seat (freed w v)) x → HasSlot (show_seat (freed w mid)) x
    keeps_has mid n core x has =
        subst (λ (u : CoreView). HasSlot (show_seat u) x) (sym (taken_freed mid n core))
        (more_has (freed w v) (slice_set (freed w v).notes j (note.Valid Strong part))
        (v.trail ++ core.0) Strong part
        (snapshot_gains (freed w v) j there_freed Strong part (idle_freed w held)) x has)

    pub takes_has : (mid : CoreView) (n : ℕ)
        → ComesTo n (with_note j (note.Valid Strong part) v) v mid
        → HasSlot (show_seat (freed w mid)) part
    takes_has mid n core =
        subst (λ (u : CoreView). HasSlot (show_seat u) part) (sym (taken_freed mid n core))
        (holds_has (record (with_note j (note.Valid Strong part) (freed w v)) {
          trail = v.trail ++ core.0;
        }) part
        (more_holds (freed w v) (slice_set (freed w v).notes j (note.Valid Strong part))
        (v.trail ++ core.0) Strong part
        (snapshot_gains (freed w v) j there_freed Strong part (idle_freed w held))))

-- ALL THAT IT LEAVES
module _ {V : Type 0} (seen : V → View) (w : Option ℕ) (s : SlotId) (j : ℕ) (part : SlotId)
    (old mid new : SeatState V) (four : length old.view.core.notes ≡ 4)
    (held : IsHeldBy w s old.view.core.owned old.view.core.notes)
    (least : least_free old.view.core ≡ Some j)
    (core : ComesTo 3 (with_note j (note.Valid Strong part) old.view.core) old.view.core
    mid.view.core)
    (left : ComesTo (one_if w) (freed w mid.view.core) mid.view.core new.view.core)
    (knows_left : KnowsStill (freed w mid.view.core) mid new) where
  free : IsFreeWord j old.view.core
  free = least_is_free old.view.core j least

  pub hand_core : ComesTo (3 + one_if w)
      (freed w (with_note j (note.Valid Strong part) old.view.core)) old.view.core new.view.core
  hand_core =
      comes_then 3 (one_if w) old.view.core (with_note j (note.Valid Strong part) old.view.core)
      (freed w (with_note j (note.Valid Strong part) old.view.core)) mid.view.core new.view.core
      core (
        left.0,
        left.1
            ∙ (ap (λ (u : CoreView). record (freed w u) { trail = mid.view.core.trail ++ left.0 })
            core.1
            ∙ freed_trail w (with_note j (note.Valid Strong part) old.view.core)
            (old.view.core.trail ++ core.0) (mid.view.core.trail ++ left.0)),
        left.2,
      )

  pub hand_knows : KnowsStill old.view.core old mid → KnowsStill (freed w old.view.core) old new
  hand_knows knows x has =
      knows_left x
      (keeps_has old.view.core four w s held j free.1 free.2 part mid.view.core 3 core x
      has)
      ∙ knows x (freed_has old.view.core four w s x held has)

  pub hand_reads : new.view.client ≡ mid.view.client → ReadsOn seen part old mid
      → ReadsOn seen part old new
  hand_reads client reads =
      let same = knows_left part
      (takes_has old.view.core four w s held j free.1 free.2 part mid.view.core 3 core) in record {
        ran = ap (λ v. (seen v).ran) client
            ∙ (reads.ran
            ∙ ap (λ (o : Object).
            reads_on (last_run seen old) part o ∷ (seen old.view.client).ran) (sym same));
        rest = reads.rest;
        goes_on = subst (λ (o : Object).
            IsText (((last_run seen old).before ++ o.payload ∷ []) ++ reads.rest)) (sym same)
            reads.goes_on;
      }
