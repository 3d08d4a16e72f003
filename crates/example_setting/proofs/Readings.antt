-- What a snapshot with the deed ReadValue leaves of a seat.
use Rattle.std.proofs.Common.{◌≡◌, inl, inr, ℕ, suc, zero, ◌<◌, ◌+◌, List, ◌++◌, length, refl, sym, ap, subst, ◌∙◌, arith, Option, Some, None}
use Rattle.std.specs.Prelude.{Err, IfOk, Ok, Result, if◌then◌else◌}
use Rattle.cdrc.specs.plain_state.declared.act.EventPlace.{EventPlace}
use Rattle.cdrc.specs.plain_state.declared.act.EventPlace.TheVariants.{Cell}
use Rattle.cdrc.specs.plain_state.declared.act.PlainAct.{PlainAct}
use Rattle.cdrc.specs.plain_state.declared.act.PlainAct.TheVariants as plain
use Rattle.cdrc.specs.plain_state.declared.slot.SlotId.{SlotId}
use Rattle.cdrc.specs.plain_state.State.{Plain}
use Rattle.cdrc.specs.plain_state.Steps.{word_of}
use Rattle.cdrc.specs.plain_protocol.Owns.{HasSlot, OwnPart}
use Rattle.cdrc.specs.core_events.declared.act.Act.TheVariants as act
use Rattle.cdrc.specs.core_events.declared.outcome.Outcome.TheVariants as outcome
use Rattle.cdrc.specs.core_events.Shows.{show_seat}
use Rattle.cdrc.specs.core_events.Words.{slot_in}
use Rattle.cdrc.proofs.Below.core_law_ShownPlaces.{word_slot}
use Rattle.cdrc.specs.counted_handles.declared.refusal.LoadError.{LoadError}
use Rattle.cdrc.specs.counted_handles.declared.refusal.LoadError.TheVariants as refused
use Rattle.cdrc.specs.domain_rule.Views.{object_in, own_of}
use Rattle.cdrc.specs.acquire_retire.Calls.{Steps}
use Rattle.cdrc.specs.acquire_retire.Domains.{DomainState}
use Rattle.cdrc.specs.acquire_retire.Notes.{least_free}
use Rattle.cdrc.specs.acquire_retire.Seats.{SeatState}
use Rattle.cdrc.specs.control_word.Resting.{IsAtRest}
use Rattle.cdrc.specs.protected_loads.Loads.{Misses, Protects}
use Rattle.cdrc.proofs.Below.protected_loads_Checking.{valid_word}
use Rattle.cdrc.proofs.Below.protected_loads_Learning.{client_found, client_null, has_found, known_found}
use Rattle.cdrc.proofs.Below.protected_loads_Protecting.{holds_snapshot}
use Rattle.cdrc.proofs.Below.protected_loads_Telling.{four_notes, holds_has}
use Rattle.cdrc.specs.snapshot_ptr.Handles.{Snap, slot_under}
use Rattle.cdrc.specs.snapshot_ptr.Taking.{IsReadyToTake, Takes, word_taken}
use Rattle.cdrc.proofs.Below.snapshot_ptr_Taken.{IsFreeIfThere, least_is_there}
use Rattle.cdrc.proofs.Below.snapshot_ptr_Under.{IsFreeWord}
use Rattle.example_setting.specs.Views.{View}
use Rattle.example_setting.specs.Calls.{Reads, TakesFrom, read_too}
use Rattle.example_setting.specs.Deeds.{ReadReady, ReadTells, read_next, value_of}

-- THE DEED is ready
pub ready : {P : Type 0} (kind : List ℕ → Type 0) (d : DomainState P) (cell i : ℕ) → i ≡ cell
    → (old : SeatState View) → IsReadyToTake kind d (Cell i) (ReadReady cell) old
ready kind d cell i is old = record {
  look = λ w. inl (ap (λ (k : ℕ). plain.Look (Cell k)) is);
  check = λ s mid announces w.
      let j = word_taken (least_free old.view.core) in
      inr (j, ap (λ (k : ℕ). plain.Check j (Cell k)) is);
}

-- whatever was found, it stored nothing
stored_same : (own after : OwnPart) (v : View) (a : PlainAct) (w : ℕ)
    → (read_next own after v a w).stored ≡ v.stored
stored_same own after v a zero = refl
stored_same own after v a (suc s) = refl

-- where the seat has the slot after the check, it has read the value of the object
reads_found : (own : OwnPart) (v : View) (a : PlainAct) (checked : SeatState View) (s : SlotId)
    → HasSlot (show_seat checked.view.core) s
    → read_next own (own_of checked.view) v a (suc s.0)
    ≡ read_too (object_in checked.view s).payload v
reads_found own v a checked s has =
    ap (λ b. record v {
      read =
          v.read ++ value_of (if b then Some (object_in checked.view s) else None);
    }) has

module _ {P : Type 0} (kind : List ℕ → Type 0) (d : DomainState P) (place : EventPlace)
    (allows : Plain → Plain → ℕ → View → View → Type 0) (old : SeatState View)
    (rest : IsAtRest d old) (new : SeatState View) where
  -- by the slot that was found
  abbrev ReadsSlot : Option SlotId → Type 0
  ReadsSlot None = new.view.client ≡ old.view.client
  ReadsSlot (Some s) =
      new.view.client ≡ read_too (object_in new.view s).payload old.view.client

  -- a view that read the object as it was at the check has read it as it is
  reads_as : (s : SlotId) (mid checked : SeatState View)
      → new.view.client ≡ read_too (object_in checked.view s).payload mid.view.client
      → mid.view.client ≡ old.view.client
      → object_in new.view s ≡ object_in checked.view s → ReadsSlot (Some s)
  reads_as s mid checked is client object =
      is ∙ ap (read_too (object_in checked.view s).payload) client
      ∙ ap (λ o. read_too o.payload old.view.client) (sym object)

  protected_reads : (j : ℕ) → IsFreeWord j old.view.core → (s : SlotId)
      → Protects kind d j place read_next allows s old new → ReadsSlot (Some s)
  protected_reads j free s p =
      reads_as s p.mid checked (ap (λ (z : SeatState View). z.view.client) same
      ∙ step.told.client
      ∙ ap (read_next (own_of p.mid.view) (own_of checked.view) p.mid.view.client
      (plain.Check j place)) number
      ∙ reads_found (own_of p.mid.view) p.mid.view.client (plain.Check j place) checked s has)
      p.announces.client (ap (λ (z : SeatState View). object_in z.view s) same)
    where
      checked : SeatState View
      checked = p.checks.walks.0

      same : new ≡ checked
      same = p.checks.walks.2

      step : Steps kind d read_next allows (act.Check j place) p.mid checked outcome.Valid
      step = p.checks.walks.1

      there : j < length old.view.core.notes
      there = let four = four_notes p.announces.becomes.walks.1.told in
          let small = free.1 in omega arith

      word : slot_in step.word ≡ Some s
      word = valid_word d place j free.1 s old p.mid rest free.2 p.announces checked step

      number : step.word ≡ suc s.0
      number = let e : s.0 + 1 ≡ step.word = ap word_of (sym word) ∙ word_slot step.word in
          omega arith

      has : HasSlot (show_seat checked.view.core) s
      has = subst (λ (z : SeatState View). HasSlot (show_seat z.view.core) s) same
          (holds_has new.view.core s
          (holds_snapshot place j s old.view.core there free.2 new _ p.core))

  takes : (word : Option ℕ) → IsFreeIfThere word old.view.core → (found : Option SlotId)
      → Takes kind d place read_next allows word found old new → ReadsSlot found
  takes None free None null = client_null d place old new null
  takes None free (Some s) r =
      reads_as s r.protects.mid r.protects.checks.walks.0
      (client_found d place old new s rest r
      ∙ reads_found (own_of r.protects.mid.view) r.protects.mid.view.client (plain.Check 0 place)
      r.protects.checks.walks.0 s (has_found d place old new s rest r))
      r.protects.announces.client (known_found d place old new s rest r)
  takes (Some j) free None null = client_null d place old new null
  takes (Some j) free (Some s) p = protected_reads j free s p

  reads : (found : Option Snap)
      → Takes kind d place read_next allows (least_free old.view.core) (slot_under found) old new
      → Reads found old.view.client new
  reads found t = go found
      (takes (least_free old.view.core) (least_is_there old.view.core _ refl) (slot_under found) t)
    where
      go : (found : Option Snap) → ReadsSlot (slot_under found) → Reads found old.view.client new
      go None is = is
      go (Some snap) is = is

  pub all_reads : (r : Result (Option Snap) LoadError)
      → IfOk r (λ found.
      Takes kind d place read_next allows (least_free old.view.core) (slot_under found) old new)
      → IfOk r (λ found. Reads found old.view.client new)
  all_reads (Ok found) taken = reads found taken
  all_reads (Err e) taken = tt

  moved_stored : (j : ℕ) (seen now : Option SlotId)
      → Misses kind d j place read_next allows seen now old new
      → new.view.client.stored ≡ old.view.client.stored
  moved_stored j seen now m =
      ap (λ (v : View). v.stored)
      (m.client ∙ ap (λ (z : SeatState View). z.view.client) m.checks.walks.2
      ∙ m.checks.walks.1.told.client)
      ∙ stored_same (own_of m.mid.view) (own_of m.checks.walks.0.view) m.mid.view.client
      (plain.Check j place) m.checks.walks.1.word
      ∙ ap (λ (v : View). v.stored) m.announces.client

  -- whatever it answers, it stored nothing
  pub stored_still : (r : Result (Option Snap) LoadError) → (r ≡ Err refused.Spent → new ≡ old)
      → IfOk r (λ found.
      Takes kind d place read_next allows (least_free old.view.core) (slot_under found) old new)
      → ((seen now : ℕ) → r ≡ Err (refused.Moved seen now)
      → Misses kind d (word_taken (least_free old.view.core)) place read_next allows (slot_in seen)
      (slot_in now) old new)
      → new.view.client.stored ≡ old.view.client.stored
  stored_still (Ok found) same taken moved = go found (reads found taken)
    where
      go : (found : Option Snap) → Reads found old.view.client new
          → new.view.client.stored ≡ old.view.client.stored
      go None is = ap (λ (v : View). v.stored) is
      go (Some snap) is = ap (λ (v : View). v.stored) is
  stored_still (Err refused.Spent) same taken moved =
      ap (λ (z : SeatState View). z.view.client.stored) (same refl)
  stored_still (Err (refused.Moved seen now)) same taken moved =
      moved_stored (word_taken (least_free old.view.core)) (slot_in seen) (slot_in now)
      (moved seen now refl)

-- the cell of the call is that of the setting
pub taken_from : {P : Type 0} (kind : List ℕ → Type 0) (d : DomainState P) (i cell : ℕ) → i ≡ cell
    → (old new : SeatState View) (r : Result (Option Snap) LoadError)
    → IfOk r (λ found.
    Takes kind d (Cell i) read_next (ReadTells cell) (least_free old.view.core) (slot_under found)
    old new)
    → IfOk r (λ found. TakesFrom kind d cell (slot_under found) old new)
taken_from kind d i cell is old new r taken =
    subst
    (λ (j : ℕ). IfOk r (λ found.
    Takes kind d (Cell j) read_next (ReadTells cell) (least_free old.view.core) (slot_under found)
    old new))
    is taken
