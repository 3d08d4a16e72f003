-- A seat that was at rest and has protected a slot by its first word: what it has, and that it may
-- ask.
use Rattle.std.proofs.Common.{◌≡◌, ℕ, ◌<◌, List, [], ◌∷◌, length, ap, sym, ◌∙◌, subst, arith}
use Rattle.std.specs.Prelude.{Option, Some, None}
use Rattle.std.proofs.lemmas.List.{set_comm}
use Rattle.protected_loads.specs.plain_state.declared.act.EventPlace.{EventPlace}
use Rattle.protected_loads.specs.plain_state.declared.act.PlainAct.{PlainAct}
use Rattle.protected_loads.specs.plain_state.declared.slot.Kind.{Kind}
use Rattle.protected_loads.specs.plain_state.declared.slot.Kind.TheVariants.{Weak, Disposal}
use Rattle.protected_loads.specs.plain_state.declared.slot.SlotId.{SlotId}
use Rattle.protected_loads.specs.plain_state.Places.{place_kind}
use Rattle.protected_loads.specs.plain_protocol.Owns.{HasSlot, OwnPart}
use Rattle.protected_loads.specs.core_events.declared.act.Act.TheVariants as act
use Rattle.protected_loads.specs.core_events.declared.outcome.Outcome.TheVariants as outcome
use Rattle.protected_loads.specs.core_events.declared.view.CoreView.{CoreView}
use Rattle.protected_loads.specs.core_events.declared.view.Note.{Note}
use Rattle.protected_loads.specs.core_events.declared.view.Note.TheVariants as note
use Rattle.protected_loads.specs.core_events.Shows.{show_seat}
use Rattle.protected_loads.specs.core_events.Steps.{with_note}
use Rattle.protected_loads.specs.core_events.Views.{note_of}
use Rattle.protected_loads.proofs.Below.core_law_Steady.{noted_in_range}
use Rattle.protected_loads.specs.acquire_retire.Calls.{IsSameView, same_view}
use Rattle.protected_loads.specs.acquire_retire.Collecting.{move}
use Rattle.protected_loads.specs.acquire_retire.Domains.{DomainState}
use Rattle.protected_loads.specs.acquire_retire.Notes.{least_free}
use Rattle.protected_loads.specs.acquire_retire.Seats.{SeatState}
use Rattle.protected_loads.specs.control_word.Calls.{with_add, with_strong}
use Rattle.protected_loads.specs.control_word.Moves.{KnowsStill}
use Rattle.protected_loads.specs.control_word.Resting.{IsAtRest}
use Rattle.protected_loads.proofs.Below.control_word_Becoming.{bare, walks_table}
use Rattle.protected_loads.specs.Loads.{Protects, announced_by, with_snapshot}
use Rattle.protected_loads.proofs.Noting.{beside, second_stays, written, written_back}
use Rattle.protected_loads.proofs.Referring.{idle_protected}
use Rattle.protected_loads.proofs.Telling.{four_notes, holds_has}
use Rattle.atomic_weak.specs.Questions.{CanAsk, CanUse, IsReadyFor, with_guarded, with_none, without_first}
use Rattle.atomic_weak.specs.Taking.{IsReadyToAsk, ProtectsWeakly}
use Rattle.atomic_weak.proofs.Noted.{has_protected, holds_weak}

-- it was at rest, and has protected s, which a weak place held
pub record Protected {P V : Type 0} (fits : List ℕ → Type 0) (d : DomainState P)
    (place : EventPlace) (s : SlotId) (old mid : SeatState V) : Type 0 where
  pub rest : IsAtRest d old
  pub weak : place_kind place ≡ Weak
  pub by : Protects fits d 0 place same_view IsSameView s old mid
  pub knows : KnowsStill old.view.core old mid

module _ {P V : Type 0} {fits : List ℕ → Type 0} {d : DomainState P} {place : EventPlace}
    {s : SlotId} {old mid : SeatState V} (p : Protected fits d place s old mid) where
  pub four : length old.view.core.notes ≡ 4
  four = four_notes p.by.announces.becomes.walks.1.told

  there : 0 < length old.view.core.notes
  there = let is = four in omega arith

  first : note_of mid.view.core 0 ≡ note.Valid Weak s
  first =
      ap (λ (v : CoreView). note_of v 0) p.by.core
      ∙ written old.view.core 0 there (note.Valid (place_kind place) s)
      ∙ ap (λ (k : Kind). note.Valid k s) p.weak

  in_range : s.0 < d.shape.slots
  in_range =
      noted_in_range d.shape p.by.mid.view.core.seat p.by.checks.walks.0.view.core 0 Weak s
      p.by.checks.walks.1.told.law (omega arith)
      (ap (λ (x : SeatState V). note_of x.view.core 0) (sym p.by.checks.walks.2) ∙ first)

  pub table_protected : mid.table ≡ old.table
  table_protected =
      walks_table fits d same_view IsSameView (move (act.Check 0 place) outcome.Valid ∷ [])
      p.by.mid mid p.by.checks.walks
      ∙ walks_table fits d same_view IsSameView (announced_by 0 place s) old p.by.mid
      p.by.announces.becomes.walks

  abbrev pub protects : ProtectsWeakly fits d place s old mid
  protects = record {
    by = p.by;
    client =
        ap (λ (x : SeatState V). x.view.client) p.by.checks.walks.2
        ∙ p.by.checks.walks.1.told.client ∙ p.by.announces.client;
  }

  can_use : (word : Option ℕ) → CanUse word old.view.core → CanUse word mid.view.core
  can_use None add = subst (CanUse None) (sym p.by.core) add
  can_use (Some j) free = (
    free.0,
    free.1,
    ap (λ (v : CoreView). note_of v j) p.by.core
        ∙ beside old.view.core 0 there (note.Valid (place_kind place) s) j
        (λ (e : j ≡ 0). let less = free.0 in absurd (omega arith))
        ∙ free.2,
  )

  pub can_ask : (word : Option ℕ) → CanUse word old.view.core → CanAsk d.shape word s mid.view.core
  can_ask word free = record {
    idle = idle_protected d place s old mid p.rest p.by;
    there = in_range;
    first = first;
    means = can_use word free;
  }

  -- a deed that is ready for whatever was protected is ready to ask about it
  pub ready_for : (ready : OwnPart → V → PlainAct → Type 0) (word : Option ℕ)
      → word ≡ least_free old.view.core → IsReadyToAsk fits d place ready old
      → IsReadyFor fits d word s ready mid
  ready_for ready word is deed =
      subst (λ (w : Option ℕ). IsReadyFor fits d w s ready mid) (sym is) (deed.ask s mid protects)

  -- what it had it has, and s besides; without the snapshot of its first word it has what it had
  pub has_still : (x : SlotId) → HasSlot (show_seat old.view.core) x
      → HasSlot (show_seat mid.view.core) x
  has_still x has =
      subst (λ (v : CoreView). HasSlot (show_seat v) x) (sym p.by.core)
      (has_protected old.view.core 0 there p.rest.first (place_kind place) s x has)

  pub has_first : HasSlot (show_seat mid.view.core) s
  has_first = holds_has mid.view.core s (holds_weak mid.view.core 0 s first)

  back : without_first (with_snapshot 0 place s old.view.core) ≡ old.view.core
  back =
      second_stays old.view.core 0 (note.Valid (place_kind place) s) note.Idle
      ∙ written_back old.view.core 0 note.Idle p.rest.first

  pub has_without : (x : SlotId) → HasSlot (show_seat old.view.core) x
      → HasSlot (show_seat (without_first mid.view.core)) x
  has_without x has =
      subst (λ (v : CoreView). HasSlot (show_seat (without_first v)) x) (sym p.by.core)
      (subst (λ (v : CoreView). HasSlot (show_seat v) x) (sym back) has)

  -- so what it has after an answer is told by what it had
  pub after_alive : (word : Option ℕ) → CanUse word old.view.core
      → bare (without_first (with_guarded word s mid.view.core))
      ≡ bare (with_guarded word s old.view.core)
  after_alive None free =
      ap (λ (v : CoreView). bare (without_first (with_strong s v))) p.by.core
      ∙ ap (λ (v : CoreView). bare (with_strong s v)) back
  after_alive (Some j) free =
      ap (λ (v : CoreView). bare (without_first (with_note j (note.Valid Disposal s) v))) p.by.core
      ∙ ap (λ (ns : List Note). bare (record old.view.core { notes = ns }))
      (set_comm (with_snapshot 0 place s old.view.core).notes j 0 (note.Valid Disposal s) note.Idle
      (λ (e : j ≡ 0). let less = free.0 in absurd (omega arith)))
      ∙ ap (λ (v : CoreView). bare (with_note j (note.Valid Disposal s) v)) back

  pub after_none : (word : Option ℕ)
      → bare (without_first (with_none word mid.view.core)) ≡ bare (with_none word old.view.core)
  after_none None =
      ap (λ (v : CoreView). bare (without_first (with_add v))) p.by.core
      ∙ ap (λ (v : CoreView). bare (with_add v)) back
  after_none (Some j) =
      ap (λ (v : CoreView). bare (without_first v)) p.by.core ∙ ap bare back
