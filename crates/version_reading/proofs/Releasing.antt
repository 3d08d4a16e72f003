-- A word by which a slot is held stands for nothing again.
use Rattle.std.proofs.Common.{◌≡◌, ℕ, ◌<◌, length, refl, sym, subst, arith}
use Rattle.std.specs.Prelude.{IfSome, Option, Some, slice_set}
use Rattle.std.proofs.lemmas.Bool.Decides.{nat_tests}
use Rattle.map_law.specs.plain_state.declared.slot.Kind.TheVariants.{Strong, Weak, Disposal}
use Rattle.map_law.specs.plain_state.declared.slot.SlotId.{SlotId}
use Rattle.map_law.specs.plain_protocol.Owns.{HasSlot}
use Rattle.map_law.specs.declared.view.View.{View}
use Rattle.map_law.specs.Nodes.{IsNode}
use Rattle.map_protocol.specs.declared.law.MapLaw.{MapLaw}
use Rattle.protected_loads.specs.core_events.declared.act.Act.TheVariants as act
use Rattle.protected_loads.specs.core_events.declared.outcome.Outcome.{Outcome}
use Rattle.protected_loads.specs.core_events.declared.view.CoreView.{CoreView}
use Rattle.protected_loads.specs.core_events.declared.view.Note.TheVariants as stands
use Rattle.protected_loads.specs.core_events.Shows.{show_seat}
use Rattle.protected_loads.specs.core_events.Steps.{with_note}
use Rattle.protected_loads.specs.core_events.Views.{note_of, valid_of}
use Rattle.protected_loads.specs.acquire_retire.Calls.{IsSameView, Steps, same_view}
use Rattle.protected_loads.specs.acquire_retire.Domains.{DomainState}
use Rattle.protected_loads.specs.acquire_retire.Seats.{SeatState}
use Rattle.protected_loads.specs.control_word.Moves.{KnowsStill}
use Rattle.protected_loads.proofs.Below.control_word_Becoming.{knows_after}
use Rattle.protected_loads.proofs.Below.core_law_Losing.{valid_loses}
use Rattle.protected_loads.proofs.Below.plain_state_Kit.{entry_loses}
use Rattle.protected_loads.proofs.Noting.{release_keeps}
use Rattle.protected_loads.proofs.Telling.{four_notes}
use Rattle.version_reading.specs.Reading.{Reads, freed}
use Rattle.version_reading.proofs.Events.{one_read}
use Rattle.version_reading.proofs.Learning.{learns_as}

-- what a seat has without a snapshot it has with it
pub released_has : (v : CoreView) (j : ℕ) (s x : SlotId) → j < length v.notes
    → note_of v j ≡ stands.Valid Strong s
    → HasSlot (show_seat (with_note j stands.Idle v)) x → HasSlot (show_seat v) x
released_has v j s x there noted has =
    let less = valid_loses v.notes j Strong s there noted in
    let ns = valid_of v.notes in
    let ms = valid_of (slice_set v.notes j stands.Idle) in
    let a = entry_loses Strong x (Strong, s) ns ms less in
    let b = entry_loses Weak x (Strong, s) ns ms less in
    let c = entry_loses Disposal x (Strong, s) ns ms less in grind (arith, nat_tests)

module _ (d : DomainState MapLaw) (w : Option ℕ) (j : ℕ) (is : w ≡ Some j) (s : SlotId)
    (old new : SeatState View) (within : IfSome w (λ i. i < 4))
    (held : IfSome w (λ i. note_of old.view.core i ≡ stands.Valid Strong s))
    (o : Outcome) (release : Steps IsNode d same_view IsSameView (act.Release j) old new o) where
  small : j < 4
  small = subst (λ (x : Option ℕ). IfSome x (λ i. i < 4)) is within

  noted : note_of old.view.core j ≡ stands.Valid Strong s
  noted = subst (λ (x : Option ℕ).
      IfSome x (λ i. note_of old.view.core i ≡ stands.Valid Strong s)) is held

  release_reads : Reads (with_note j stands.Idle old.view.core) old new
  release_reads =
      one_read d (act.Release j) old new o (with_note j stands.Idle old.view.core) release refl refl
      tt (learns_as old.view.client new.view.client release.told.client)

  release_knows : KnowsStill (with_note j stands.Idle old.view.core) old new
  release_knows =
      let four = four_notes release.told in
      knows_after d (act.Release j) old new o (with_note j stands.Idle old.view.core) release
      (λ x has. released_has old.view.core j s x (omega (arith, four, small)) noted has)
      (λ w x it. release_keeps (note_of old.view.core j) x it)

  pub free_reads : Reads (freed w old.view.core) old new
  free_reads =
      subst (λ (x : Option ℕ). Reads (freed x old.view.core) old new) (sym is) release_reads

  pub free_knows : KnowsStill (freed w old.view.core) old new
  free_knows =
      subst (λ (x : Option ℕ). KnowsStill (freed x old.view.core) old new) (sym is) release_knows
