-- How a seat that is alone keeps a snapshot by a reference, and ends one.
use Rattle.std.proofs.Common.{◌≡◌, ℕ, ◌<◌, List, [], ◌∷◌, refl, ap, sym, ◌∙◌, subst, arith}
use Rattle.std.specs.Prelude.{Option, Some, None, slice_set}
use Rattle.protected_loads.specs.plain_state.declared.act.PlainAct.TheVariants as plain
use Rattle.protected_loads.specs.plain_state.declared.slot.Kind.TheVariants.{Strong, Disposal}
use Rattle.protected_loads.specs.plain_state.declared.slot.SlotId.{SlotId}
use Rattle.protected_loads.specs.plain_state.Lists.{entry_times}
use Rattle.protected_loads.specs.plain_state.Places.{HoldsStrongly}
use Rattle.protected_loads.specs.plain_state.State.{PlainSeat, seat_at}
use Rattle.protected_loads.specs.plain_state.Steps.{Does}
use Rattle.protected_loads.proofs.Below.plain_state_Kit.{entry_cons, entry_none}
use Rattle.plain_settling.specs.plain_store.Calls.{Gains}
use Rattle.protected_loads.specs.core_events.declared.act.Act.TheVariants as act
use Rattle.protected_loads.specs.core_events.declared.outcome.Outcome.{Outcome}
use Rattle.protected_loads.specs.core_events.declared.outcome.Outcome.TheVariants as outcome
use Rattle.protected_loads.specs.core_events.declared.view.CoreView.{CoreView}
use Rattle.protected_loads.specs.core_events.declared.view.Note.{Note}
use Rattle.protected_loads.specs.core_events.declared.view.Note.TheVariants as note
use Rattle.protected_loads.specs.core_events.ShownSteps.{releases}
use Rattle.protected_loads.specs.core_events.Steps.{HasRoom}
use Rattle.protected_loads.specs.core_events.Views.{note_of, valid_of}
use Rattle.protected_loads.specs.acquire_retire.Calls.{IsSameView, Steps, same_view}
use Rattle.protected_loads.specs.acquire_retire.Collecting.{move}
use Rattle.protected_loads.specs.acquire_retire.Domains.{DomainState}
use Rattle.protected_loads.specs.acquire_retire.Seats.{SeatState}
use Rattle.protected_loads.specs.control_word.Calls.{GainsStrong}
use Rattle.protected_loads.specs.control_word.Resting.{IsAtRest}
use Rattle.protected_loads.proofs.Below.control_word_Gaining.{counted, up}
use Rattle.snapshot_ptr.proofs.Released.{released}
use Rattle.lone_heap.specs.declared.words.Words.{Words}
use Rattle.lone_heap.specs.Lone.{IsReady, known_plain}
use Rattle.lone_heap.specs.Words.{note_for, notes_for}
use Rattle.lone_heap.proofs.Holding.{knows_ready, ready_noted, walk_mine}
use Rattle.lone_heap.proofs.Owning.{gains_ready, gains_shown}
use Rattle.lone_heap.proofs.Stepping.{step_does}

-- no word protects a weak snapshot
no_disposal : (o : Option SlotId) (ns : List Note) (x : SlotId)
    → entry_times Disposal x (valid_of (note_for o ∷ ns)) ≡ entry_times Disposal x (valid_of ns)
no_disposal None ns x = refl
no_disposal (Some s) ns x =
    let all = entry_cons Disposal x (Strong, s) (valid_of ns) in omega arith

pub words_dispose_none : (w : Words) (x : SlotId)
    → entry_times Disposal x (valid_of (notes_for w)) ≡ 0
words_dispose_none w x =
    let a = no_disposal w.first (note_for w.second ∷ note_for w.third ∷ []) x in
    let b = no_disposal w.second (note_for w.third ∷ []) x in
    let c = no_disposal w.third [] x in
    let none = entry_none Disposal x in omega arith

module _ {P V : Type 0} {fits : List ℕ → Type 0} (d : DomainState P) (s : SlotId)
    (old new : SeatState V) (ready : IsReady d old) (o : Outcome)
    (step : Steps fits d same_view IsSameView (act.Add s) old new o)
    (held : HoldsStrongly (seat_at (known_plain d old) 0) s) where
  strongly : HoldsStrongly (seat_at (known_plain d old) 0) s → o ≡ outcome.Up
  strongly holds =
      up d old new s s refl o step ready.rest
      (subst (λ (v : PlainSeat). HoldsStrongly v s) ready.mine holds)

  gains : GainsStrong fits d same_view IsSameView s old new × IsAtRest d new
  gains =
      let all = counted d old new s s refl o step ready.rest (strongly held) in (all.0, all.2)

  room : HasRoom old.view.core → HasRoom new.view.core
  room has = subst HasRoom (sym gains.0.core) has

  pub keep_shown : (h : SlotId) → h ≡ s → Gains (known_plain d old) s h (known_plain d new)
  keep_shown h is = gains_shown d s old new ready gains.1 room h is gains.0

  pub keep_ready : IsReady d new
  keep_ready = gains_ready d s old new ready gains.1 room gains.0

module _ {P V : Type 0} {fits : List ℕ → Type 0} (d : DomainState P) (s : SlotId) (j : ℕ)
    (old new : SeatState V) (ready : IsReady d old) (o : Outcome)
    (step : Steps fits d same_view IsSameView (act.Release j) old new o)
    (some : 0 < j) (few : j < 4) (noted : note_of old.view.core j ≡ note.Valid Strong s) where
  pub end_shown : Does (known_plain d old) 0 (plain.EndSnapshot Strong s) 0 (known_plain d new)
  end_shown =
      subst (λ (n : Note). Does (known_plain d old) 0 (releases n) 0 (known_plain d new)) noted
      (step_does d (act.Release j) old new o step ready.alone.0 ready.known)

  pub released_notes : new.view.core.notes ≡ slice_set old.view.core.notes j note.Idle
  released_notes =
      ap (λ (v : CoreView). v.notes)
      (released d old j s ready.rest (some, few, noted) new o step).0.core

  pub end_ready : (w : Words) → new.view.core.notes ≡ notes_for w → IsReady d new
  end_ready w is =
      let all = released d old j s ready.rest (some, few, noted) new o step in
      let on = walk_mine fits d same_view IsSameView (move (act.Release j) outcome.Plain ∷ []) old new
      (knows_ready d old ready) ready.mine all.0.walks in
      ready_noted d old new ready on.0 on.1 (ap (λ (v : CoreView). v.left_seats) all.0.core)
      (ap (λ (v : CoreView). v.shape) all.0.core) all.3
      (subst HasRoom (sym all.0.core) ready.room)
      (λ x. ap (λ (ns : List Note). entry_times Disposal x (valid_of ns)) is
      ∙ words_dispose_none w x)
