-- What a seat that is alone is told by a step that changes nothing.
use Rattle.std.proofs.Common.{◌≡◌, ⊎_elim, ℕ, ◌<◌, Bool, true, false, List, [], ◌∷◌, refl, ap, sym, ◌∙◌, subst, arith}
use Rattle.std.specs.Prelude.{◌==◌, slice_index, if◌then◌else◌}
use Rattle.protected_loads.specs.plain_state.declared.act.PlainAct.{PlainAct}
use Rattle.protected_loads.specs.plain_state.declared.act.PlainAct.TheVariants as plain
use Rattle.protected_loads.specs.plain_state.declared.slot.PlainSlot.{PlainSlot}
use Rattle.protected_loads.specs.plain_state.declared.slot.SlotId.{SlotId}
use Rattle.protected_loads.specs.plain_state.References.{strong_refs, weak_refs}
use Rattle.protected_loads.specs.plain_state.State.{Plain, slot_at}
use Rattle.protected_loads.specs.plain_state.Steps.{Does}
use Rattle.plain_settling.specs.plain_store.Settling.{IsSettled}
use Rattle.protected_loads.specs.plain_protocol.Owns.{OwnPart}
use Rattle.protected_loads.specs.counter_word.Words.{has_zero, value}
use Rattle.protected_loads.specs.core_events.declared.act.Act.TheVariants as act
use Rattle.protected_loads.specs.core_events.declared.outcome.Outcome.TheVariants as outcome
use Rattle.protected_loads.specs.core_events.declared.view.CoreView.{CoreView}
use Rattle.protected_loads.specs.core_events.declared.view.Phase.{Phase}
use Rattle.protected_loads.specs.core_events.declared.view.Phase.TheVariants as phase
use Rattle.protected_loads.specs.core_events.Counts.{strong}
use Rattle.protected_loads.specs.core_events.Runs.{Core}
use Rattle.protected_loads.specs.core_events.Shows.{shows}
use Rattle.protected_loads.specs.core_events.ShownSteps.{on_slot, shown_number}
use Rattle.protected_loads.specs.core_events.Steps.{HasRoom}
use Rattle.protected_loads.specs.core_events.Views.{Holds, slot_of}
use Rattle.protected_loads.proofs.Below.core_law_Bridge.{shown_slot}
use Rattle.protected_loads.proofs.Below.core_law_Held.{held_named}
use Rattle.protected_loads.proofs.Below.core_law_Steady.{named_in_range}
use Rattle.protected_loads.specs.acquire_retire.Collecting.{move}
use Rattle.protected_loads.specs.acquire_retire.Domains.{DomainState}
use Rattle.protected_loads.specs.acquire_retire.Seats.{SeatState}
use Rattle.protected_loads.specs.acquire_retire.Wholes.{known_core}
use Rattle.protected_loads.specs.acquire_retire.Calls.{IsSameView, same_view}
use Rattle.protected_loads.specs.control_word.Calls.{CountsStrong, CountsWeak, counted_by}
use Rattle.protected_loads.specs.control_word.Moves.{Becomes, last_core}
use Rattle.protected_loads.specs.control_word.Resting.{IsAtRest}
use Rattle.slot_store.specs.Calls.{SeesWord}
use Rattle.slot_store.proofs.Objects.{known_before}
use Rattle.lone_heap.specs.Lone.{IsReady, known_plain}
use Rattle.lone_heap.specs.Trails.{Shows}
use Rattle.lone_heap.proofs.Trailing.{becomes_shows}
use Rattle.lone_heap.proofs.Holding.{kept_of, knows_on, knows_ready, ready_still, walk_mine}
use Rattle.lone_heap.proofs.Stepping.{law_before, step_does}

again_zero : (w n : ℕ) → outcome.Again ≡ (if w == 0 then outcome.Again else outcome.Number n)
    → w ≡ 0
again_zero w n is = grind arith

-- an answer that asks for a second step found the word 0
again_so : (b : Bool) (n : ℕ) → outcome.Again ≡ (if b then outcome.Again else outcome.Number n)
    → b ≡ true
again_so true n is = refl
again_so false n is = absurd (cc (is))

zeroed : (b : Bool) (s : SlotId) (v : CoreView) → b ≡ true
    → (if b then record v { phase = phase.Zero s } else v).phase ≡ phase.Zero s
zeroed true s v is = refl
zeroed false s v is = absurd (cc (is))

-- where nothing more may go, no object is marked
marks_none : (p q : Plain) (m : ℕ) (s : SlotId) → IsSettled p → Does p 0 (plain.Mark s) m q → q ≡ p
marks_none p q m s settled does = ⊎_elim
    (λ same. same.0)
    (λ marks. let some = settled.ended s marks.0 in
    let none = marks.1 in absurd (omega arith))
    does.1.1

module _ {P V : Type 0} {fits : List ℕ → Type 0} (d : DomainState P) (s : SlotId)
    (old new : SeatState V) (ready : IsReady d old) where
  module _ (i n : ℕ) (sees : SeesWord fits d s i n old new) where
    pub sees_word : n ≡ slice_index (slot_at (known_plain d old) s).payload i
    sees_word =
        let step = sees.becomes.walks.1 in
        sym sees.word
        ∙ ap (λ (c : Core). slice_index (slot_at (shows d.shape c) s).payload i)
        (sym (known_before step.told ready.known))

    pub sees_there : Holds old.view.core s → s.0 < d.shape.slots
    sees_there holds =
        let by = sees.becomes.walks in
        named_in_range d.shape old.view.core.seat old.view.core s
        (law_before d (act.See s i) old by.0 _ by.1) (held_named s old.view.core holds)

    pub sees_same : known_plain d new ≡ known_plain d old
    sees_same =
        let by = sees.becomes.walks in
        ap (known_plain d) by.2
        ∙ (step_does d (act.See s i) old by.0 _ by.1 ready.alone.0 ready.known).1.3

    pub sees_ready : IsAtRest d new → (HasRoom old.view.core → HasRoom new.view.core)
        → IsReady d new
    sees_ready rest room =
        let on = walk_mine fits d same_view IsSameView (move (act.See s i) (outcome.Word n) ∷ []) old
        new (knows_ready d old ready) ready.mine sees.becomes.walks in
        ready_still d old new ready on.0 on.1 (ap kept_of sees.becomes.core) rest (room ready.room)

  module _ (n : ℕ) (counts : CountsWeak fits d s n old new) where
    pub weak_is : n ≡ weak_refs (known_plain d old) s
    weak_is =
        let step = counts.becomes.walks.1 in
        sym counts.count
        ∙ ap (λ (c : Core). weak_refs (shows d.shape c) s) (sym (known_before step.told ready.known))

    pub weak_same : known_plain d new ≡ known_plain d old
    weak_same =
        let by = counts.becomes.walks in
        ap (known_plain d) by.2
        ∙ (step_does d (act.Wcount s) old by.0 _ by.1 ready.alone.0 ready.known).1.2

    pub weak_ready : IsAtRest d new → (HasRoom old.view.core → HasRoom new.view.core)
        → IsReady d new
    weak_ready rest room =
        let on = walk_mine fits d same_view IsSameView (move (act.Wcount s) (outcome.Word n) ∷ []) old
        new (knows_ready d old ready) ready.mine counts.becomes.walks in
        ready_still d old new ready on.0 on.1 (ap kept_of counts.becomes.core) rest
        (room ready.room)

module _ {P V : Type 0} {fits : List ℕ → Type 0} (d : DomainState P)
    {next : OwnPart → OwnPart → V → PlainAct → ℕ → V}
    {allows : Plain → Plain → ℕ → V → V → Type 0} (s : SlotId) (n : ℕ)
    (old new : SeatState V) (ready : IsReady d old) where
  -- a slot that a seat holds is one of the domain's
  pub held_there : CountsStrong fits d next allows s n old new → Holds old.view.core s
      → s.0 < d.shape.slots
  held_there counts holds = of counts.again counts.becomes
    where
      of : (again : Bool)
          → Becomes fits d next allows (counted_by s n again) old.view.core old new
          → s.0 < d.shape.slots
      of false by =
          named_in_range d.shape old.view.core.seat old.view.core s
          (law_before d (act.Count s) old by.walks.0 _ by.walks.1)
          (held_named s old.view.core holds)
      of true by =
          named_in_range d.shape old.view.core.seat old.view.core s
          (law_before d (act.Count s) old by.walks.0 _ by.walks.1)
          (held_named s old.view.core holds)

  told_by : (again : Bool)
      → (by : Becomes fits d next allows (counted_by s n again) old.view.core old new)
      → strong_refs (shows d.shape (last_core by)) s ≡ n → IsSettled (known_plain d old)
      → (n ≡ strong_refs (known_plain d old) s) × (known_plain d new ≡ known_plain d old)
  told_by false by count settled =
      let step = by.walks.1 in
      let does = step_does d (act.Count s) old by.walks.0 _ step ready.alone.0 ready.known in (
        sym count
            ∙ ap (λ (c : Core). strong_refs (shows d.shape c) s)
            (sym (known_before step.told ready.known)),
        ap (known_plain d) by.walks.2 ∙ does.1.2,
      )
  told_by true by count settled =
      let mid = by.walks.0 in
      let step = by.walks.1 in
      let more = by.walks.2.1 in
      let later = by.walks.2.0 in
      let knows = knows_on d (act.Count s) old mid _ (knows_ready d old ready) step in
      let same = (step_does d (act.Count s) old mid _ step ready.alone.0 ready.known).1.2 in
      let zero : mid.view.core.phase ≡ phase.Zero s =
      ap (λ (v : CoreView). v.phase) step.told.core
      ∙ zeroed (step.word == 0) s old.view.core (again_so (step.word == 0) _ step.answers) in
      let does = subst (λ (x : Phase).
      Does (known_plain d mid) 0 (on_slot plain.Mark (slot_of x)) (shown_number act.Mark more.word)
      (known_plain d later)) zero
      (step_does d act.Mark mid later _ more knows.root knows.known) in
      let stays = marks_none (known_plain d mid) (known_plain d later) _ s
      (subst IsSettled (sym same) settled) does in (
        sym count
            ∙ ap (λ (c : Core). strong_refs (shows d.shape c) s)
            (sym (known_before more.told knows.known))
            ∙ ap (λ (p : Plain). strong_refs p s) same,
        ap (known_plain d) by.walks.2.2 ∙ stays ∙ same,
      )

  pub strong_told : IsSettled (known_plain d old) → CountsStrong fits d next allows s n old new
      → (n ≡ strong_refs (known_plain d old) s) × (known_plain d new ≡ known_plain d old)
  strong_told settled counts = told_by counts.again counts.becomes counts.count settled

  pub strong_ready : CountsStrong fits d next allows s n old new → IsAtRest d new
      → (HasRoom old.view.core → HasRoom new.view.core) → IsReady d new
  strong_ready counts rest room =
      let on = walk_mine fits d next allows (counted_by s n counts.again) old new
      (knows_ready d old ready) ready.mine counts.becomes.walks in
      ready_still d old new ready on.0 on.1 (ap kept_of counts.becomes.core) rest (room ready.room)

-- what a mark finds where nothing more may go, and the object has no zero mark
no_mark : (p q : Plain) (m : ℕ) (s : SlotId) → IsSettled p → (slot_at p s).marked ≡ false
    → strong_refs p s ≡ 0 → Does p 0 (plain.Mark s) m q → ⊥
no_mark p q m s settled unmarked none does = ⊎_elim
    (λ same. absurd (cc (sym unmarked ∙ same.1 (does.1.0 ∙ none))))
    (λ marks. let some = settled.ended s marks.0 in absurd (omega arith))
    does.1.1

module _ {P V : Type 0} {fits : List ℕ → Type 0} (d : DomainState P)
    {next : OwnPart → OwnPart → V → PlainAct → ℕ → V}
    {allows : Plain → Plain → ℕ → V → V → Type 0} (s : SlotId) (n : ℕ)
    (old new : SeatState V) (ready : IsReady d old) (settled : IsSettled (known_plain d old))
    (there : s.0 < d.shape.slots) where
  -- so a count of its references asks for no second step
  never_again : Becomes fits d next allows (counted_by s n true) old.view.core old new → ⊥
  never_again by =
      let mid = by.walks.0 in
      let step = by.walks.1 in
      let more = by.walks.2.1 in
      let later = by.walks.2.0 in
      let knows = knows_on d (act.Count s) old mid _ (knows_ready d old ready) step in
      let count = step_does d (act.Count s) old mid _ step ready.alone.0 ready.known in
      let is = again_zero step.word _ step.answers in
      let none : strong_refs (known_plain d old) s ≡ 0 = sym count.1.1 ∙ ap value is in
      let word : strong d.shape (known_core old.view) s ≡ 0 =
      ap (λ (c : Core). strong d.shape c s) (known_before step.told ready.known)
      ∙ sym step.told.happened.found ∙ is in
      let unmarked : (slot_at (known_plain d old) s).marked ≡ false =
      ap (λ (x : PlainSlot). x.marked) (shown_slot d.shape (known_core old.view) s there)
      ∙ ap has_zero word in
      let zero' : mid.view.core.phase ≡ phase.Zero s =
      ap (λ (v : CoreView). v.phase) step.told.core
      ∙ zeroed (step.word == 0) s old.view.core (again_so (step.word == 0) _ step.answers) in
      let does = subst (λ (x : Phase × Plain).
      Does x.1 0 (on_slot plain.Mark (slot_of x.0)) (shown_number act.Mark more.word)
      (known_plain d later)) (λ i. (zero' i, count.1.2 i))
      (step_does d act.Mark mid later _ more knows.root knows.known) in
      no_mark (known_plain d old) (known_plain d later) _ s settled unmarked none does

  pub strong_shows : CountsStrong fits d next allows s n old new
      → Shows (move (act.Count s) (outcome.Number n) ∷ []) old.view.core new.view.core
  strong_shows counts = of counts.again counts.becomes
    where
      of : (again : Bool)
          → Becomes fits d next allows (counted_by s n again) old.view.core old new
          → Shows (move (act.Count s) (outcome.Number n) ∷ []) old.view.core new.view.core
      of false by = becomes_shows d old new by
      of true by = absurd (never_again by)
