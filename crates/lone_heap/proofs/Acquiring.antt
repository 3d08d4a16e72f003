-- What a seat that is alone finds in a place, and what it is under then.
use Rattle.std.proofs.Common.{◌≡◌, ℕ, ◌<◌, ◌+◌, List, [], ◌∷◌, length, refl, ap, sym, ◌∙◌, subst, arith}
use Rattle.std.specs.Prelude.{Option, Some, None, Result, Ok, IfNone, IfSome, slice_set}
use Rattle.protected_loads.specs.plain_state.declared.act.EventPlace.{EventPlace}
use Rattle.protected_loads.specs.plain_state.declared.act.PlainAct.{PlainAct}
use Rattle.protected_loads.specs.plain_state.declared.act.PlainAct.TheVariants as plain
use Rattle.protected_loads.specs.plain_state.declared.slot.Kind.{Kind}
use Rattle.protected_loads.specs.plain_state.declared.slot.Kind.TheVariants.{Strong, Disposal}
use Rattle.protected_loads.specs.plain_state.declared.slot.SlotId.{SlotId}
use Rattle.protected_loads.specs.plain_state.Lists.{Entry, Gains, entry_times}
use Rattle.protected_loads.proofs.Below.plain_state_Kit.{entry_in, entry_loses}
use Rattle.protected_loads.specs.plain_state.Places.{content, place_kind}
use Rattle.protected_loads.specs.plain_state.State.{Plain, PlainSeat, seat_at, with_seat}
use Rattle.protected_loads.specs.plain_state.Steps.{Does, word_of}
use Rattle.plain_settling.specs.Snapshots.{FindsNone, IsProtected}
use Rattle.protected_loads.specs.plain_protocol.Owns.{OwnPart}
use Rattle.protected_loads.specs.core_events.declared.act.Act.TheVariants as act
use Rattle.protected_loads.specs.core_events.declared.outcome.Outcome.TheVariants as outcome
use Rattle.protected_loads.specs.core_events.declared.view.CoreView.{CoreView}
use Rattle.protected_loads.specs.core_events.declared.view.Note.TheVariants as note
use Rattle.protected_loads.specs.core_events.Runs.{Core}
use Rattle.protected_loads.specs.core_events.Shows.{show_seat, shows}
use Rattle.protected_loads.specs.core_events.Steps.{HasRoom}
use Rattle.protected_loads.specs.core_events.Views.{note_of, valid_of}
use Rattle.protected_loads.specs.acquire_retire.Calls.{IsSameView, same_view}
use Rattle.protected_loads.specs.acquire_retire.Collecting.{move}
use Rattle.protected_loads.specs.acquire_retire.Domains.{DomainState}
use Rattle.protected_loads.specs.acquire_retire.Seats.{SeatState}
use Rattle.protected_loads.specs.control_word.Resting.{IsAtRest}
use Rattle.protected_loads.specs.Loads.{Announces, FindsNull, Misses, Protects, announced_by, protected_by}
use Rattle.protected_loads.proofs.Noting.{snapshot_gains}
use Rattle.slot_store.proofs.Objects.{known_before}
use Rattle.lone_heap.specs.Lone.{IsReady, known_plain}
use Rattle.lone_heap.specs.Trails.{Shows}
use Rattle.lone_heap.proofs.Holding.{IsMine, kept_of, knows_on, knows_ready, ready_noted, ready_still, walk_mine}
use Rattle.lone_heap.proofs.Stepping.{law_before, step_does}
use Rattle.lone_heap.proofs.Tidying.{Knows}
use Rattle.lone_heap.proofs.Trailing.{becomes_goes, shows_all, shows_less}
use Rattle.lone_heap.proofs.Writing.{check_writes}

module _ {P V : Type 0} {fits : List ℕ → Type 0} (d : DomainState P) (place : EventPlace)
    (old : SeatState V) (ready : IsReady d old) where
  -- what was announced
  module _ (j : ℕ) (s : SlotId) (mid : SeatState V) (announces : Announces fits d j place s old mid)
    where
      pub seen_here : content (known_plain d old) place ≡ Some s
      seen_here =
          let by = announces.becomes.walks in
          ap (λ (c : Core). content (shows d.shape c) place) (known_before by.1.told ready.known)
          ∙ announces.seen

      pub announced_knows : Knows mid × IsMine d mid
      announced_knows =
          walk_mine fits d same_view IsSameView (announced_by j place s) old mid
          (knows_ready d old ready) ready.mine
          announces.becomes.walks

      pub announced_same : known_plain d mid ≡ known_plain d old
      announced_same =
          let by = announces.becomes.walks in
          let first = by.0 in
          let on = knows_on d (act.Look place) old first _ (knows_ready d old ready) by.1 in
          let looks = step_does d (act.Look place) old first _ by.1 (knows_ready d old ready).root (knows_ready d old ready).known in
          let says = step_does d (act.Announce j (place_kind place) s) first by.2.0 _ by.2.1 on.root
          on.known in
          ap (known_plain d) by.2.2 ∙ says.1.1 ∙ looks.1.2

      pub four : length old.view.core.notes ≡ 4
      four =
          (law_before d (act.Look place) old announces.becomes.walks.0 _ announces.becomes.walks.1).four

module _ {P V : Type 0} {fits : List ℕ → Type 0} (d : DomainState P) (place : EventPlace)
    {next : OwnPart → OwnPart → V → PlainAct → ℕ → V}
    {allows : Plain → Plain → ℕ → V → V → Type 0} (old new : SeatState V) (ready : IsReady d old)
  where
    pub null_shown : FindsNull fits d place next allows old new
        → FindsNone (known_plain d old) place (known_plain d new)
    null_shown finds =
        let by = finds.becomes.walks in
        let null : content (known_plain d old) place ≡ None =
        ap (λ (c : Core). content (shows d.shape c) place) (known_before by.1.told ready.known)
        ∙ finds.null in
        let does = step_does d (act.Look place) old by.0 _ by.1 (knows_ready d old ready).root (knows_ready d old ready).known in (
          null,
          subst (λ (x : ℕ × Plain). Does (known_plain d old) 0 (plain.Look place) x.0 x.1)
              (λ i. (
                (does.1.1 ∙ ap word_of null) i,
                known_plain d (sym by.2 i),
              ))
              does,
        )

    pub null_knows : FindsNull fits d place next allows old new → Knows new × IsMine d new
    null_knows finds =
        walk_mine fits d next allows (move (act.Look place) (outcome.Found None) ∷ []) old new
        (knows_ready d old ready)
        ready.mine finds.becomes.walks

    -- a place that nobody else changes holds what it held
    pub misses_none : (j : ℕ) (seen now : Option SlotId)
        → Misses fits d j place next allows seen now old new → ⊥
    misses_none j seen now m =
        let by = m.checks.walks in
        let mid = announced_knows d place old ready j m.slot m.mid m.announces in
        m.differ
        (sym m.there
        ∙ ap (λ (c : Core). content (shows d.shape c) place) (sym (known_before by.1.told mid.0.known))
        ∙ ap (λ (p : Plain). content p place) (announced_same d place old ready j m.slot m.mid m.announces)
        ∙ seen_here d place old ready j m.slot m.mid m.announces
        ∙ sym m.found)

    -- what is under a snapshot
    module _ (j : ℕ) (s : SlotId) (protects : Protects fits d j place next allows s old new) where
      abbrev mid : SeatState V
      mid = protects.mid

      pub protected_knows : Knows new × IsMine d new
      protected_knows =
          let on = announced_knows d place old ready j s mid protects.announces in
          walk_mine fits d next allows (move (act.Check j place) outcome.Valid ∷ []) mid new on.0 on.1
          protects.checks.walks

      pub checks_here : Does (known_plain d old) 0 (plain.Check j place) (s.0 + 1) (known_plain d new)
      checks_here =
          let on = announced_knows d place old ready j s mid protects.announces in
          let by = protects.checks.walks in
          let same = announced_same d place old ready j s mid protects.announces in
          let does : Does (known_plain d old) 0 (plain.Check j place) by.1.word (known_plain d new) =
          subst (λ (x : Plain × Plain). Does x.0 0 (plain.Check j place) by.1.word x.1)
          (λ i. (same i, known_plain d (sym by.2 i)))
          (step_does d (act.Check j place) mid by.0 _ by.1 on.0.root on.0.known) in
          subst (λ (m : ℕ). Does (known_plain d old) 0 (plain.Check j place) m (known_plain d new))
          (does.1.1 ∙ ap word_of (seen_here d place old ready j s mid protects.announces)) does

      abbrev es : List Entry
      es = valid_of (slice_set old.view.core.notes j (note.Valid (place_kind place) s))

      seat_now : seat_at (known_plain d new) 0
          ≡ record (seat_at (known_plain d old) 0) { snapshots = es }
      seat_now =
          protected_knows.1
          ∙ ap show_seat protects.core
          ∙ ap (λ (v : PlainSeat). record v { snapshots = es }) (sym ready.mine)

      pub protected_shown : j < length old.view.core.notes → note_of old.view.core j ≡ note.Idle
          → IsProtected (known_plain d old) place s (known_plain d new)
      protected_shown there idle = record {
        holds = seen_here d place old ready j s mid protects.announces;
        under = (
          es,
          subst (λ (v : PlainSeat). Gains v.snapshots (place_kind place, s) es) (sym ready.mine)
              (snapshot_gains old.view.core j there (place_kind place) s idle),
          check_writes (known_plain d old) (known_plain d new) j place (s.0 + 1) checks_here
              ∙ ap (with_seat (known_plain d old) 0) seat_now,
        );
        checks = checks_here;
      }

-- whichever it found
module _ {P V : Type 0} (fits : List ℕ → Type 0) (d : DomainState P) (place : EventPlace)
    (next : OwnPart → OwnPart → V → PlainAct → ℕ → V)
    (allows : Plain → Plain → ℕ → V → V → Type 0) (old new : SeatState V) (ready : IsReady d old)
  where
    pub acquired_null : {E : Type 0} (r : Result (Option SlotId) E) (found : Option SlotId)
        → r ≡ Ok found → (r ≡ Ok None → FindsNull fits d place next allows old new)
        → IfNone found (FindsNone (known_plain d old) place (known_plain d new))
    acquired_null r None is null = null_shown d place old new ready (null is)
    acquired_null r (Some s) is null = tt

    module _ (j : ℕ) (few : j < 4) (idle : note_of old.view.core j ≡ note.Idle) where
      pub acquired_under : (found : Option SlotId)
          → IfSome found (λ s. Protects fits d j place next allows s old new)
          → IfSome found (λ s. IsProtected (known_plain d old) place s (known_plain d new))
      acquired_under None under = tt
      acquired_under (Some s) under =
          let all = four d place old ready j s under.mid under.announces in
          protected_shown d place old new ready j s under (omega arith) idle

      pub acquired_ready : {E : Type 0} (r : Result (Option SlotId) E) (found : Option SlotId)
          → r ≡ Ok found → (r ≡ Ok None → FindsNull fits d place next allows old new)
          → IfSome found (λ s. Protects fits d j place next allows s old new)
          → place_kind place ≡ Strong → IsAtRest d new → HasRoom new.view.core → IsReady d new
      acquired_ready r None is null under strong rest room =
          let finds = null is in
          let on = null_knows d place old new ready finds in
          ready_still d old new ready on.0 on.1 (ap kept_of finds.becomes.core) rest room
      acquired_ready r (Some s) is null under strong rest room =
          let on = protected_knows d place old new ready j s under in
          let all = four d place old ready j s under.mid under.announces in
          let more = snapshot_gains old.view.core j (omega arith) (place_kind place) s idle in
          ready_noted d old new ready on.0 on.1
          (ap (λ (v : CoreView). v.left_seats) under.core) (ap (λ (v : CoreView). v.shape) under.core)
          rest room
          (λ x.
          let one = entry_loses Disposal x (place_kind place, s) _ _ more in
          let was = ready.disposals x in
          let none : entry_in Disposal x (place_kind place, s) ≡ 0 =
          subst (λ (k : Kind). entry_in Disposal x (k, s) ≡ 0) (sym strong) refl in
          let now = ap (λ (v : CoreView). entry_times Disposal x (valid_of v.notes)) under.core in
          omega arith)

-- whichever it found, its trail goes on
pub acquired_goes : {P V E : Type 0} (fits : List ℕ → Type 0) (d : DomainState P)
    (place : EventPlace) (next : OwnPart → OwnPart → V → PlainAct → ℕ → V)
    (allows : Plain → Plain → ℕ → V → V → Type 0) (old new : SeatState V) (j : ℕ)
    (r : Result (Option SlotId) E) (found : Option SlotId) → r ≡ Ok found
    → (r ≡ Ok None → FindsNull fits d place next allows old new)
    → IfSome found (λ s. Protects fits d j place next allows s old new)
    → Shows [] old.view.core new.view.core
acquired_goes fits d place next allows old new j r None is null under =
    becomes_goes d old new (null is).becomes
acquired_goes fits d place next allows old new j r (Some s) is null under =
    shows_less (protected_by j place s) old.view.core new.view.core
    (shows_all (protected_by j place s) old.view.core new.view.core
    (ap (λ (v : CoreView). v.trail) under.core))
