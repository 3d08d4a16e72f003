-- A seat that is alone counts a reference to what a place holds.
use Rattle.std.proofs.Common.{◌≡◌, ℕ, ◌<◌, ◌+◌, Bool, true, false, List, [], ◌∷◌, ◌++◌, length, refl, ap, sym, ◌∙◌, subst, arith}
use Rattle.std.specs.Prelude.{nat_lt, Option, Some, None, if◌then◌else◌}
use Rattle.protected_loads.specs.plain_state.declared.act.EventPlace.{EventPlace}
use Rattle.protected_loads.specs.plain_state.declared.act.PlainAct.{PlainAct}
use Rattle.protected_loads.specs.plain_state.declared.act.PlainAct.TheVariants as plain
use Rattle.protected_loads.specs.plain_state.declared.slot.Kind.{Kind}
use Rattle.protected_loads.specs.plain_state.declared.slot.Kind.TheVariants.{Strong, Weak, Disposal}
use Rattle.protected_loads.specs.plain_state.declared.slot.SlotId.{SlotId}
use Rattle.protected_loads.specs.plain_state.Places.{content, place_kind}
use Rattle.protected_loads.specs.plain_state.Runs.{Runs}
use Rattle.protected_loads.specs.plain_state.State.{Plain, PlainSeat, seat_at, with_seat}
use Rattle.protected_loads.specs.plain_state.Steps.{Does}
use Rattle.plain_settling.specs.plain_store.Calls.{Loads as PlainLoads}
use Rattle.plain_settling.specs.plain_store.Calls.{WeaklyLoads}
use Rattle.protected_loads.specs.plain_protocol.Owns.{OwnPart}
use Rattle.protected_loads.specs.core_events.declared.act.Act.TheVariants as act
use Rattle.protected_loads.specs.core_events.declared.outcome.Outcome.TheVariants as outcome
use Rattle.protected_loads.specs.core_events.declared.view.CoreView.{CoreView}
use Rattle.protected_loads.specs.core_events.declared.view.Note.{Note}
use Rattle.protected_loads.specs.core_events.declared.view.Note.TheVariants as note
use Rattle.protected_loads.specs.core_events.Shows.{show_seat}
use Rattle.protected_loads.specs.core_events.ShownSteps.{releases}
use Rattle.protected_loads.specs.core_events.Steps.{HasRoom}
use Rattle.protected_loads.specs.core_events.Views.{note_of}
use Rattle.protected_loads.specs.counter_word.Words.{ZERO}
use Rattle.protected_loads.specs.acquire_retire.Calls.{IsSameView, Steps, same_view}
use Rattle.protected_loads.specs.acquire_retire.Domains.{DomainState}
use Rattle.protected_loads.specs.acquire_retire.Seats.{SeatState}
use Rattle.protected_loads.specs.control_word.Resting.{IsAtRest}
use Rattle.protected_loads.specs.References.{Loads, Refers, counted_as, counting, kept_by, loaded_by, with_reference}
use Rattle.protected_loads.proofs.Noting.{written}
use Rattle.lone_heap.specs.Lone.{IsReady, known_plain}
use Rattle.lone_heap.specs.Trails.{Shows}
use Rattle.lone_heap.proofs.Acquiring.{checks_here, four, null_knows, null_shown, protected_knows, seen_here}
use Rattle.lone_heap.proofs.Holding.{IsMine, kept_of, knows_on, ready_still, walk_mine}
use Rattle.lone_heap.proofs.Stepping.{step_does}
use Rattle.lone_heap.proofs.Tidying.{Knows}
use Rattle.lone_heap.proofs.Trailing.{becomes_goes, shows_all, shows_less}
use Rattle.lone_heap.proofs.Writing.{Writes, add_writes, check_writes, end_writes, weak_gain_writes, writes_on}

-- an add leaves the notes
add_notes : (b : Bool) (s : SlotId) (v : CoreView)
    → (if b then record v { owned = v.owned ++ s ∷ []; adds = v.adds + 1 }
    else record v { adds = v.adds + 1 }).notes ≡ v.notes
add_notes true s v = refl
add_notes false s v = refl

-- what a reference leaves of a seat as it was
counted_kept : (k : Kind) (s : SlotId) (v : CoreView) → kept_of (with_reference k s v) ≡ kept_of v
counted_kept Strong s v = refl
counted_kept Weak s v = refl
counted_kept Disposal s v = refl

-- the plain step of a count
abbrev counts : Kind → SlotId → PlainAct
counts Strong s = plain.Add s
counts Weak s = plain.WeakGain s
counts Disposal s = plain.WeakGain s

counts_writes : (p q : Plain) (k : Kind) (s : SlotId) (found : ℕ) → Does p 0 (counts k s) found q
    → Writes p q
counts_writes p q Strong s found does = add_writes p q s found does
counts_writes p q Weak s found does = weak_gain_writes p q s found does
counts_writes p q Disposal s found does = weak_gain_writes p q s found does

module _ {P V : Type 0} {fits : List ℕ → Type 0} (d : DomainState P) (s : SlotId)
    (mid new : SeatState V) (knows : Knows mid) where
  module _ (k : Kind) (noted : note_of mid.view.core 0 ≡ note.Valid k s)
      (walks : (late : SeatState V)
      × Steps fits d same_view IsSameView (counting k s) mid late (counted_as k)
      × ((last : SeatState V)
      × Steps fits d same_view IsSameView (act.Release 0) late last outcome.Plain
      × (new ≡ last))) where
    abbrev late : SeatState V
    late = walks.0

    count_does : (found : ℕ) × Does (known_plain d mid) 0 (counts k s) found (known_plain d late)
    count_does = of k walks.1
      where
        of : (j : Kind)
            → Steps fits d same_view IsSameView (counting j s) mid late (counted_as j)
            → (found : ℕ) × Does (known_plain d mid) 0 (counts j s) found (known_plain d late)
        of Strong step = (_, step_does d (act.Add s) mid late _ step knows.root knows.known)
        of Weak step = (_, step_does d (act.Wadd s) mid late _ step knows.root knows.known)
        of Disposal step = (_, step_does d (act.Wadd s) mid late _ step knows.root knows.known)

    late_noted : note_of late.view.core 0 ≡ note.Valid k s
    late_noted = of k walks.1 ∙ noted
      where
        of : (j : Kind)
            → Steps fits d same_view IsSameView (counting j s) mid late (counted_as j)
            → note_of late.view.core 0 ≡ note_of mid.view.core 0
        of Strong step =
            ap (λ (v : CoreView). note_of v 0) step.told.core
            ∙ ap (λ (ns : List Note). note_of (record mid.view.core { notes = ns }) 0)
            (add_notes (nat_lt step.word ZERO) s mid.view.core)
        of Weak step = ap (λ (v : CoreView). note_of v 0) step.told.core
        of Disposal step = ap (λ (v : CoreView). note_of v 0) step.told.core

    release_does : (found : ℕ)
        × Does (known_plain d late) 0 (plain.EndSnapshot k s) found (known_plain d new)
    release_does =
        let on = knows_on d (counting k s) mid late _ knows walks.1 in
        let more = walks.2 in (
          0,
          subst (λ (x : Note × Plain). Does (known_plain d late) 0 (releases x.0) 0 x.1)
              (λ i. (late_noted i, known_plain d (sym more.2 i)))
              (step_does d (act.Release 0) late more.0 _ more.1 on.root on.known),
        )

    pub keeps_runs : Runs (known_plain d mid) 0 (counts k s ∷ plain.EndSnapshot k s ∷ [])
        (known_plain d new)
    keeps_runs = (
      known_plain d late,
      count_does.0,
      count_does.1,
      (known_plain d new, release_does.0, release_does.1, refl),
    )

    pub keeps_write : Writes (known_plain d mid) (known_plain d new)
    keeps_write =
        writes_on (known_plain d mid) (known_plain d late) (known_plain d new)
        (counts_writes (known_plain d mid) (known_plain d late) k s count_does.0 count_does.1)
        (end_writes (known_plain d late) (known_plain d new) k s release_does.0 release_does.1)

module _ {P V : Type 0} {fits : List ℕ → Type 0} (d : DomainState P) (place : EventPlace)
    {next : OwnPart → OwnPart → V → PlainAct → ℕ → V}
    {allows : Plain → Plain → ℕ → V → V → Type 0} (old new : SeatState V) (ready : IsReady d old)
  where
    module _ (s : SlotId) (refers : Refers fits d place next allows s old new) where
      abbrev mid : SeatState V
      mid = refers.mid

      there : 0 < length old.view.core.notes
      there =
          let all = four d place old ready 0 s refers.protects.mid refers.protects.announces in
          omega arith

      mid_knows : Knows mid × IsMine d mid
      mid_knows = protected_knows d place old mid ready 0 s refers.protects

      new_knows : Knows new × IsMine d new
      new_knows =
          walk_mine fits d same_view IsSameView (kept_by (place_kind place) s) mid new mid_knows.0
          mid_knows.1 refers.keeps.walks

      mid_noted : note_of mid.view.core 0 ≡ note.Valid (place_kind place) s
      mid_noted =
          ap (λ (v : CoreView). note_of v 0) refers.protects.core
          ∙ written old.view.core 0 there (note.Valid (place_kind place) s)

      check : Does (known_plain d old) 0 (plain.Check 0 place) (s.0 + 1) (known_plain d mid)
      check = checks_here d place old mid ready 0 s refers.protects

      runs : Runs (known_plain d old) 0
          (plain.Check 0 place ∷ counts (place_kind place) s
          ∷ plain.EndSnapshot (place_kind place) s ∷ []) (known_plain d new)
      runs = (
        known_plain d mid,
        s.0 + 1,
        check,
        keeps_runs d s mid new mid_knows.0 (place_kind place) mid_noted refers.keeps.walks,
      )

      writes : Writes (known_plain d old) (known_plain d new)
      writes =
          writes_on (known_plain d old) (known_plain d mid) (known_plain d new)
          (check_writes (known_plain d old) (known_plain d mid) 0 place (s.0 + 1) check)
          (keeps_write d s mid new mid_knows.0 (place_kind place) mid_noted refers.keeps.walks)

      -- the seat has what it had, and the reference
      strong_seat : place_kind place ≡ Strong → seat_at (known_plain d new) 0
          ≡ record (seat_at (known_plain d old) 0) {
            owned = (seat_at (known_plain d old) 0).owned ++ s ∷ [];
            adds = (seat_at (known_plain d old) 0).adds + 1;
          }
      strong_seat is =
          let core = subst (λ (k : Kind). new.view.core
          ≡ record (with_reference k s old.view.core) {
            trail = old.view.core.trail ++ loaded_by place s;
          }) is refers.core in
          new_knows.1 ∙ ap show_seat core
          ∙ ap (λ (v : PlainSeat). record v { owned = v.owned ++ s ∷ []; adds = v.adds + 1 })
          (sym ready.mine)

      weak_seat : place_kind place ≡ Weak → seat_at (known_plain d new) 0
          ≡ record (seat_at (known_plain d old) 0) {
            weaks = (seat_at (known_plain d old) 0).weaks ++ s ∷ [];
            adds = (seat_at (known_plain d old) 0).adds + 1;
          }
      weak_seat is =
          let core = subst (λ (k : Kind). new.view.core
          ≡ record (with_reference k s old.view.core) {
            trail = old.view.core.trail ++ loaded_by place s;
          }) is refers.core in
          new_knows.1 ∙ ap show_seat core
          ∙ ap (λ (v : PlainSeat). record v { weaks = v.weaks ++ s ∷ []; adds = v.adds + 1 })
          (sym ready.mine)

      -- it runs the plain steps of a load
      runs_as : (k : Kind) → place_kind place ≡ k → Runs (known_plain d old) 0
          (plain.Check 0 place ∷ counts k s ∷ plain.EndSnapshot (place_kind place) s ∷ [])
          (known_plain d new)
      runs_as k is =
          subst (λ (j : Kind). Runs (known_plain d old) 0
          (plain.Check 0 place ∷ counts j s ∷ plain.EndSnapshot (place_kind place) s ∷ [])
          (known_plain d new)) is runs

      holds : content (known_plain d old) place ≡ Some s
      holds = seen_here d place old ready 0 s refers.protects.mid refers.protects.announces

module _ {P V : Type 0} (fits : List ℕ → Type 0) (d : DomainState P) (place : EventPlace)
    (next : OwnPart → OwnPart → V → PlainAct → ℕ → V)
    (allows : Plain → Plain → ℕ → V → V → Type 0) (old new : SeatState V) (ready : IsReady d old)
  where
    pub loads_shown : (found : Option SlotId) → Loads fits d place next allows found old new
        → place_kind place ≡ Strong
        → PlainLoads (known_plain d old) place found (known_plain d new)
    loads_shown None finds is = null_shown d place old new ready finds
    loads_shown (Some s) refers is = (
      holds d place old new ready s refers,
      writes d place old new ready s refers ∙ ap (with_seat (known_plain d old) 0) (strong_seat d place old new ready s refers is),
      runs_as d place old new ready s refers Strong is,
    )

    pub weakly_loads_shown : (found : Option SlotId) → Loads fits d place next allows found old new
        → place_kind place ≡ Weak
        → WeaklyLoads (known_plain d old) place found (known_plain d new)
    weakly_loads_shown None finds is = null_shown d place old new ready finds
    weakly_loads_shown (Some s) refers is = (
      holds d place old new ready s refers,
      writes d place old new ready s refers ∙ ap (with_seat (known_plain d old) 0) (weak_seat d place old new ready s refers is),
      runs_as d place old new ready s refers Weak is,
    )

    pub loads_ready : (found : Option SlotId) → Loads fits d place next allows found old new
        → IsAtRest d new → HasRoom new.view.core → IsReady d new
    loads_ready None finds rest room =
        let on = null_knows d place old new ready finds in
        ready_still d old new ready on.0 on.1 (ap kept_of finds.becomes.core) rest room
    loads_ready (Some s) refers rest room =
        let on = new_knows d place old new ready s refers in
        ready_still d old new ready on.0 on.1
        (ap kept_of refers.core ∙ counted_kept (place_kind place) s old.view.core) rest room

-- whatever a load found, its trail goes on
pub loads_go : {P V : Type 0} (fits : List ℕ → Type 0) (d : DomainState P) (place : EventPlace)
    (next : OwnPart → OwnPart → V → PlainAct → ℕ → V)
    (allows : Plain → Plain → ℕ → V → V → Type 0) (old new : SeatState V)
    (found : Option SlotId) → Loads fits d place next allows found old new
    → Shows [] old.view.core new.view.core
loads_go fits d place next allows old new None finds = becomes_goes d old new finds.becomes
loads_go fits d place next allows old new (Some s) refers =
    shows_less (loaded_by place s) old.view.core new.view.core
    (shows_all (loaded_by place s) old.view.core new.view.core
    (ap (λ (v : CoreView). v.trail) refers.core))
