-- What a seat that is alone puts into a place, and what is deferred by that.
use Rattle.std.proofs.Common.{◌≡◌, ⊎_elim, ℕ, Bool, true, false, List, [], ◌∷◌, refl, ap, sym, ◌∙◌, subst, arith}
use Rattle.std.specs.Prelude.{is_ok, Option, Some, None, slice_index, Result, Ok, Err, IfOk, IfErr}
use Rattle.protected_loads.specs.plain_state.declared.act.EventPlace.{EventPlace}
use Rattle.protected_loads.specs.plain_state.declared.act.EventPlace.TheVariants.{Cell, Field, WeakCell, WeakField}
use Rattle.protected_loads.specs.plain_state.declared.act.PlainAct.{PlainAct}
use Rattle.protected_loads.specs.plain_state.declared.act.PlainAct.TheVariants as plain
use Rattle.protected_loads.specs.plain_state.declared.slot.Kind.{Kind}
use Rattle.protected_loads.specs.plain_state.declared.slot.Kind.TheVariants.{Strong, Weak, Disposal}
use Rattle.protected_loads.specs.plain_state.declared.slot.SlotId.{SlotId}
use Rattle.protected_loads.specs.plain_state.Places.{HoldsStrongly, content, place_kind}
use Rattle.protected_loads.specs.plain_state.Places.{IsOpen as PlainIsOpen}
use Rattle.protected_loads.specs.plain_state.State.{Plain, PlainSeat, seat_at}
use Rattle.protected_loads.specs.plain_state.Steps.{Does}
use Rattle.plain_settling.specs.plain_store.Calls.{MayGive, Puts, Tries}
use Rattle.plain_settling.proofs.Settling.{tidies_none}
use Rattle.protected_loads.specs.plain_protocol.Owns.{OwnPart}
use Rattle.protected_loads.specs.core_events.declared.act.Act.TheVariants as act
use Rattle.protected_loads.specs.core_events.declared.outcome.Outcome.TheVariants as outcome
use Rattle.protected_loads.specs.core_events.declared.view.CoreView.{CoreView}
use Rattle.protected_loads.specs.core_events.declared.view.Move.{Move}
use Rattle.protected_loads.specs.core_events.Runs.{Core}
use Rattle.protected_loads.specs.core_events.Shows.{shows}
use Rattle.protected_loads.specs.core_events.Steps.{CanGive, HasRoom, without_given}
use Rattle.protected_loads.specs.core_events.Views.{IsOpen, IsReadable}
use Rattle.protected_loads.specs.core_events.Words.{cell_at, slot_in, weak_cell_at}
use Rattle.protected_loads.proofs.Below.core_law_Each.{length_each}
use Rattle.protected_loads.specs.acquire_retire.Calls.{IsSameView, same_view}
use Rattle.protected_loads.specs.acquire_retire.Collecting.{move}
use Rattle.protected_loads.specs.acquire_retire.Domains.{DomainState}
use Rattle.protected_loads.specs.acquire_retire.Seats.{SeatState}
use Rattle.protected_loads.specs.acquire_retire.Wholes.{known_core}
use Rattle.protected_loads.specs.control_word.Resting.{IsAtRest}
use Rattle.slot_store.specs.retiring_stores.Exchanging.{Exchanges, Loses, Replaces, Swaps}
use Rattle.slot_store.specs.retiring_stores.Scanning.{Collected, IsBelow, IsDue, ScansWhereDue}
use Rattle.snapshot_ptr.proofs.Below.retiring_stores_Opened.{stores}
use Rattle.slot_store.proofs.Objects.{known_before}
use Rattle.lone_heap.specs.Lone.{IsReady, ThenTidies, known_plain}
use Rattle.lone_heap.specs.Trails.{Shows, ShowsTry}
use Rattle.lone_heap.proofs.Holding.{IsMine, kept_of, knows_on, knows_ready, mine_after, ready_still, walk_mine}
use Rattle.lone_heap.proofs.Stepping.{step_does}
use Rattle.lone_heap.proofs.Tidying.{Knows, Reaches, due_reaches}
use Rattle.lone_heap.proofs.Trailing.{becomes_shows, shows_all, shows_first, shows_then}

-- the phase of a seat that gave up a reference, and what its calls leave as it was
given_phase : (k : Kind) (given : Option SlotId) (v : CoreView)
    → (without_given k given v).phase ≡ v.phase
given_phase k None v = refl
given_phase Strong (Some s) v = refl
given_phase Weak (Some s) v = refl
given_phase Disposal (Some s) v = refl

given_kept : (k : Kind) (given : Option SlotId) (v : CoreView)
    → kept_of (without_given k given v) ≡ kept_of v
given_kept k None v = refl
given_kept Strong (Some s) v = refl
given_kept Weak (Some s) v = refl
given_kept Disposal (Some s) v = refl

-- what a plain seat may give up, and what the seat of a domain may
given_so : (k : Kind) (given : Option SlotId) (w : PlainSeat) (v : CoreView)
    → w.owned ≡ v.owned → w.weaks ≡ v.weaks → MayGive k given w → CanGive k given v
given_so k None w v owned weaks may = tt
given_so Strong (Some s) w v owned weaks may = rw owned at may
given_so Weak (Some s) w v owned weaks may = rw weaks at may
given_so Disposal (Some s) w v owned weaks may = absurd may

module _ {P V : Type 0} (d : DomainState P) (s : SeatState V) (ready : IsReady d s) where
  strongly : (x : SlotId) → HoldsStrongly (seat_at (known_plain d s) 0) x
      → IsOpen d.shape s.view.core (WeakField x)
  strongly x holds = subst (λ (v : PlainSeat). HoldsStrongly v x) ready.mine holds

  -- the places that are open to the seat
  pub open_here : (place : EventPlace) → PlainIsOpen (known_plain d s) 0 place
      → IsOpen d.shape s.view.core place
  open_here (Cell i) open' =
      let l = length_each 0 d.shape.cells
      (λ k. slot_in (slice_index (known_core s.view).words (cell_at d.shape k))) in omega arith
  open_here (Field x i) open' = (open'.0, strongly x open'.1)
  open_here (WeakCell i) open' =
      let l = length_each 0 d.shape.weak_cells
      (λ k. slot_in (slice_index (known_core s.view).words (weak_cell_at d.shape k))) in omega arith
  open_here (WeakField x) open' = strongly x open'

  -- what is open may be read
  pub readable_here : (place : EventPlace) → PlainIsOpen (known_plain d s) 0 place
      → IsReadable d.shape s.view.core place
  readable_here place open' = of place (open_here place open')
    where
      of : (q : EventPlace) → IsOpen d.shape s.view.core q → IsReadable d.shape s.view.core q
      of (Cell i) on = on
      of (Field x i) on = (on.0, omega (arith, on.1))
      of (WeakCell i) on = on
      of (WeakField x) on = omega (arith, on)

  pub give_here : (k : Kind) (given : Option SlotId)
      → MayGive k given (seat_at (known_plain d s) 0) → CanGive k given s.view.core
  give_here k given may =
      given_so k given (seat_at (known_plain d s) 0) s.view.core
      (ap (λ (v : PlainSeat). v.owned) ready.mine) (ap (λ (v : PlainSeat). v.weaks) ready.mine) may

module _ {P V : Type 0} (fits : List ℕ → Type 0) (d : DomainState P) where
  -- a scan where one is due
  scan_mine : (old new : SeatState V) → Knows old → IsMine d old → ScansWhereDue fits d old new
      → Knows new × IsMine d new
  scan_mine old new knows mine scans = ⊎_elim
      (λ (due : IsDue d old × Collected fits d old new).
      walk_mine fits d same_view IsSameView _ old new knows mine due.1.collects.goes.walks)
      (λ (none : IsBelow d old × (new ≡ old)).
      (subst Knows (sym none.1) knows, subst (IsMine d) (sym none.1) mine))
      scans

module _ {P V : Type 0} {fits : List ℕ → Type 0} (d : DomainState P)
    {next : OwnPart → OwnPart → V → PlainAct → ℕ → V}
    {allows : Plain → Plain → ℕ → V → V → Type 0} (place : EventPlace)
    (given : Option SlotId) (old new : SeatState V) (ready : IsReady d old) where
  module _ (m : Move) (held : Option SlotId)
      (e : Exchanges fits d next allows place m given held old new) where
    abbrev mid : SeatState V
    mid = e.mid

    put_knows : Knows mid
    put_knows = knows_on d m.act old mid m.outcome (knows_ready d old ready) e.puts.step

    -- what the scan did, if there was one, is to tidy
    scanned : Reaches d mid new
    scanned =
        due_reaches fits d mid new put_knows
        (ap (λ (v : CoreView). v.phase) e.puts.core
        ∙ given_phase (place_kind place) given old.view.core ∙ ready.rest.idle.0) e.scans

    put_tidies : (Q : Plain → Type 0) → Q (known_plain d mid) → ThenTidies Q (known_plain d new)
    put_tidies Q put = (known_plain d mid, put, scanned.tidies)

    pub put_shows : Shows (m ∷ []) old.view.core new.view.core
    put_shows =
        shows_first (m ∷ []) old.view.core mid.view.core new.view.core
        (shows_all (m ∷ []) old.view.core mid.view.core
        (ap (λ (v : CoreView). v.trail) e.puts.core)) scanned.goes

    pub exchange_ready : IsAtRest d new → HasRoom new.view.core → IsReady d new
    exchange_ready rest room =
        let on = scan_mine fits d mid new put_knows
        (mine_after d m.act old mid m.outcome (knows_ready d old ready) e.puts.step) e.scans in
        ready_still d old new ready on.0 on.1
        (ap kept_of e.same ∙ given_kept (place_kind place) given old.view.core) rest room

    held_here : content (known_plain d old) place ≡ held
    held_here =
        ap (λ (c : Core). content (shows d.shape c) place)
        (known_before e.puts.step.told ready.known)
        ∙ e.puts.shows_held

  -- an exchange
  pub put_shown : (held : Option SlotId) → IsOpen d.shape old.view.core place
      → Swaps fits d next allows place given held old new
      → ThenTidies (Puts (known_plain d old) place given) (known_plain d new)
  put_shown held open' swaps =
      let m = move (act.Swap place given) (outcome.Found held) in
      let step = swaps.puts.step in
      let is = (stores d place given held old new open' swaps).is_replace step.word in
      let does : Does (known_plain d old) 0 (plain.Replace place given) step.word
      (known_plain d swaps.mid) =
      subst (λ (a : PlainAct). Does (known_plain d old) 0 a step.word (known_plain d swaps.mid)) is
      (step_does d (act.Swap place given) old swaps.mid _ step ready.alone.0 ready.known) in
      put_tidies m held swaps (Puts (known_plain d old) place given)
      (subst (λ (w : ℕ). Does (known_plain d old) 0 (plain.Replace place given) w
      (known_plain d swaps.mid)) does.1.1 does)

  -- a compare and exchange that found what was expected
  pub done_shown : (expected : Option SlotId)
      → Replaces fits d next allows place given expected old new
      → ThenTidies (Tries (known_plain d old) place expected given true) (known_plain d new)
  done_shown expected e =
      let m = move (act.Cas place expected given) outcome.Done in
      let step = e.puts.step in
      let does = step_does d (act.Cas place expected given) old e.mid _ step ready.alone.0 ready.known in
      put_tidies m expected e (Tries (known_plain d old) place expected given true) (
        (λ _. held_here m expected e, λ _. refl),
        subst (λ (w : ℕ). Does (known_plain d old) 0 (plain.TryReplace place expected given) w
            (known_plain d e.mid)) does.1.1 does,
      )

  -- and one that found something else
  module _ (expected found : Option SlotId)
      (loses : Loses fits d next allows place given expected found old new) where
    found_here : content (known_plain d old) place ≡ found
    found_here =
        ap (λ (c : Core). content (shows d.shape c) place)
        (known_before loses.becomes.walks.1.told ready.known)
        ∙ loses.shows_found

    pub lost_shown : ThenTidies (Tries (known_plain d old) place expected given false)
        (known_plain d new)
    lost_shown =
        let by = loses.becomes.walks in
        let does : Does (known_plain d old) 0 (plain.TryReplace place expected given) by.1.word
        (known_plain d new) =
        subst (λ (q : Plain). Does (known_plain d old) 0 (plain.TryReplace place expected given)
        by.1.word q) (ap (known_plain d) (sym by.2))
        (step_does d (act.Cas place expected given) old by.0 _ by.1 ready.alone.0 ready.known) in (
          known_plain d new,
          (
            (λ no'. cc, λ is. absurd (loses.other (sym found_here ∙ is))),
            subst (λ (w : ℕ). Does (known_plain d old) 0 (plain.TryReplace place expected given) w
                (known_plain d new)) does.1.1 does,
          ),
          tidies_none (known_plain d new) (known_plain d new) refl,
        )

    pub lost_ready : IsAtRest d new → HasRoom new.view.core → IsReady d new
    lost_ready rest room =
        let on = walk_mine fits d next allows
        (move (act.Cas place expected given) (outcome.LostTo found) ∷ []) old new
        (knows_ready d old ready) ready.mine
        loses.becomes.walks in
        ready_still d old new ready on.0 on.1 (ap kept_of loses.becomes.core) rest room

-- a try shows itself after whatever came before it
pub try_after : (place : EventPlace) (expected given : Option SlotId) (done : Bool)
    (u v w : CoreView) → Shows [] u v → ShowsTry place expected given done v w
    → ShowsTry place expected given done u w
try_after place expected given true u v w first is =
    shows_then [] (move (act.Cas place expected given) outcome.Done ∷ []) u v w first is
try_after place expected given false u v w first (found, is) = (
  found,
  shows_then [] (move (act.Cas place expected given) (outcome.LostTo found) ∷ []) u v w
      first is,
)

-- whichever it found
module _ {P V : Type 0} (fits : List ℕ → Type 0) (d : DomainState P)
    (next : OwnPart → OwnPart → V → PlainAct → ℕ → V)
    (allows : Plain → Plain → ℕ → V → V → Type 0) (place : EventPlace)
    (given : Option SlotId) (old new : SeatState V) (ready : IsReady d old) where
  pub tried_shown : (expected : Option SlotId) (r : Result (Unit {0}) (Option SlotId)) (done : Bool)
      → done ≡ is_ok r
      → IfOk r (λ u. Replaces fits d next allows place given expected old new × IsBelow d new)
      → IfErr r (λ found. Loses fits d next allows place given expected found old new)
      → ThenTidies (Tries (known_plain d old) place expected given done) (known_plain d new)
  tried_shown expected (Ok u) done is replaced lost =
      subst (λ (b : Bool).
      ThenTidies (Tries (known_plain d old) place expected given b) (known_plain d new)) (sym is)
      (done_shown d place given old new ready expected replaced.0)
  tried_shown expected (Err found) done is replaced lost =
      subst (λ (b : Bool).
      ThenTidies (Tries (known_plain d old) place expected given b) (known_plain d new)) (sym is)
      (lost_shown d place given old new ready expected found lost)

  pub tried_ready : (expected : Option SlotId) (r : Result (Unit {0}) (Option SlotId))
      → IfOk r (λ u. Replaces fits d next allows place given expected old new × IsBelow d new)
      → IfErr r (λ found. Loses fits d next allows place given expected found old new)
      → IsAtRest d new → HasRoom new.view.core → IsReady d new
  tried_ready expected (Ok u) replaced lost rest room =
      exchange_ready d place given old new ready (move (act.Cas place expected given) outcome.Done)
      expected replaced.0 rest room
  tried_ready expected (Err found) replaced lost rest room =
      lost_ready d place given old new ready expected found lost rest room

  pub tried_shows : (expected : Option SlotId) (r : Result (Unit {0}) (Option SlotId)) (done : Bool)
      → done ≡ is_ok r
      → IfOk r (λ u. Replaces fits d next allows place given expected old new × IsBelow d new)
      → IfErr r (λ found. Loses fits d next allows place given expected found old new)
      → ShowsTry place expected given done old.view.core new.view.core
  tried_shows expected (Ok u) done is replaced lost =
      subst (λ (b : Bool). ShowsTry place expected given b old.view.core new.view.core) (sym is)
      (put_shows d place given old new ready (move (act.Cas place expected given) outcome.Done)
      expected replaced.0)
  tried_shows expected (Err found) done is replaced lost =
      subst (λ (b : Bool). ShowsTry place expected given b old.view.core new.view.core) (sym is)
      (found, becomes_shows d old new lost.becomes)
