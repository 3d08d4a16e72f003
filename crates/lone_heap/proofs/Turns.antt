-- The turns of a settle tidy, one after another.
use Rattle.std.proofs.Common.{◌≡◌, ⊎_elim, ℕ, zero, suc, ◌+◌, ◌<◌, Bool, true, false, List, [], ◌∷◌, length, refl, ap, sym, ◌∙◌, arith}
use Rattle.std.specs.Bool.{MatchBool}
use Rattle.std.specs.Prelude.{◌==◌, Option, Some, None, slice_index, if◌then◌else◌}
use Rattle.protected_loads.specs.plain_state.declared.act.EventPlace.{EventPlace}
use Rattle.protected_loads.specs.plain_state.declared.act.EventPlace.TheVariants.{Field, WeakField}
use Rattle.protected_loads.specs.plain_state.declared.act.PlainAct.TheVariants as plain
use Rattle.protected_loads.specs.plain_state.declared.slot.SlotId.{SlotId}
use Rattle.protected_loads.specs.plain_state.Lists.{times}
use Rattle.plain_settling.proofs.Settling.{tidies_none, tidies_one}
use Rattle.protected_loads.specs.core_events.declared.act.Act.TheVariants as act
use Rattle.protected_loads.specs.core_events.declared.outcome.Outcome.{Outcome}
use Rattle.protected_loads.specs.core_events.declared.outcome.Outcome.TheVariants as outcome
use Rattle.protected_loads.specs.core_events.declared.view.CoreView.{CoreView}
use Rattle.protected_loads.specs.core_events.declared.view.Phase.TheVariants as phase
use Rattle.protected_loads.specs.core_events.ShownSteps.{is_ripe_field}
use Rattle.protected_loads.specs.core_events.Views.{slot_of}
use Rattle.protected_loads.specs.core_events.Words.{each_from}
use Rattle.protected_loads.specs.acquire_retire.Calls.{IsSameView, Steps, same_view}
use Rattle.protected_loads.specs.acquire_retire.Collecting.{Walks, move}
use Rattle.protected_loads.specs.acquire_retire.Domains.{DomainState}
use Rattle.protected_loads.specs.acquire_retire.Seats.{SeatState}
use Rattle.slot_store.specs.retiring_stores.Scanning.{Collected}
use Rattle.slot_store.specs.Reaping.{Answers, Clears, FindsRipe, Reaps, SeesAll, Waits}
use Rattle.slot_store.specs.Settling.{Settles, Turn, Turns}
use Rattle.lone_heap.specs.Lone.{known_plain}
use Rattle.lone_heap.proofs.Stepping.{step_does}
use Rattle.lone_heap.proofs.Trailing.{step_goes}
use Rattle.lone_heap.proofs.Tidying.{Knows, Reaches, clear_shown, collect_reaches, due_reaches, give_shown, knows_step, reaches_on, reaches_same}

-- of a field that a clear left null the slot was ripe
was_ripe : (b : Bool) (x : EventPlace) (ps : List EventPlace)
    → (if b then x ∷ ps else ps) ≡ x ∷ ps → b ≡ true
was_ripe true x ps is = refl
was_ripe false x ps is = let longer = ap length is in absurd (omega arith)

-- a destroy that leaves a reference is done
is_done : (b : Bool) (s : SlotId) → outcome.Left ≡ (if b then outcome.Last else outcome.Left)
    → (if b then phase.Give s else phase.Idle) ≡ phase.Idle
is_done true s is = absurd (cc (is))
is_done false s is = refl

module _ {P V : Type 0} (d : DomainState P) where
  -- it came there by tidying, and is in the middle of nothing
  pub record Part (old new : SeatState V) : Type 0 where
    pub reaches : Reaches d old new
    pub idle : new.view.core.phase ≡ phase.Idle

  part_on : (a b c : SeatState V) → Part a b → Part b c → Part a c
  part_on a b c one two =
      record { reaches = reaches_on d a b c one.reaches two.reaches; idle = two.idle }

  part_same : (a b : SeatState V) → Knows a → a.view.core.phase ≡ phase.Idle → b ≡ a → Part a b
  part_same a b knows idle same = record {
    reaches = reaches_same d a b knows same;
    idle = ap (λ (x : SeatState V). x.view.core.phase) same ∙ idle;
  }

module _ {P V : Type 0} (fits : List ℕ → Type 0) (d : DomainState P) where
  pub collect_part : (old new : SeatState V) → Knows old → old.view.core.phase ≡ phase.Idle
      → Collected fits d old new → Part d old new
  collect_part old new knows idle c = record {
    reaches = collect_reaches fits d old new knows idle c;
    idle = c.collects.idle.0;
  }

  -- a step that is one of tidying
  one_reaches : (old new : SeatState V) (o : Outcome) (s : SlotId) → Knows old
      → Steps fits d same_view IsSameView (act.Destroy s) old new o → Reaches d old new
  one_reaches old new o s knows step = record {
    tidies =
        tidies_one (known_plain d old) (known_plain d new) (plain.Destroy s) _ tt
        (step_does d (act.Destroy s) old new o step knows.root knows.known);
    knows = knows_step fits d (act.Destroy s) old new o knows step;
    goes = step_goes d old new (act.Destroy s) o step;
  }

  finds_part : (s : SlotId) (old new : SeatState V) → Knows old → old.view.core.phase ≡ phase.Idle
      → FindsRipe fits d (Some s) old new → Part d old new
  finds_part s old new knows idle finds = ⊎_elim
      (λ (was : (0 < times s old.view.core.ripe) × (new ≡ old)).
      part_same d old new knows idle was.1)
      (λ (now : (old.view.core.ripe ≡ []) × Collected fits d old new).
      collect_part old new knows idle now.1)
      finds.0

  clears_part : (x : EventPlace) (old new : SeatState V) → Knows old
      → old.view.core.phase ≡ phase.Idle → Clears fits d x old new → Part d old new
  clears_part x old new knows idle c =
      let swaps = c.swaps in
      let mid = swaps.mid in
      let step = swaps.puts.step in
      let v = old.view.core in
      let ripe = was_ripe (is_ripe_field v x) x old.view.cleared
      (sym (swaps.cleared ∙ swaps.puts.cleared) ∙ c.cleared) in
      let does = step_does d (act.Swap x None) old mid _ step knows.root knows.known in
      let one : Reaches d old mid = record {
        tidies =
            clear_shown (known_plain d old) (known_plain d mid) _ (is_ripe_field v x) x ripe does;
        knows = knows_step fits d (act.Swap x None) old mid _ knows step;
        goes = step_goes d old mid (act.Swap x None) _ step;
      } in
      let still : mid.view.core.phase ≡ phase.Idle =
      ap (λ (u : CoreView). u.phase) swaps.puts.core ∙ idle in
      let after = due_reaches fits d mid new one.knows still swaps.scans in
      record {
        reaches = reaches_on d old mid new one after;
        idle = ⊎_elim
            (λ due. due.1.collects.idle.0)
            (λ none. ap (λ (y : SeatState V). y.view.core.phase) none.1 ∙ still)
            swaps.scans;
      }

  -- to see a word changes nothing
  sees_reach : (s : SlotId) (payload : List ℕ) (i n : ℕ) (old new : SeatState V) → Knows old
      → Walks fits d
      (each_from i n (λ k. move (act.See s k) (outcome.Word (slice_index payload k)))) old new
      → Reaches d old new
  sees_reach s payload i zero old new knows walks = reaches_same d old new knows walks
  sees_reach s payload i (suc n) old new knows walks =
      let mid = walks.0 in
      let step = walks.1 in
      let does = step_does d (act.See s i) old mid _ step knows.root knows.known in
      let one : Reaches d old mid = record {
        tidies = tidies_none (known_plain d old) (known_plain d mid) does.1.3;
        knows = knows_step fits d (act.See s i) old mid _ knows step;
        goes = step_goes d old mid (act.See s i) _ step;
      } in
      reaches_on d old mid new one (sees_reach s payload (i + 1) n mid new one.knows walks.2)

  sees_part : (s : SlotId) (payload : List ℕ) (old new : SeatState V) → Knows old
      → old.view.core.phase ≡ phase.Idle → SeesAll fits d s payload old new → Part d old new
  sees_part s payload old new knows idle sees = record {
    reaches = sees_reach s payload 0 16 old new knows sees.goes.becomes.walks;
    idle = ap (λ (u : CoreView). u.phase) sees.goes.becomes.core ∙ idle;
  }

  ends_part : (s : SlotId) (last : Bool) (old mid new : SeatState V) → Knows old
      → Steps fits d same_view IsSameView (act.Destroy s) old mid
      (if last then outcome.Last else outcome.Left)
      → MatchBool last (Steps fits d same_view IsSameView act.Free mid new outcome.Plain) (new ≡ mid)
      → Part d old new
  ends_part s false old mid new knows step frees =
      let one = one_reaches old mid _ s knows step in
      let idle : mid.view.core.phase ≡ phase.Idle =
      ap (λ (u : CoreView). u.phase) step.told.core ∙ is_done (step.word == 1) s step.answers in
      record {
        reaches = reaches_on d old mid new one (reaches_same d mid new one.knows frees);
        idle = ap (λ (y : SeatState V). y.view.core.phase) frees ∙ idle;
      }
  ends_part s true old mid new knows step frees =
      let one = one_reaches old mid _ s knows step in
      let does = step_does d act.Free mid new _ frees one.knows.root one.knows.known in
      let two : Reaches d mid new = record {
        tidies =
            give_shown (known_plain d mid) (known_plain d new) _ (slot_of mid.view.core.phase) does;
        knows = knows_step fits d act.Free mid new _ one.knows frees;
        goes = step_goes d mid new act.Free _ frees;
      } in
      record {
        reaches = reaches_on d old mid new one two;
        idle = ap (λ (u : CoreView). u.phase) frees.told.core;
      }

  reaps_part : (weight : List ℕ → ℕ) (answer : ℕ) (old new : SeatState V) → Knows old
      → old.view.core.phase ≡ phase.Idle → Reaps fits d weight answer old new → Part d old new
  reaps_part weight answer old new knows idle r =
      let s = r.slot in
      let a = finds_part s old r.ripe knows idle r.finds in
      let b = clears_part (Field s 0) r.ripe r.first a.reaches.knows a.idle r.clears_first in
      let c = clears_part (Field s 1) r.first r.second b.reaches.knows b.idle r.clears_second in
      let e = clears_part (WeakField s) r.second r.null c.reaches.knows c.idle r.clears_weak in
      let f = sees_part s r.payload r.null r.read e.reaches.knows e.idle r.sees in
      let g = ends_part s r.destroys.last r.read r.destroys.mid new f.reaches.knows
      r.destroys.destroys r.destroys.frees in
      part_on d old r.read new
      (part_on d old r.null r.read
      (part_on d old r.second r.null
      (part_on d old r.first r.second (part_on d old r.ripe r.first a b) c) e) f) g

  none_part : (weight : List ℕ → ℕ) (old new : SeatState V) → Knows old
      → old.view.core.phase ≡ phase.Idle → Answers fits d weight None old new → Part d old new
  none_part weight old new knows idle none = ⊎_elim
      (λ (same : (old.view.core.dying ≡ []) × (new ≡ old)).
      part_same d old new knows idle same.1)
      (λ (waits : (old.view.core.ripe ≡ []) × Waits fits d old new).
      collect_part old new knows idle waits.1.collected)
      none

  turn_part : (weight : List ℕ → ℕ) (answer : Option ℕ) (old new : SeatState V) → Knows old
      → old.view.core.phase ≡ phase.Idle → Turn fits d weight answer old new → Part d old new
  turn_part weight (Some answer) old new knows idle turn =
      reaps_part weight answer old new knows idle turn
  turn_part weight None old new knows idle turn =
      let one = none_part weight old turn.0 knows idle turn.1 in
      part_on d old turn.0 new one
      (collect_part turn.0 new one.reaches.knows one.idle turn.2.collected)

  turns_part : (weight : List ℕ → ℕ) (answers : List (Option ℕ)) (old new : SeatState V)
      → Knows old → old.view.core.phase ≡ phase.Idle → Turns fits d weight answers old new
      → Part d old new
  turns_part weight [] old new knows idle turns = part_same d old new knows idle turns
  turns_part weight (a ∷ rest) old new knows idle turns =
      let first = turns_part weight rest old turns.0 knows idle turns.1 in
      part_on d old turns.0 new first
      (turn_part weight a turns.0 new first.reaches.knows first.idle turns.2)

  -- the state before the last collect of a settle, and what came so far
  pub settle_part : (weight : List ℕ → ℕ) (total : ℕ) (old new : SeatState V) → Knows old
      → old.view.core.phase ≡ phase.Idle → (s : Settles fits d weight total old new)
      → Part d old s.reaped
  settle_part weight total old new knows idle s =
      let turns = turns_part weight s.answers old s.before knows idle s.turns in
      part_on d old s.before s.reaped turns
      (none_part weight s.before s.reaped turns.reaches.knows turns.idle s.reaps_none)

  pub settle_all : (weight : List ℕ → ℕ) (total : ℕ) (old new : SeatState V) → Knows old
      → old.view.core.phase ≡ phase.Idle → Settles fits d weight total old new → Part d old new
  settle_all weight total old new knows idle s =
      let most = settle_part weight total old new knows idle s in
      part_on d old s.reaped new most
      (collect_part s.reaped new most.reaches.knows most.idle s.quiets.collected)
