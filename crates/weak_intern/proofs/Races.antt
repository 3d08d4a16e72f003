-- A race that was lost stays so, and which adds were left where a call found none.
use Rattle.std.proofs.Common.{◌≡◌, inl, inr, ⊎_elim, ℕ, ◌+◌, ◌≤◌, List, [], ◌∷◌, ◌++◌, ap, sym, ◌∙◌, arith, append_assoc, None}
use Rattle.std.specs.Prelude.{◌⊎◌}
use Rattle.atomic_weak.specs.plain_state.declared.act.EventPlace.TheVariants.{WeakCell}
use Rattle.atomic_weak.specs.plain_state.declared.slot.SlotId.{SlotId}
use Rattle.atomic_weak.specs.core_events.declared.act.Act.TheVariants as act
use Rattle.atomic_weak.specs.core_events.declared.outcome.Outcome.TheVariants as outcome
use Rattle.atomic_weak.specs.core_events.declared.view.CoreView.{CoreView}
use Rattle.atomic_weak.specs.core_events.declared.view.Move.{Move}
use Rattle.atomic_weak.specs.core_events.declared.shape.Quota.{Quota}
use Rattle.atomic_weak.specs.acquire_retire.Collecting.{move}
use Rattle.atomic_weak.specs.control_word.Resting.{IsSpent}
use Rattle.record_making.specs.directory_calls.Steps.{GoesOn}
use Rattle.atomic_weak.specs.protected_loads.Retries.{lost_by}
use Rattle.weak_intern.specs.Races.{IsWhyShort, LosesRace, MissesCell, missed_by}
use Rattle.weak_intern.specs.Sighting.{Sights}

abbrev raced : ℕ → SlotId → SlotId → List Move → List Move
raced i s now later =
    move (act.Look (WeakCell i)) (outcome.Found None) ∷ missed_by i s now ++ later

pub race_then : (u v w : CoreView) → LosesRace u v → GoesOn v w → LosesRace u w
race_then u v w lost on =
    let race = raced lost.cell lost.slot lost.now lost.later in
    record {
      cell = lost.cell;
      slot = lost.slot;
      now = lost.now;
      earlier = lost.earlier;
      later = lost.later ++ on.0;
      trail =
          on.1 ∙ ap (λ (ms : List Move). ms ++ on.0) lost.trail
          ∙ append_assoc u.trail (lost.earlier ++ race) on.0
          ∙ ap (λ (ms : List Move). u.trail ++ ms) (append_assoc lost.earlier race on.0);
    }

pub race_before : (u v w : CoreView) → GoesOn u v → LosesRace v w → LosesRace u w
race_before u v w on lost =
    let race = raced lost.cell lost.slot lost.now lost.later in
    record {
      cell = lost.cell;
      slot = lost.slot;
      now = lost.now;
      earlier = on.0 ++ lost.earlier;
      later = lost.later;
      trail =
          lost.trail ∙ ap (λ (ms : List Move). ms ++ (lost.earlier ++ race)) on.1
          ∙ append_assoc u.trail on.0 (lost.earlier ++ race)
          ∙ ap (λ (ms : List Move). u.trail ++ ms) (sym (append_assoc on.0 lost.earlier race));
    }

-- a look that found null, and an exchange that didn't
pub race_of : (i j : ℕ) (s : SlotId) (u v w : CoreView) → Sights i j None u v
    → MissesCell i s v w → LosesRace u w
race_of i j s u v w sights misses =
    let tries : List Move = lost_by j (WeakCell i) sights.lost in
    let looked : List Move = move (act.Look (WeakCell i)) (outcome.Found None) ∷ [] in
    let missed : List Move = missed_by i s misses.0 ++ misses.1 in
    record {
      cell = i;
      slot = s;
      now = misses.0;
      earlier = tries;
      later = misses.1;
      trail =
          misses.2
          ∙ ap (λ (ms : List Move). ms ++ missed) (ap (λ (x : CoreView). x.trail) sights.core)
          ∙ append_assoc u.trail (tries ++ looked) missed
          ∙ ap (λ (ms : List Move). u.trail ++ ms) (append_assoc tries looked missed);
    }

-- WHERE NONE IS LEFT
pub few_left : (n : ℕ) (u v : CoreView) → IsSpent v → v.quota ≡ u.quota → v.adds ≤ u.adds + n
    → u.quota.adds ≤ u.adds + n
few_left n u v spent same most =
    let q = ap (λ (x : Quota). x.adds) same in omega (arith, spent, q, most)

-- a call that began after at most n adds were used
pub short_then : (m n k : ℕ) (u v w : CoreView) → m + n ≤ k → GoesOn u v → v.quota ≡ u.quota
    → v.adds ≤ u.adds + n → IsWhyShort m v w → IsWhyShort k u w
short_then m n k u v w all on same most why =
    let q = ap (λ (x : Quota). x.adds) same in
    ⊎_elim (λ few. inl (omega (arith, q, most, few, all)))
    (λ lost. inr (race_before u v w on lost)) why

-- and one that went on after it
pub short_on : (n : ℕ) (u v w : CoreView) → IsWhyShort n u v → GoesOn v w → IsWhyShort n u w
short_on n u v w why on = ⊎_elim (λ few. inl few) (λ lost. inr (race_then u v w lost on)) why

-- the seat has used at most n adds, or has lost a race
abbrev pub UsesFew : ℕ → CoreView → CoreView → Type 0
UsesFew n u v = (v.adds ≤ u.adds + n) ⊎ LosesRace u v

pub uses_on : (m n : ℕ) (u v w : CoreView) → UsesFew m u v → w.adds ≤ v.adds + n → GoesOn v w
    → UsesFew (m + n) u w
uses_on m n u v w uses more on =
    ⊎_elim (λ few. inl (omega (arith, few, more))) (λ lost. inr (race_then u v w lost on)) uses

pub spent_short : (m n : ℕ) (u v : CoreView) → UsesFew m u v → IsSpent v → v.quota ≡ u.quota
    → m ≤ n → IsWhyShort n u v
spent_short m n u v uses spent same most =
    ⊎_elim (λ few. inl (few_left n u v spent same (omega (arith, few, most)))) (λ lost. inr lost)
    uses
