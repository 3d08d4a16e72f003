-- A flush of a seat that is alone and in no region makes the epoch one later, and pays what is dated before.
use Rattle.std.proofs.Common.{◌≡◌, ◌≢◌, ⊎_elim, ℕ, ◌+◌, ◌<◌, Bool, true, false, List, [], ◌∷◌, ◌++◌, length, replicate, refl, ap, sym, ◌∙◌, subst, arith}
use Rattle.std.specs.Prelude.{Some, ◌&&◌, ◌==◌, nat_lt, not, slice_index, if◌then◌else◌}
use Rattle.std.specs.List.{list_all}
use Rattle.std.proofs.lemmas.Bool.{cases_eq}
use Rattle.std.proofs.lemmas.Bool.Decides.{nat_tests}
use Rattle.epoch_core.specs.declared.act.EpochAct.{EpochAct}
use Rattle.epoch_core.specs.declared.act.EpochAct.TheVariants as act
use Rattle.epoch_core.specs.declared.outcome.EpochOutcome.{EpochOutcome}
use Rattle.epoch_core.specs.declared.outcome.EpochOutcome.TheVariants as outcome
use Rattle.epoch_core.specs.declared.shape.EpochShape.{EpochShape}
use Rattle.epoch_core.specs.declared.view.EpochPhase.{EpochPhase}
use Rattle.epoch_core.specs.declared.view.EpochPhase.TheVariants as phase
use Rattle.epoch_core.specs.declared.view.EpochView.{EpochView}
use Rattle.epoch_core.specs.Alone.{Acts, Flushed, flush_acts}
use Rattle.epoch_core.specs.Runs.{Core, after, view_at}
use Rattle.epoch_core.specs.Steps.{CanLeave, is_fit, scanned, scanned_at}
use Rattle.epoch_core.specs.Words.{last_epoch, region_at}
use Rattle.epoch_core.proofs.Alone.{flush_advances}
use Rattle.epoch_refs.specs.epoch_rule.Views.{core_in, whole_of}
use Rattle.epoch_refs.specs.epoch_rule.declared.view.EpochWhole.{EpochWhole}
use Rattle.epoch_refs.specs.epoch_domain.Calls.{IsSameView, Steps, same_view}
use Rattle.epoch_refs.specs.epoch_domain.Domains.{DomainState}
use Rattle.epoch_refs.specs.epoch_domain.Seats.{SeatState}
use Rattle.epoch_refs.specs.Flushing.{Sweeps, may_advance, scans, tries}
use Rattle.epoch_refs.specs.Walks.{Walks, move}
use Rattle.epoch_settling.specs.Alone.{KnowsEpoch, MayAdvance}
use Rattle.epoch_settling.proofs.Whole.{RunsAlone, runs_step, steps_alone, walks_split}

-- a scan opens and closes no region
scan_number : (z : EpochShape) (w : ℕ) (p : EpochPhase) (v : EpochView)
    → (scanned z w p v).number ≡ v.number
scan_number z w phase.Idle v = refl
scan_number z w (phase.Entering e) v = refl
scan_number z w (phase.Undated s) v = refl
scan_number z w (phase.Blank s) v = refl
scan_number z w (phase.Scan x) v = go (x.passed + 1 == z.seats && not (x.fit && is_fit x.epoch w && nat_lt x.epoch last_epoch))
    (x.fit && is_fit x.epoch w)
  where
    go : (b f : Bool)
        → (if b then record v { known = x.epoch; phase = phase.Idle }
        else record v { phase = phase.Scan (record { epoch = x.epoch; passed = x.passed + 1; fit = f }) }).number
        ≡ v.number
    go true f = refl
    go false f = refl

acts_then : (z : EpochShape) (xs ys : List EpochAct) (c b d : Core) → Acts z 0 xs c b → Acts z 0 ys b d
    → Acts z 0 (xs ++ ys) c d
acts_then z [] ys c b d first second = subst (λ (x : Core). Acts z 0 ys x d) first second
acts_then z (x ∷ xs) ys c b d first second =
    (first.0, first.1, acts_then z xs ys first.0 b d first.2 second)

module _ {P V : Type 0} (fits : List ℕ → Type 0) (d : DomainState P) where
  -- each region word that it reads is 0
  reads_zero : (all : EpochWhole) (w : ℕ) (o : EpochOutcome) (old new : SeatState V)
      → (step : Steps fits d same_view IsSameView act.Scan old new (outcome.Word w))
      → old.view.whole ≡ Some all → old.view.core.number ≡ 0 → w ≡ 0
  reads_zero all w o old new step knows outside =
      let s = steps_alone fits d act.Scan (outcome.Word w) all old new step knows in
      let c = core_in all in
      let x = s.enabled.1.0 in
      let scan : (view_at c 0).phase ≡ phase.Scan x = s.enabled.1.1 in
      let low = s.enabled.1.2 in
      let word : slice_index c.words (region_at x.passed) ≡ (view_at c x.passed).number =
      s.sound.stand x.passed low in
      let found_is : step.word ≡ slice_index c.words (region_at x.passed) =
      s.found_is ∙ ap (λ (p : EpochPhase). slice_index c.words (scanned_at p)) scan in
      let same : w ≡ step.word = word_of_outcome (step.answers) in
      same ∙ (found_is ∙ (word ∙ ⊎_elim
      (λ (here : x.passed ≡ 0). ap (λ (m : ℕ). (view_at c m).number) here
      ∙ (ap (λ (v : EpochView). v.number) (sym s.mine) ∙ outside))
      (λ (ne : x.passed ≢ 0). ((s.sound.seats x.passed low).gone (s.only x.passed low ne)).1)
      (cases_eq x.passed 0)))
    where
      word_of : EpochOutcome → ℕ
      word_of (outcome.Word k) = k
      word_of p = 0

      word_of_outcome : {a b : ℕ} → outcome.Word a ≡ outcome.Word b → a ≡ b
      word_of_outcome is = ap word_of is

  record Scanned (e : ℕ) (words : List ℕ) (all : EpochWhole) (new : SeatState V) : Type 0 where
    fit : list_all (is_fit e) words ≡ true
    runs : RunsAlone fits d (replicate (length words) act.Scan) all new
    number : new.view.core.number ≡ 0

  all_zero : (e : ℕ) (words : List ℕ) (all : EpochWhole) (old new : SeatState V)
      → Walks fits d (scans words) old new → old.view.whole ≡ Some all → old.view.core.number ≡ 0
      → Scanned e words all new
  all_zero e [] all old new walk knows outside = record {
    fit = refl;
    runs = record {
      whole = all;
      knows = subst (λ (s : SeatState V). s.view.whole ≡ Some all) (sym walk) knows;
      acted = refl;
    };
    number = subst (λ (s : SeatState V). s.view.core.number ≡ 0) (sym walk) outside;
  }
  all_zero e (w ∷ words) all old new walk knows outside =
      let s = steps_alone fits d act.Scan (outcome.Word w) all old walk.0 walk.1 knows in
      let none : w ≡ 0 = reads_zero all w (outcome.Word w) old walk.0 walk.1 knows outside in
      let still : walk.0.view.core.number ≡ 0 =
      ap (λ (v : EpochView). v.number) walk.1.told.core
      ∙ (scan_number d.shape walk.1.word old.view.core.phase old.view.core ∙ outside) in
      let rest = all_zero e words (whole_of (after d.shape (core_in all) 0 act.Scan)) walk.0 new walk.2
      s.then still in
      let test : is_fit e w ≡ true = grind (arith, nat_tests) in
      record {
        fit = rw test rest.fit;
        runs = runs_step fits d act.Scan (replicate (length words) act.Scan) all walk.1.word old walk.0
            new s rest.runs;
        number = rest.number;
      }

  -- after the sweep the epoch is one later, and the seat knows it
  pub record SweptAlone (e : ℕ) (new : SeatState V) : Type 0 where
    pub knows : KnowsEpoch (e + 1) new.view
    pub known : new.view.core.known ≡ e + 1

  pub sweeps_alone : (e : ℕ) (old new : SeatState V) → Sweeps fits d old new → MayAdvance e old.view
      → SweptAlone e new
  sweeps_alone e old new sweeps may =
      let all = may.epoch.all in
      let c = core_in all in
      let walk = sweeps.walks in
      let s = steps_alone fits d act.Flush (outcome.Epoch sweeps.epoch) all old walk.0 walk.1
      may.epoch.knows in
      let parts = walks_split fits d (scans sweeps.words)
      (tries (may_advance sweeps.epoch sweeps.words) sweeps.answer) walk.0 new walk.2 in
      let still : walk.0.view.core.number ≡ 0 =
      ap (λ (v : EpochView). v.number) walk.1.told.core ∙ may.can.1 in
      let first = whole_of (after d.shape c 0 act.Flush) in
      let scanned' = all_zero sweeps.epoch sweeps.words first walk.0 parts.0 parts.1 s.then still in
      let read : sweeps.epoch ≡ e =
      epoch_of_outcome walk.1.answers ∙ (s.found_is ∙ may.epoch.now) in
      let early = may.early in
      let low : nat_lt sweeps.epoch last_epoch ≡ true = grind (arith, nat_tests) in
      let allowed : may_advance sweeps.epoch sweeps.words ≡ true = rw (scanned'.fit, low) refl in
      let last : Walks fits d (move act.Advance sweeps.answer ∷ []) parts.0 new =
      subst (λ (b : Bool). Walks fits d (tries b sweeps.answer) parts.0 new) allowed parts.2 in
      let mid = scanned'.runs.whole in
      let t = steps_alone fits d act.Advance sweeps.answer mid parts.0 last.0 last.1
      scanned'.runs.knows in
      let end : EpochWhole = whole_of (after d.shape (core_in mid) 0 act.Advance) in
      let acts : Acts d.shape 0 (flush_acts d.shape) c (core_in end) = (
        after d.shape c 0 act.Flush,
        (s.enabled, refl),
        acts_then d.shape (replicate d.shape.seats act.Scan) (act.Advance ∷ []) (core_in first)
            (core_in mid) (core_in end)
            (subst (λ (n : ℕ). Acts d.shape 0 (replicate n act.Scan) (core_in first) (core_in mid))
            sweeps.all scanned'.runs.acted)
            (core_in end, (t.enabled, refl), refl),
      ) in
      let some : 0 < d.shape.seats = s.sound.shape.0 in
      let can : _ = subst (λ (v : EpochView). CanLeave v) s.mine may.can in
      let f : Flushed d.shape 0 c (core_in end) =
      flush_advances d.shape 0 c (core_in end) s.sound some s.only can
      (let now = may.epoch.now in omega (arith, now, early)) acts in
      record {
        knows = record {
          all = end;
          knows = subst (λ (x : SeatState V). x.view.whole ≡ Some end) (sym last.2) t.then;
          now = f.now ∙ ap (λ (n : ℕ). n + 1) may.epoch.now;
        };
        known =
            subst (λ (x : SeatState V). x.view.core.known ≡ e + 1) (sym last.2)
            (ap (λ (v : EpochView). v.known) t.mine_then
            ∙ (f.known ∙ ap (λ (n : ℕ). n + 1) may.epoch.now));
      }
    where
      epoch_in : EpochOutcome → ℕ
      epoch_in (outcome.Epoch k) = k
      epoch_in p = 0

      epoch_of_outcome : {a b : ℕ} → outcome.Epoch a ≡ outcome.Epoch b → a ≡ b
      epoch_of_outcome is = ap epoch_in is
