-- The region words are read, one after another.
use Rattle.std.proofs.Common.{◌≡◌, ℕ, ◌+◌, ◌<◌, ◌≤◌, Bool, true, false, List, [], ◌∷◌, ◌++◌, length, length-append, refl, ap, sym, ◌∙◌, subst, arith}
use Rattle.std.specs.Prelude.{◌==◌, ◌&&◌, not, nat_lt, if◌then◌else◌}
use Rattle.std.specs.List.{list_all}
use Rattle.std.proofs.lemmas.Bool.Decides.{nat_tests}
use Rattle.std.proofs.lemmas.List.{map-append}
use Rattle.std.proofs.lemmas.List.Folds.{list_all-append}
use Rattle.epoch_domain.specs.epoch_core.declared.act.EpochAct.TheVariants as act
use Rattle.epoch_domain.specs.epoch_core.declared.outcome.EpochOutcome.{EpochOutcome}
use Rattle.epoch_domain.specs.epoch_core.declared.outcome.EpochOutcome.TheVariants as outcome
use Rattle.epoch_domain.specs.epoch_core.declared.shape.EpochShape.{EpochShape}
use Rattle.epoch_domain.specs.epoch_core.declared.view.EpochMove.{EpochMove}
use Rattle.epoch_domain.specs.epoch_core.declared.view.EpochPhase.{EpochPhase}
use Rattle.epoch_domain.specs.epoch_core.declared.view.EpochPhase.TheVariants as phase
use Rattle.epoch_domain.specs.epoch_core.declared.view.EpochView.{EpochView}
use Rattle.epoch_domain.specs.epoch_core.Steps.{is_fit, noted, scanned, swept}
use Rattle.epoch_domain.specs.epoch_core.Words.{last_epoch}
use Rattle.epoch_domain.specs.Calls.{IsOf, IsSameView, Steps, same_view}
use Rattle.epoch_domain.specs.Domains.{DomainState}
use Rattle.epoch_domain.specs.Seats.{SeatState}
use Rattle.epoch_refs.specs.Flushing.{Scans, scans}
use Rattle.epoch_refs.specs.Walks.{Walks, move}
use Rattle.epoch_refs.proofs.Walking.{one_step, walks_then}

-- a seat that is so far in its scan, and has found these words fit
abbrev pub at_scan : ℕ → ℕ → Bool → EpochPhase
at_scan e k f = phase.Scan (record { epoch = e; passed = k; fit = f })

and_true : (b : Bool) → (b && true) ≡ b
and_true true = refl
and_true false = refl

-- before the last word the scan goes on
goes_on : (z : EpochShape) (e k : ℕ) (f : Bool) (v : EpochView) → k < z.seats
    → swept z e k f v ≡ record v { phase = at_scan e k f }
goes_on z e k f v more =
    let test : (k == z.seats) ≡ false = grind (arith, nat_tests) in rw test refl

-- how a scan goes on rests on nothing that it changes
over : (z : EpochShape) (e k : ℕ) (f : Bool) (v : EpochView) (p : EpochPhase)
    (s t : List EpochMove)
    → ◌≡◌ {A = EpochView} (record (swept z e k f (record v { phase = p; trail = s })) { trail = t })
    (record (swept z e k f v) { trail = t })
over z e k f v p s t = go (k == z.seats && not (f && nat_lt e last_epoch))
  where
    go : (b : Bool)
        → ◌≡◌ {A = EpochView}
        (record (if b
        then record v { phase = phase.Idle; trail = s; known = e }
        else record v { phase = at_scan e k f; trail = s }) { trail = t })
        (record (if b then record v { known = e; phase = phase.Idle }
        else record v { phase = at_scan e k f }) { trail = t })
    go true = refl
    go false = refl

module _ {P V : Type 0} (fits : List ℕ → Type 0) (d : DomainState P) where
  -- the first k region words are read
  pub record SoFar (k : ℕ) (old new : SeatState V) : Type 0 where
    pub of : IsOf d new
    pub epoch : ℕ
    pub began : old.view.core.phase ≡ at_scan epoch 0 true
    pub words : List ℕ
    pub count : length words ≡ k
    pub scanned : Scans fits d words epoch old new
    pub room : old.room ≤ new.room

  pub none_so_far : (old : SeatState V) → IsOf d old → 0 < d.shape.seats → (e : ℕ)
      → old.view.core.phase ≡ at_scan e 0 true → SoFar 0 old old
  none_so_far old of some e began = record {
    of = of;
    epoch = e;
    began = began;
    words = [];
    count = refl;
    scanned = record {
      walks = refl;
      core = (λ i. record old.view.core { phase = began i })
          ∙ ap (λ (v : EpochView). record v { trail = old.view.core.trail })
          (sym (goes_on d.shape e 0 true old.view.core some));
    };
    room = omega arith;
  }

  module _ (k : ℕ) (old mid : SeatState V) (so : SoFar k old mid) (more : k < d.shape.seats) where
    -- the seat is in its scan
    pub in_scan : mid.view.core.phase ≡ at_scan so.epoch k (list_all (is_fit so.epoch) so.words)
    in_scan =
        ap (λ (v : EpochView). v.phase) so.scanned.core
        ∙ (ap (λ (n : ℕ). (swept d.shape so.epoch n (list_all (is_fit so.epoch) so.words) old.view.core).phase)
        so.count
        ∙ ap (λ (v : EpochView). v.phase)
        (goes_on d.shape so.epoch k (list_all (is_fit so.epoch) so.words) old.view.core more))

    module _ (new : SeatState V) (o : EpochOutcome)
        (step : Steps fits d same_view IsSameView act.Scan mid new o) where
      abbrev w : ℕ
      w = step.word

      abbrev f : Bool
      f = list_all (is_fit so.epoch) so.words

      count_more : length (so.words ++ w ∷ []) ≡ k + 1
      count_more = length-append so.words (w ∷ []) ∙ ap (λ (n : ℕ). n + 1) so.count

      all_more : list_all (is_fit so.epoch) (so.words ++ w ∷ []) ≡ f && is_fit so.epoch w
      all_more =
          list_all-append (is_fit so.epoch) so.words (w ∷ [])
          ∙ ap (λ (b : Bool). f && b) (and_true (is_fit so.epoch w))

      -- what the seat had when it had read k words
      had : mid.view.core
          ≡ record old.view.core { phase = at_scan so.epoch k f; trail = mid.view.core.trail }
      had =
          so.scanned.core
          ∙ ((λ i. record (swept d.shape so.epoch (so.count i) f old.view.core) {
            trail = mid.view.core.trail;
          })
          ∙ ap (λ (v : EpochView). record v { trail = mid.view.core.trail })
          (goes_on d.shape so.epoch k f old.view.core more))

      moved_is : new.view.core
          ≡ noted act.Scan (outcome.Word w)
          (swept d.shape so.epoch (k + 1) (f && is_fit so.epoch w) mid.view.core)
      moved_is =
          step.told.core
          ∙ (λ i. noted act.Scan (outcome.Word w) (scanned d.shape w (in_scan i) mid.view.core))

      trail_is : new.view.core
          ≡ record (swept d.shape so.epoch (k + 1) (f && is_fit so.epoch w) mid.view.core) {
            trail = new.view.core.trail;
          }
      trail_is =
          moved_is
          ∙ ap (λ (t : List EpochMove).
          record (swept d.shape so.epoch (k + 1) (f && is_fit so.epoch w) mid.view.core) {
            trail = t;
          }) (sym (ap (λ (v : EpochView). v.trail) moved_is))

      core_is : new.view.core
          ≡ record (swept d.shape so.epoch (k + 1) (f && is_fit so.epoch w) old.view.core) {
            trail = new.view.core.trail;
          }
      core_is =
          trail_is
          ∙ (ap (λ (v : EpochView).
          record (swept d.shape so.epoch (k + 1) (f && is_fit so.epoch w) v) {
            trail = new.view.core.trail;
          }) had
          ∙ over d.shape so.epoch (k + 1) (f && is_fit so.epoch w) old.view.core
          (at_scan so.epoch k f) mid.view.core.trail new.view.core.trail)

      shape_same : (swept d.shape so.epoch (k + 1) (f && is_fit so.epoch w) old.view.core).shape
          ≡ d.shape
      shape_same =
          sym (ap (λ (v : EpochView). v.shape) core_is)
          ∙ (step.told.law.same_shape)

      pub one_more : SoFar (k + 1) old new
      one_more = record {
        of = (step.table ∙ so.of.0, ap (λ (v : EpochView). v.shape) core_is ∙ shape_same);
        epoch = so.epoch;
        began = so.began;
        words = so.words ++ w ∷ [];
        count = count_more;
        scanned = record {
          walks = subst (λ (ms : List EpochMove). Walks fits d ms old new)
              (sym (map-append (λ (x : ℕ). move act.Scan (outcome.Word x)) so.words (w ∷ [])))
              (walks_then fits d (scans so.words) (scans (w ∷ [])) old mid new so.scanned.walks
              (one_step fits d act.Scan (outcome.Word w) mid new
              (subst (Steps fits d same_view IsSameView act.Scan mid new) step.answers step)));
          core = core_is ∙ (λ i. record (swept d.shape so.epoch (sym count_more i) (sym all_more i)
              old.view.core) { trail = new.view.core.trail });
        };
        room = let was = so.room in let more = step.room in omega (arith, was, more);
      }
