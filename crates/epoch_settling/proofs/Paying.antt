-- What flushes of a seat that is alone pay.
use Rattle.std.proofs.Common.{◌≡◌, ℕ, zero, suc, ◌+◌, ◌<◌, ◌≤◌, true, List, [], ◌∷◌, length, refl, sym, ◌∙◌, subst, arith}
use Rattle.std.specs.Prelude.{All, slice_index_or, if◌then◌else◌}
use Rattle.std.proofs.lemmas.Bool.Decides.{nat_tests}
use Rattle.epoch_core.specs.declared.act.Dated.{Dated}
use Rattle.epoch_core.specs.declared.view.EpochView.{EpochView}
use Rattle.epoch_core.specs.Runs.{view_at}
use Rattle.epoch_core.specs.declared.act.EpochAct.TheVariants as act
use Rattle.epoch_core.specs.declared.outcome.EpochOutcome.TheVariants as outcome
use Rattle.epoch_core.specs.Steps.{CanLeave, dated_times, is_dated}
use Rattle.epoch_core.specs.Words.{last_epoch}
use Rattle.epoch_core.proofs.Kit.{dated_cons}
use Rattle.epoch_refs.specs.epoch_rule.Views.{core_in}
use Rattle.epoch_refs.specs.epoch_rule.declared.view.EpochSeatView.{EpochSeatView}
use Rattle.epoch_refs.specs.epoch_domain.Domains.{DomainState}
use Rattle.epoch_refs.specs.epoch_domain.Seats.{SeatState}
use Rattle.epoch_refs.specs.declared.flushing.EpochWork.{EpochWork}
use Rattle.epoch_refs.specs.Flushing.{Flushes, IsFlushing, NoneDue}
use Rattle.epoch_settling.specs.Alone.{AreLater, AreNoLater, HasAdvanced, KnowsEpoch, MayAdvance}
use Rattle.epoch_settling.proofs.Alone.{sweeps_alone}
use Rattle.epoch_settling.proofs.Resting.{destroys_later, pays_know}
use Rattle.epoch_settling.proofs.Whole.{steps_alone}

none_due_later : (e : ℕ) (v : EpochView) → v.known ≡ e + 1 → NoneDue v
    → All (λ (x : Dated). e ≤ x.date) v.pending
none_due_later e v known none = λ k other low. late k other low
  where
    late : (k : ℕ) (other : Dated) → k < length v.pending → e ≤ (slice_index_or v.pending k other).date
    late k other low = by_not_less (λ early. none k other low (omega (arith, known, early)))
      where
        by_not_less : {a b : ℕ} → (a < b → ⊥) → b ≤ a
        by_not_less not_less = omega (arith, not_less)

can_still : (v u : EpochView) → IsFlushing v u → CanLeave v → CanLeave u
can_still v u same can = subst (λ (x : EpochView). CanLeave x) (sym same) can

-- an entry stands in the list that has it at a place
stands_there : (xs : List Dated) (i : ℕ) (other : Dated) → i < length xs
    → 0 < dated_times (slice_index_or xs i other) xs
stands_there [] i other low = absurd (omega (arith, low))
stands_there (x ∷ xs) zero other low =
    let c = dated_cons x x xs in
    let same : is_dated x x ≡ true = grind (arith, nat_tests) in
    let one : ◌≡◌ {A = ℕ} (if is_dated x x then 1 else 0) 1 = rw same refl in omega (arith, c, one)
stands_there (x ∷ xs) (suc i) other low =
    let c = dated_cons (slice_index_or xs i other) x xs in
    let rest = stands_there xs i other (omega (arith, low)) in omega (arith, c, rest)

module _ {P V : Type 0} (fits : List ℕ → Type 0) (weight : List ℕ → ℕ) (d : DomainState P) where
  pub once : (work : EpochWork) (e : ℕ) (old new : SeatState V) → Flushes fits d weight work old new
      → MayAdvance e old.view → HasAdvanced e new.view
  once work e old new f may =
      let ready : MayAdvance e f.ready.view =
      subst (λ (v : EpochSeatView V). MayAdvance e v) (sym f.reserved.1) may in
      let swept = sweeps_alone fits d e f.ready f.swept f.sweeps ready in
      let paid = pays_know fits d f.entries (e + 1) f.swept f.given f.pays.walks swept.knows in
      let known : f.given.view.core.known ≡ e + 1 = f.pays.known ∙ swept.known in
      let ended = destroys_later fits d weight e (e + 1) (omega arith) f.ended f.given new f.destroys paid
      known (none_due_later e f.given.view.core known f.none_due) in
      record {
        epoch = ended.0;
        known = ended.1;
        can = can_still old.view.core new.view.core f.core may.can;
        later = ended.2;
      }

  -- what is pending is dated no later than the epoch that the seat knows
  pub no_later : (work : EpochWork) (e : ℕ) (old new : SeatState V) → Flushes fits d weight work old new
      → KnowsEpoch e old.view → AreNoLater e old.view
  no_later work e old new f k = λ i other low.
      subst (λ (v : EpochSeatView V). i < length v.core.pending
      → (slice_index_or v.core.pending i other).date ≤ e) f.reserved.1 (dated i other) low
    where
      ready : KnowsEpoch e f.ready.view
      ready = subst (λ (v : EpochSeatView V). KnowsEpoch e v) (sym f.reserved.1) k

      dated : (i : ℕ) (other : Dated) → i < length f.ready.view.core.pending
          → (slice_index_or f.ready.view.core.pending i other).date ≤ e
      dated i other low =
          let walk = f.sweeps.walks in
          let s = steps_alone fits d act.Flush (outcome.Epoch f.sweeps.epoch) ready.all f.ready walk.0
          walk.1 ready.knows in
          let some : 0 < d.shape.seats = s.sound.shape.0 in
          let x = slice_index_or f.ready.view.core.pending i other in
          let stands : 0 < dated_times x (view_at (core_in ready.all) 0).pending =
          subst (λ (v : EpochView). 0 < dated_times x v.pending) s.mine
          (stands_there f.ready.view.core.pending i other low) in
          let date = (s.sound.regions 0 some).dates x stands in
          let now = ready.now in omega (arith, date, now)

  pub twice : (first second : EpochWork) (e : ℕ) (old mid new : SeatState V)
      → Flushes fits d weight first old mid → Flushes fits d weight second mid new
      → MayAdvance e old.view → e + 1 < last_epoch → AreNoLater e old.view × AreLater (e + 1) new.view
  twice first second e old mid new f g may early =
      let one = once first e old mid f may in
      let two = once second (e + 1) mid new g
      (record { epoch = one.epoch; can = one.can; early = early }) in
      (no_later first e old mid f may.epoch, two.later)
