-- A seat that is alone knows the whole state, and so the epoch.
use Rattle.std.specs.Prelude.{ℕ, ◌≡◌, ◌+◌, ◌<◌, ◌≤◌, All, Some}
use Rattle.epoch_refs.specs.epoch_core.declared.act.Dated.{Dated}
use Rattle.epoch_refs.specs.epoch_core.Runs.{epoch}
use Rattle.epoch_refs.specs.epoch_core.Steps.{CanLeave}
use Rattle.epoch_refs.specs.epoch_core.Words.{last_epoch}
use Rattle.epoch_refs.specs.epoch_rule.Views.{core_in}
use Rattle.epoch_refs.specs.epoch_rule.declared.view.EpochSeatView.{EpochSeatView}
use Rattle.epoch_refs.specs.epoch_rule.declared.view.EpochWhole.{EpochWhole}

module _ {V : Type 0} where
  -- the seat is alone, as it knows the whole state, and this is the epoch
  pub record KnowsEpoch (e : ℕ) (v : EpochSeatView V) : Type 0 where
    pub all : EpochWhole
    pub knows : v.whole ≡ Some all
    pub now : epoch (core_in all) ≡ e

  -- It knows that epoch, is in no region and in the middle of nothing; the epoch isn't the last one.
  pub record MayAdvance (e : ℕ) (v : EpochSeatView V) : Type 0 where
    pub epoch : KnowsEpoch e v
    pub can : CanLeave v.core
    pub early : e < last_epoch

  -- all of its entries are dated e or later
  abbrev pub AreLater : ℕ → EpochSeatView V → Type 0
  AreLater e v = All (λ (x : Dated). e ≤ x.date) v.core.pending

  -- none of its entries is dated later than e
  abbrev pub AreNoLater : ℕ → EpochSeatView V → Type 0
  AreNoLater e v = All (λ (x : Dated). x.date ≤ e) v.core.pending

  -- The epoch is one later, which the seat knows; it has paid each entry dated before e.
  pub record HasAdvanced (e : ℕ) (v : EpochSeatView V) : Type 0 where
    pub epoch : KnowsEpoch (e + 1) v
    pub known : v.core.known ≡ e + 1
    pub can : CanLeave v.core
    pub later : AreLater e v
