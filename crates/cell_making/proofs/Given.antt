-- Handles that come back, and are given up.
use Rattle.std.proofs.Common.{◌≡◌, ℕ, ◌<◌, List, subst, arith}
use Rattle.std.specs.Prelude.{Option, Some}
use Rattle.cell_calls.specs.cell_law.plain_state.declared.slot.SlotId.{SlotId}
use Rattle.cell_calls.specs.cell_law.plain_state.Lists.{times}
use Rattle.cell_calls.specs.Keeping.{Keeps}
use Rattle.epoch_refs.specs.epoch_core.core_events.Views.{without}
use Rattle.epoch_refs.specs.epoch_core.declared.act.EpochAct.TheVariants as act
use Rattle.epoch_refs.specs.epoch_core.declared.outcome.EpochOutcome.{EpochOutcome}
use Rattle.epoch_refs.specs.epoch_domain.Calls.{IsSameView, Steps, same_view}
use Rattle.epoch_refs.specs.epoch_domain.Domains.{DomainState}
use Rattle.epoch_refs.specs.epoch_domain.Seats.{SeatState}
use Rattle.cell_making.proofs.Kept.{drop_back, drop_keeps, keeps_view}
use Rattle.cell_making.proofs.Owned.{keeps_dropped}

-- the handle that comes back is the one that was given
pub given_back : {A : Type 0} (o : Option A) (x y : A) → o ≡ Some x → o ≡ Some y → x ≡ y
given_back o x y is was = cc (is, was)

module _ {P V : Type 0} (fits : List ℕ → Type 0) (d : DomainState P) where
  -- one reference more is given up
  pub one_dropped : (m n : ℕ) (xs : List SlotId) (s : SlotId) (a b c : SeatState V)
      (o : EpochOutcome) → Keeps m n xs a b → 0 < times s xs
      → Steps fits d same_view IsSameView (act.Drop s) b c o
      → Keeps m n (without s xs) a c
  one_dropped m n xs s a b c o keeps owned step =
      let k = keeps.owns s in
      let there : 0 < times s b.view.core.owned = omega (arith, k, owned) in
      keeps_dropped m n xs s a b c keeps owned (drop_keeps fits d b c s o step)
      (drop_back fits d b c s o there step)

  -- where nothing had changed two are given up
  pub both_dropped : (front rest back : SlotId) (a b c e : SeatState V) → back ≡ rest
      → b.view ≡ a.view → 0 < times rest a.view.core.owned
      → 0 < times front (without rest a.view.core.owned)
      → (o p : EpochOutcome)
      → Steps fits d same_view IsSameView (act.Drop back) b c o
      → Steps fits d same_view IsSameView (act.Drop front) c e p
      → Keeps 0 0 (without front (without rest a.view.core.owned)) a e
  both_dropped front rest back a b c e is same owned besides o p first second =
      one_dropped 0 0 (without rest a.view.core.owned) front a c e p
      (one_dropped 0 0 a.view.core.owned rest a b c o (keeps_view a b same) owned
      (subst (λ (h : SlotId). Steps fits d same_view IsSameView (act.Drop h) b c o) is first))
      besides second
