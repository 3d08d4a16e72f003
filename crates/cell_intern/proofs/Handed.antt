-- The head that a loop has is the one that it was given.
use Rattle.std.proofs.Common.{◌≡◌, ℕ, ◌<◌, List, refl, sym, subst, arith}
use Rattle.std.specs.Prelude.{Err, IfOk, IsErr, Ok, Result}
use Rattle.cell_making.specs.counted_handles.Handles.{Handle}
use Rattle.epoch_refs.specs.declared.Spent.{Spent}
use Rattle.cell_calls.specs.Cells.{area_of}
use Rattle.cell_calls.specs.Keeping.{Keeps}
use Rattle.cell_calls.specs.cell_law.directory_law.Cells.{on}
use Rattle.cell_calls.specs.cell_law.declared.view.View.{View}
use Rattle.cell_calls.specs.cell_law.directory_law.Payloads.{Text}
use Rattle.cell_calls.specs.cell_law.plain_state.declared.slot.SlotId.{SlotId}
use Rattle.cell_calls.specs.cell_law.plain_state.Lists.{times}
use Rattle.cell_calls.specs.cell_protocol.declared.law.CellLaw.{CellLaw}
use Rattle.epoch_refs.specs.epoch_core.core_events.Views.{without}
use Rattle.epoch_refs.specs.epoch_domain.Domains.{DomainState}
use Rattle.epoch_refs.specs.epoch_domain.Seats.{SeatState}
use Rattle.epoch_domain.proofs.Below.core_law_Kit.{times_push}
use Rattle.cell_making.specs.Bindings.{CanBind}
use Rattle.epoch_refs.specs.epoch_core.declared.act.EpochAct.TheVariants as act
use Rattle.epoch_refs.specs.epoch_core.declared.outcome.EpochOutcome.{EpochOutcome}
use Rattle.epoch_refs.specs.epoch_core.declared.outcome.EpochOutcome.TheVariants as outcome
use Rattle.epoch_refs.specs.epoch_domain.Calls.{IsSameView, Steps, same_view}
use Rattle.cell_intern.proofs.Kept.{add_keeps}
use Rattle.cell_intern.proofs.Placed.{PlacesSoFar, can_bind}

module _ (d : DomainState CellLaw) (text : Text) (h s : SlotId) (same : h ≡ s) where
  pub bind_by : (passed : ℕ) (old now : SeatState View) (cell : ℕ) → PlacesSoFar d text s passed old now
      → cell ≡ on (area_of d.protocol) text passed → CanBind d cell h now
  bind_by passed old now cell so at =
      subst (λ (x : SlotId). CanBind d cell x now) (sym same) (can_bind d text s passed old now so cell at)

  pub dropped_by : (fits : List ℕ → Type 0) (o : EpochOutcome) (now next : SeatState View)
      → Steps fits d same_view IsSameView (act.Drop h) now next o
      → Steps fits d same_view IsSameView (act.Drop s) now next o
  dropped_by fits o now next step =
      subst (λ (x : SlotId). Steps fits d same_view IsSameView (act.Drop x) now next o) same step

  pub kept_by : (now next : SeatState View) → Keeps 0 0 (without h now.view.core.owned) now next
      → Keeps 0 0 (without s now.view.core.owned) now next
  kept_by now next keeps =
      subst (λ (x : SlotId). Keeps 0 0 (without x now.view.core.owned) now next) same keeps

  -- it is owned still, once a reference to another record was gained
  pub owned_by : (fits : List ℕ → Type 0) (t : SlotId) (passed : ℕ) (old now mid : SeatState View)
      → PlacesSoFar d text s passed old now
      → Steps fits d same_view IsSameView (act.Add t) now mid outcome.Plain
      → 0 < times h mid.view.core.owned
  owned_by fits t passed old now mid so add =
      let k = (add_keeps fits d t now mid add).owns s in
      let p = times_push s t now.view.core.owned in
      let was = so.head.owned in
      subst (λ (x : SlotId). 0 < times x mid.view.core.owned) (sym same) (omega (arith, k, p, was))

  -- and so it is whether one was gained or not
  pub owned_either : (fits : List ℕ → Type 0) (t : SlotId) (passed : ℕ) (old now mid : SeatState View)
      (r : Result Handle Spent) → PlacesSoFar d text s passed old now → (IsErr r → mid ≡ now)
      → IfOk r (λ k. (k.slot ≡ t)
      × Steps fits d same_view IsSameView (act.Add t) now mid outcome.Plain)
      → 0 < times h mid.view.core.owned
  owned_either fits t passed old now mid (Ok k) so refused kept =
      owned_by fits t passed old now mid so kept.1
  owned_either fits t passed old now mid (Err e) so refused kept =
      subst (λ (x : SeatState View). 0 < times h x.view.core.owned) (sym (refused refl))
      (subst (λ (x : SlotId). 0 < times x now.view.core.owned) (sym same) so.head.owned)
