-- The shape of the domain and its quotas are in their ranges, and its seats may bind no more heads than it has cells.
use Rattle.std.proofs.Common.{◌≡◌, ℕ, ◌+◌, ◌*◌, ◌<◌, ◌≤◌, List, ap, subst, sym, ◌∙◌, arith}
use Rattle.std.specs.Prelude.{length, map, sum}
use Rattle.std.proofs.lemmas.List.{length-map}
use Rattle.std.proofs.lemmas.List.Elements.{All-cons, All-from_get_or, All-map}
use Rattle.std.proofs.lemmas.List.Sums.{get_or-le-sum_by, sum_by-cons}
use Rattle.cell_lanes.specs.cell_calls.Cells.{IsOver}
use Rattle.cell_lanes.specs.cell_calls.cell_protocol.declared.law.CellLaw.{CellLaw}
use Rattle.cell_lanes.specs.lane_work.plain_state.Limits.{most_slots}
use Rattle.epoch_refs.specs.epoch_core.core_events.Runs.{IsQuota}
use Rattle.epoch_refs.specs.epoch_core.core_events.declared.shape.Quota.{Quota}
use Rattle.epoch_refs.specs.epoch_core.core_events.declared.shape.ShapeField.{ShapeField}
use Rattle.epoch_refs.specs.epoch_core.core_events.declared.shape.ShapeField.TheVariants.{Seats, Slots, Cells, WeakCells, Batch, Quotas}
use Rattle.epoch_refs.specs.epoch_core.Runs.{AreQuotas, IsShape}
use Rattle.epoch_refs.specs.epoch_core.declared.shape.EpochShape.{EpochShape}
use Rattle.epoch_refs.specs.epoch_domain.Domains.{DomainState}
use Rattle.epoch_refs.specs.epoch_domain.epoch_parts.Fields.{IsFirstBad, IsInRange}
use Rattle.lane_work.specs.Sizes.{IsWithinLimits, all_parts, slots_of_words}
use Rattle.lane_work.specs.Work.{all_tickets}
use Rattle.lane_work.specs.declared.work.Work.{Work}
use Rattle.cell_domain.specs.Opened.{IsDomainFor, by_lane, cells_for, quota_of, quotas_for, shape_for}
use Rattle.cell_domain.proofs.Numbers.{many, parts_together, pieces_together}

module _ (work : Work) (within : IsWithinLimits work) (lanes slots : ℕ) (some' : 0 < lanes)
    (few : lanes ≤ 31) (slot : 1 ≤ slots) (most : slots ≤ most_slots) where
  pub in_shape : IsShape (shape_for work lanes slots)
  in_shape = let i = within.interns in (
    omega arith,
    omega arith,
    omega arith,
    omega arith,
    omega arith,
  )

  is_quota : (makes : ℕ) → makes ≤ work.rounds * all_parts work → IsQuota (quota_of makes)
  is_quota makes less = let s = within.slots in (omega arith, omega arith)

  pub in_quotas : AreQuotas (shape_for work lanes slots) (quotas_for work lanes)
  in_quotas =
      let parts = by_lane slots_of_words work lanes in (
        (let l = length-map parts quota_of in let n = many slots_of_words work lanes (all_tickets work) in
            omega arith),
        All-cons IsQuota (quota_of 0) (map quota_of parts) (is_quota 0 (omega arith))
            (All-map IsQuota quota_of parts
            (All-from_get_or (λ makes. IsQuota (quota_of makes)) parts 0
            (λ i less. is_quota _
            (let l = get_or-le-sum_by (λ (x : ℕ). x) parts i 0 less in
            let t = parts_together work lanes some' in omega arith)))),
      )

  in_range : (f : ShapeField) → IsInRange (shape_for work lanes slots) (quotas_for work lanes) f
  in_range Seats = (in_shape.0, in_shape.1)
  in_range Slots = (in_shape.2, in_shape.3)
  in_range Cells = in_shape.4
  in_range WeakCells = tt
  in_range Batch = tt
  in_range Quotas = in_quotas

  pub none_bad_by : (cells : ℕ) (quotas : List Quota) → cells ≡ cells_for work
      → quotas ≡ quotas_for work lanes → (f : ShapeField)
      → IsFirstBad (record { seats = lanes + 1; slots = slots; cells = cells }) quotas f → ⊥
  none_bad_by cells quotas all given f bad =
      (subst (λ qs. IsFirstBad (shape_for work lanes slots) qs f) given
      (subst (λ n. IsFirstBad (record { seats = lanes + 1; slots = slots; cells = n }) quotas f) all
      bad)).1 (in_range f)

-- the domain keeps records in all its cells, and has one for each head that may be bound
pub is_over : (work : Work) (lanes slots : ℕ) (d : DomainState CellLaw) → 0 < lanes
    → IsDomainFor work lanes slots d → IsOver d
is_over work lanes slots d some' is =
    let shape = ap (λ (z : EpochShape). z.cells) is.shape in record {
      first = is.first;
      cells = is.cells ∙ sym shape;
      some_cells = omega (arith, shape);
      few =
          let all = ap sum is.grants
          ∙ sum_by-cons (λ (x : ℕ). x) 0 (by_lane (λ words. length words) work lanes) in
          let pieces = pieces_together work lanes some' in
          omega (arith, shape, all, pieces);
    }
