-- A lane that stopped has makes left; and where it found each slot taken, there are fewer slots than makes.
use Rattle.std.proofs.Common.{◌≡◌, ℕ, ◌+◌, ◌*◌, ◌<◌, List, [], ◌∷◌, refl, sym, ap, subst, ◌∙◌, arith}
use Rattle.std.specs.Prelude.{Err, map, slice_index_or, sum, sum_by}
use Rattle.std.proofs.lemmas.List.{get_or-map}
use Rattle.std.proofs.lemmas.List.Sums.{sum_by-append, sum_by-cons}
use Rattle.cell_lanes.specs.Stopping.{IsOfMakes, IsUnmade, IsWhyStopped, Stops}
use Rattle.cell_lanes.specs.cell_calls.cell_law.declared.view.View.{View}
use Rattle.cell_lanes.specs.cell_calls.cell_protocol.declared.law.CellLaw.{CellLaw}
use Rattle.cell_lanes.specs.declared.refusal.LaneStop.{LaneStop}
use Rattle.cell_lanes.specs.declared.refusal.LaneStop.TheVariants as stopped
use Rattle.cell_lanes.proofs.Endings.{stopped_keeps, stopped_misses}
use Rattle.epoch_refs.specs.epoch_core.core_events.declared.shape.Quota.{Quota}
use Rattle.epoch_refs.specs.epoch_core.declared.shape.EpochShape.{EpochShape}
use Rattle.epoch_refs.specs.epoch_core.declared.view.EpochView.{EpochView}
use Rattle.epoch_refs.specs.epoch_domain.Domains.{DomainState}
use Rattle.epoch_refs.specs.epoch_domain.Seats.{SeatState}
use Rattle.lane_work.specs.Sizes.{all_parts, slots_of_words}
use Rattle.lane_work.specs.Work.{all_tickets}
use Rattle.lane_work.specs.cdrc_text.Text.{slots_of_word}
use Rattle.lane_work.specs.declared.lane.Lane.{Lane}
use Rattle.lane_work.specs.declared.work.Work.{Work}
use Rattle.cell_domain.specs.Ending.{CountsOrStops, EndsLane}
use Rattle.cell_domain.specs.Opened.{CanBegin, IsDomainFor, by_lane, lane_words, quota_of, quotas_for}
use Rattle.cell_domain.specs.declared.ending.LaneEnd.{LaneEnd}
use Rattle.cell_domain.proofs.Numbers.{many, parts_together}
use Rattle.cell_domain.proofs.Room.{after_first}

unmade : (d : DomainState CellLaw) (word : List ℕ) (stop : LaneStop) (a b : SeatState View)
    → IsOfMakes stop → IsWhyStopped d word stop a b → IsUnmade word a b
unmade d word stopped.MakesSpent a b is why = why.1
unmade d word stopped.Full a b is why = why.1
unmade d word stopped.AddsSpent a b is why = absurd is
unmade d word stopped.OutOfMemory a b is why = absurd is

-- a make for each slot
makes_of_each : (xs : List ℕ) → sum_by (λ (q : Quota). q.makes) (map quota_of xs) ≡ sum xs
makes_of_each [] = refl
makes_of_each (x ∷ xs) =
    let one = sum_by-cons (λ (q : Quota). q.makes) (quota_of x) (map quota_of xs) in
    let own = sum_by-cons (λ (n : ℕ). n) x xs in let rest = makes_of_each xs in
    omega arith

pub makes_are : (work : Work) (lanes : ℕ) → 0 < lanes
    → sum_by (λ (q : Quota). q.makes) (quotas_for work lanes) ≡ work.rounds * all_parts work
makes_are work lanes some' =
    let parts = by_lane slots_of_words work lanes in
    let first = sum_by-cons (λ (q : Quota). q.makes) (quota_of 0) (map quota_of parts) in
    let each = makes_of_each parts in let all = parts_together work lanes some' in
    omega arith

module _ (work : Work) (lanes slots i : ℕ) (d : DomainState CellLaw) (seat : SeatState View)
    (is : IsDomainFor work lanes slots d) (less : i < lanes) (begins : CanBegin d i seat) where
  -- the makes that the seat was given
  pub given : seat.view.core.quota.makes ≡ slots_of_words (lane_words work lanes i)
  given =
      let none : Quota = record { makes = 0; adds = 0 } in
      ap (λ (s : SeatState View). s.view.core.quota.makes) begins.fresh
      ∙ ap (λ (qs : List Quota). (slice_index_or qs (i + 1) none).makes) is.quotas
      ∙ sym (ap (λ (q : Quota). q.makes) at_map)
      ∙ after_first work lanes i less slots_of_words 0
    where
      at_map : quota_of (slice_index_or (0 ∷ by_lane slots_of_words work lanes) (i + 1) 0)
          ≡ slice_index_or (map quota_of (0 ∷ by_lane slots_of_words work lanes)) (i + 1)
          (record { makes = 0; adds = 0 })
      at_map =
          let parts = by_lane slots_of_words work lanes in
          let all = many slots_of_words work lanes (all_tickets work) in
          sym (get_or-map quota_of (0 ∷ parts) (i + 1) 0 (record { makes = 0; adds = 0 })
          (omega (arith, all, less)))

  pub unused : seat.view.core.makes ≡ 0
  unused = ap (λ (s : SeatState View). s.view.core.makes) begins.fresh

  module _ (stop : LaneStop) (new : SeatState View) (before after : Lane)
      (of_makes : IsOfMakes stop)
      (stops : Stops d (lane_words work lanes i) stop seat new before after) where
    pub fewer : new.view.core.makes < seat.view.core.quota.makes
    fewer =
        let none = unused in let quota = given in
        let last = (unmade d stops.word stop stops.last new of_makes stops.stops.why).1 in
        let so_far = stops.counts.keeps.makes_used.1 in
        let all = ap slots_of_words stops.are
        ∙ sum_by-append slots_of_word stops.front (stops.word ∷ stops.others) in
        let one = sum_by-cons slots_of_word stops.word stops.others in
        omega (arith, none, quota, last, so_far, all, one)

    pub same_quota : new.view.core.quota ≡ seat.view.core.quota
    same_quota =
        ap (λ (v : EpochView). v.quota)
        (stopped_keeps d (lane_words work lanes i) stop seat new before after stops).same

  module _ (ending : LaneEnd) (ends : EndsLane d work lanes i seat ending) where
    pub stops_with : (stop : LaneStop) → ending.end ≡ Err stop
        → Stops d (lane_words work lanes i) stop seat ending.seat ends.lane ending.lane
    stops_with stop why =
        subst (λ end. CountsOrStops d work lanes i end seat ending.seat ends.lane ending.lane) why
        ends.runs

    pub makes_left : ending.end ≡ Err stopped.MakesSpent → ⊥
    makes_left why =
        let stops = stops_with stopped.MakesSpent why in
        let few = fewer stopped.MakesSpent ending.seat ends.lane ending.lane tt stops in
        let quota = ap (λ (q : Quota). q.makes)
        (same_quota stopped.MakesSpent ending.seat ends.lane ending.lane tt stops) in
        let none = stops.stops.why.0 in
        omega (arith, few, quota, none)

    pub slots_lacked : ending.end ≡ Err stopped.Full → slots < work.rounds * all_parts work
    slots_lacked why =
        let stops = stops_with stopped.Full why in
        let few = fewer stopped.Full ending.seat ends.lane ending.lane tt stops in
        let quota = ap (λ (q : Quota). q.makes)
        (same_quota stopped.Full ending.seat ends.lane ending.lane tt stops) in
        let fit = (stopped_misses d (lane_words work lanes i) seat ending.seat ends.lane ending.lane
        stops).fit in
        let shape = ap (λ (z : EpochShape). z.slots) is.shape in
        let all = ap (sum_by (λ (q : Quota). q.makes)) is.quotas
        ∙ makes_are work lanes (omega (arith, less)) in
        omega (arith, few, quota, fit, shape, all)
