-- One lane that found each slot taken: it has used makes for words that differ alone.
use Rattle.std.proofs.Common.{◌≡◌, inl, inr, ℕ, ◌<◌, List, [], ◌∷◌, ◌++◌, refl, sym, ap, subst, ◌∙◌, zero-add, arith}
use Rattle.std.specs.Prelude.{Err, length, map, slice_index_or, sum, sum_by}
use Rattle.std.proofs.lemmas.List.{append-nil}
use Rattle.std.proofs.lemmas.List.Sums.{sum_by-cons}
use Rattle.directory_law.proofs.Notes.{in_left, in_right}
use Rattle.cell_lanes.specs.Stopping.{Stops}
use Rattle.cell_lanes.specs.cell_calls.Cells.{BindsAlone}
use Rattle.cell_lanes.specs.cell_calls.cell_law.Views.{AreDistinct, texts_of}
use Rattle.cell_lanes.specs.cell_calls.cell_law.declared.view.View.{View}
use Rattle.cell_lanes.specs.cell_calls.cell_law.directory_law.Payloads.{Text}
use Rattle.cell_lanes.specs.cell_calls.cell_law.directory_law.Views.{In}
use Rattle.cell_lanes.specs.cell_calls.cell_law.directory_law.declared.view.Rope.{Rope}
use Rattle.cell_lanes.specs.cell_calls.cell_protocol.declared.law.CellLaw.{CellLaw}
use Rattle.cell_lanes.specs.cell_making.Texts.{text_of}
use Rattle.cell_lanes.specs.declared.refusal.LaneStop.TheVariants as stopped
use Rattle.cell_lanes.proofs.Endings.{stopped_alone, stopped_misses}
use Rattle.epoch_refs.specs.epoch_core.core_events.declared.shape.Quota.{Quota}
use Rattle.epoch_refs.specs.epoch_core.declared.shape.EpochShape.{EpochShape}
use Rattle.epoch_refs.specs.epoch_domain.Domains.{DomainState}
use Rattle.epoch_refs.specs.epoch_domain.Seats.{SeatState}
use Rattle.lane_work.specs.Sizes.{slots_of_words, texts_in}
use Rattle.lane_work.specs.Work.{IsWork}
use Rattle.lane_work.specs.cdrc_text.Fold.{AreDistinct as AreAllWords}
use Rattle.lane_work.specs.cdrc_text.Text.{slots_of_word}
use Rattle.lane_work.specs.declared.lane.Lane.{Lane}
use Rattle.lane_work.specs.declared.work.Work.{Work}
use Rattle.cell_domain.specs.Ending.{EndsLane}
use Rattle.cell_domain.specs.Opened.{CanBegin, IsDomainFor, by_lane, lane_words}
use Rattle.cell_domain.specs.declared.ending.LaneEnd.{LaneEnd}
use Rattle.cell_domain.proofs.Distinct.{contained, distinct_by, held_by, in_map, sum_among}
use Rattle.cell_domain.proofs.Enough.{given, makes_are, same_quota, stops_with, unused}
use Rattle.cell_domain.proofs.Numbers.{parts_together}
use Rattle.cell_domain.proofs.Room.{after_first}

-- what one lane has is what all have
only : (f : List (List ℕ) → ℕ) (work : Work) → sum (by_lane f work 1) ≡ f (lane_words work 1 0)
only f work = zero-add (f (lane_words work 1 0))

module _ (work : Work) (slots : ℕ) (d : DomainState CellLaw) (seat : SeatState View)
    (is : IsDomainFor work 1 slots d) (begins : CanBegin d 0 seat) where
  binds_alone : BindsAlone d seat
  binds_alone =
      let pieces = by_lane (λ words. length words) work 1 in
      ap (λ (s : SeatState View). s.view.client.grant) begins.fresh
      ∙ ap (λ (gs : List ℕ). slice_index_or gs 1 0) is.grants
      ∙ after_first work 1 0 (omega arith) (λ words. length words) 0
      ∙ sym (only (λ words. length words) work)
      ∙ (let one = sum_by-cons (λ (x : ℕ). x) 0 pieces in omega arith)
      ∙ sym (ap sum is.grants)

  module _ (new : SeatState View) (before after : Lane)
      (stops : Stops d (lane_words work 1 0) stopped.Full seat new before after) where
    abbrev made : List (List ℕ)
    made = stops.counts.grows.made

    few_slots : slots < slots_of_words (stops.word ∷ made)
    few_slots =
        let used = stopped_alone d (lane_words work 1 0) stopped.Full seat new before after stops tt
        binds_alone in
        let fit = (stopped_misses d (lane_words work 1 0) seat new before after stops).fit in
        let quota = ap (λ (q : Quota). q.makes)
        (same_quota work 1 slots 0 d seat is (omega arith) begins stopped.Full new before after tt
        stops) in
        let own = given work 1 slots 0 d seat is (omega arith) begins in
        let none = unused work 1 slots 0 d seat is (omega arith) begins in
        let shape = ap (λ (z : EpochShape). z.slots) is.shape in
        let all = ap (sum_by (λ (q : Quota). q.makes)) is.quotas ∙ makes_are work 1 (omega arith) in
        let parts = parts_together work 1 (omega arith) in let one = only slots_of_words work in
        let more = sum_by-cons slots_of_word stops.word made in
        omega (arith, used, fit, quota, own, none, shape, all, parts, one, more)

    -- the heads that it bound
    heads_are : stops.counts.grows.heads ≡ new.view.client.bound
    heads_are =
        sym (append-nil stops.counts.grows.heads)
        ∙ ap (λ es. stops.counts.grows.heads ++ es)
        (sym (ap (λ (s : SeatState View). s.view.client.bound) begins.fresh))
        ∙ sym stops.counts.grows.bound ∙ sym stops.stops.why.1.0.bound

    texts_are : texts_of new.view.client.bound ≡ map text_of made
    texts_are = ap texts_of (sym heads_are) ∙ stops.counts.grows.texts

    untold : In stops.word made → ⊥
    untold is_made =
        let e = head_of new.view.client.bound
        (subst (In (text_of stops.word)) (sym texts_are)
        (in_map text_of stops.word made is_made)) in
        stops.stops.why.1.0.untold e.0
        (in_right e.0 new.view.client.found (new.view.client.bound ++ new.view.client.joined)
        (in_left e.0 new.view.client.bound new.view.client.joined e.1)) (sym e.2)
      where
        head_of : {x : Text} (es : List Rope) → In x (texts_of es)
            → (e : Rope) × In e es × (x ≡ e.text)
        head_of [] none = absurd none
        head_of (e ∷ es) (inl same) = (e, inl refl, same)
        head_of (e ∷ es) (inr rest) =
            let found = head_of es rest in (found.0, inr found.1, found.2)

    pub lacks : (words : List (List ℕ)) → IsWork work → AreAllWords (texts_in work) words
        → AreDistinct (texts_of new.view.client.bound) → slots < slots_of_words words
    lacks words is_work all distinct =
        let few = few_slots in
        let most = sum_among slots_of_word (stops.word ∷ made) words
        (untold, distinct_by text_of made (subst AreDistinct texts_are distinct))
        (λ w is_one. contained words w
        ((all.held w).1 (held_by work is_work w _ (of_lane w is_one)))) in
        omega (arith, few, most)
      where
        of_lane : (w : List ℕ) → In w (stops.word ∷ made) → In w (lane_words work 1 0)
        of_lane w (inl e) = subst (In w) (sym stops.are)
            (in_right w stops.front (stops.word ∷ stops.others) (inl e))
        of_lane w (inr is_made) = subst (In w) (sym stops.are)
            (in_left w stops.front (stops.word ∷ stops.others)
            (stops.counts.grows.among w is_made))

pub one_lacks : (work : Work) (slots : ℕ) (d : DomainState CellLaw) (seat : SeatState View)
    (ending : LaneEnd) (words : List (List ℕ)) → IsWork work → IsDomainFor work 1 slots d
    → CanBegin d 0 seat → EndsLane d work 1 0 seat ending → ending.end ≡ Err stopped.Full
    → AreDistinct (texts_of ending.seat.view.client.bound) → AreAllWords (texts_in work) words
    → slots < slots_of_words words
one_lacks work slots d seat ending words is_work is begins ends why distinct all =
    lacks work slots d seat is begins ending.seat ends.lane ending.lane
    (stops_with work 1 slots 0 d seat is (omega arith) begins ending ends stopped.Full why) words
    is_work all distinct
