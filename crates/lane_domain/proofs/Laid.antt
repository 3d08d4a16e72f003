-- Seat 0 of a domain that was just opened lays the queue.
use Rattle.std.proofs.Common.{◌≡◌, ⊎_elim, ℕ, ◌+◌, ◌<◌, ◌≤◌, List, [], refl, sym, ap, subst, ◌∙◌, arith}
use Rattle.std.specs.Prelude.{slice_index_or}
use Rattle.std.proofs.lemmas.List.FromFn.{get_or-map-range_with_len}
use Rattle.lane_files.specs.plain_state.declared.slot.SlotId.{SlotId}
use Rattle.lane_files.specs.plain_state.Lists.{times}
use Rattle.lane_files.specs.core_events.declared.shape.Quota.{Quota}
use Rattle.lane_files.specs.core_events.declared.shape.Shape.{Shape}
use Rattle.lane_files.specs.core_events.declared.view.CoreView.{CoreView}
use Rattle.lane_files.specs.core_events.Runs.{IsShape}
use Rattle.lane_files.specs.core_events.Steps.{HasMake, HasRoom}
use Rattle.lane_files.specs.core_events.Views.{Terms}
use Rattle.lane_files.proofs.Below.core_law_Each.{get_each, length_each}
use Rattle.lane_files.specs.domain_rule.Views.{quota_at}
use Rattle.lane_files.specs.acquire_retire.Domains.{DomainState}
use Rattle.lane_files.specs.acquire_retire.Openings.{begun_seat}
use Rattle.lane_files.specs.acquire_retire.Seats.{SeatState}
use Rattle.lane_files.proofs.Below.control_word_Beginning.{all_at_rest}
use Rattle.lane_files.specs.control_word.Resting.{IsAtRest}
use Rattle.lane_files.specs.claim_law.Claims.{makes_given}
use Rattle.lane_files.specs.slot_store.Calls.{HasNoMake}
use Rattle.lane_files.specs.slot_store.declared.making.MakeError.{MakeError}
use Rattle.lane_files.specs.slot_store.declared.making.MakeError.TheVariants as unmade
use Rattle.lane_files.proofs.Below.slot_store_Exhausting.{more_makes}
use Rattle.lane_files.specs.part_calls.Parts.{StaysBeside}
use Rattle.lane_files.specs.queue_law.declared.view.Form.{Form}
use Rattle.lane_files.specs.queue_law.declared.view.Form.TheVariants.{Linked, Double}
use Rattle.lane_files.specs.queue_law.Views.{view_of}
use Rattle.lane_files.specs.directory_law.declared.view.GivenTo.{GivenTo}
use Rattle.lane_files.specs.directory_law.Cells.{seat_interns, ticket_interns}
use Rattle.lane_files.specs.directory_law.Views as directory
use Rattle.lane_files.specs.text_reading.Reading.{HasTwoFree}
use Rattle.lane_files.specs.linked_queue.Leaving.{Leaves}
use Rattle.lane_files.specs.linked_queue.Nodes.{IsWhyUnlaid, laid_in}
use Rattle.lane_files.specs.linked_queue.Queues.{CanLay, IsAttached, deeds_in}
use Rattle.lane_files.specs.hand_queues.Queues.{IsAnyOf, queue_in}
use Rattle.lane_files.specs.words_law.Owned.{first_view}
use Rattle.lane_files.specs.words_law.Views.{View}
use Rattle.lane_files.specs.words_protocol.Sides.{area_of, ends_of}
use Rattle.lane_files.specs.words_protocol.declared.law.WordsLaw.{WordsLaw}
use Rattle.lane_files.specs.declared.shared.Shared.{Shared}
use Rattle.lane_files.specs.Ready.{IsReady}
use Rattle.lane_files.specs.Whys.{of_queue, queue_of}
use Rattle.lane_files.proofs.SeatsKept.{free_still, owns_queue}
use Rattle.lane_files.specs.lane_work.declared.work.Work.{Work}
use Rattle.lane_files.specs.Lanes.{HasGrants}
use Rattle.lane_domain.specs.Opened.{FindsNoSlot, HasOnlyLaid, IsDomainFor, IsDomainForSome, IsQueueHere, fresh_seat, root_quota}
use Rattle.lane_domain.specs.Sizes.{interns_of}
use Rattle.lane_domain.proofs.Shapes.{in_shape}

pub times_none : (x : SlotId) → times x [] ≡ 0
unfolding times
times_none x = refl

-- who draws a ticket has an intern for each piece of its file
pub grants_there : (work : Work) (lanes slots : ℕ) (form : Form) (d : DomainState WordsLaw)
    → IsDomainFor work lanes slots form d → HasGrants d work
grants_there work lanes slots form d is ticket less =
    let law = d.protocol.pair.right in
    let to = ap (λ (to : GivenTo). slice_index_or (ticket_interns law.interns.items to) ticket 0)
    is.directory.to in
    let interns = ap (λ (ns : List ℕ). slice_index_or ns ticket 0) is.directory.interns in
    let at = get_or-map-range_with_len (interns_of work) 0 _ ticket ticket 0 less (omega arith) in
    omega (arith, to, interns, at)

-- the law is that of the queue of this form over these two cells
any_there : (form : Form) (d : DomainState WordsLaw) → IsQueueHere form d.protocol.pair.left
    → d.shape.cells ≡ 2 → IsAnyOf (queue_in form 0 1) (queue_of d)
any_there Linked d here cells = record {
  form = here.form;
  head = here.head;
  tail = here.tail;
  head_there = omega arith;
  tail_there = omega arith;
}
any_there Double d here cells = record {
  form = here.form;
  head = here.head;
  tail = here.tail;
  head_there = omega arith;
  tail_there = omega arith;
}

module _ (d : DomainState WordsLaw) (is : IsDomainForSome d) where
  abbrev first : ℕ → View
  first = first_view (ends_of d.protocol.pair.left) (area_of d.protocol.pair.right)

  pub shape_there : IsShape d.shape
  shape_there = subst IsShape (sym is.is.shape)
      (in_shape is.work is.within is.lanes is.slots is.few.0 is.few.1 is.few.2)

  pub seats_there : d.shape.seats ≡ is.lanes + 1
  seats_there = ap (λ (z : Shape). z.seats) is.is.shape

  pub rests : (n : ℕ) → n < d.shape.seats
      → IsAtRest d (fresh_seat d n) × HasRoom (fresh_seat d n).view.core
  rests n less =
      let count = length_each 0 d.shape.seats (begun_seat first d) in
      let e : 0 + n ≡ n = omega arith in
      subst (λ (s : SeatState View). IsAtRest d s × HasRoom s.view.core)
      (get_each 0 d.shape.seats n (fresh_seat d) (fresh_seat d n) less ∙ ap (fresh_seat d) e)
      (all_at_rest first d shape_there n (fresh_seat d n) (omega (arith, count, less)))

  pub queue_there : IsAnyOf (queue_in is.form 0 1) (queue_of d)
  queue_there =
      any_there is.form d is.is.queue (ap (λ (z : Shape). z.cells) is.is.shape)

  pub two_free : (n : ℕ) → HasTwoFree (fresh_seat d n).view.core
  two_free n = (1, 2, omega arith, omega arith, omega arith, refl, refl)

  pub root_lays : CanLay (fresh_seat d 0).view.client.0
  root_lays = record { root = refl; here = refl; unlaid = refl }

  -- the form that the law has
  pub same_form : (form : Form) → d.protocol.pair.left.form ≡ form → is.form ≡ form
  same_form form has = sym is.is.queue.form ∙ has

  cells_there : d.protocol.pair.right.cells ≡ d.shape.weak_cells
  cells_there = is.is.directory.cells ∙ sym (ap (λ (z : Shape). z.weak_cells) is.is.shape)

  some_cells : 0 < d.shape.weak_cells
  some_cells = let cells = ap (λ (z : Shape). z.weak_cells) is.is.shape in omega arith

  pub no_intern : (n : ℕ) → directory.gone
      ≡ (fresh_seat d n).view.client.1
  no_intern n =
      ap (λ (to : GivenTo). record directory.gone {
        quota = slice_index_or (seat_interns d.protocol.pair.right.interns.items to) n 0;
      }) (sym is.is.directory.to)

  module _ (old root : SeatState View) (was : old ≡ fresh_seat d 0)
      (stays : StaysBeside (λ (v : View). v.0) (λ (v : View) w. (w, v.1)) old root)
      (left : Leaves old.view.core.owned (of_queue old) (of_queue root)) where
    beside : StaysBeside (λ (v : View). v.0) (λ (v : View) w. (w, v.1)) (fresh_seat d 0) root
    beside = subst (λ (s : SeatState View).
        StaysBeside (λ (v : View). v.0) (λ (v : View) w. (w, v.1)) s root) was stays

    leaves : Leaves [] (of_queue (fresh_seat d 0)) (of_queue root)
    leaves = subst (λ (s : SeatState View). Leaves s.view.core.owned (of_queue s) (of_queue root))
        was left

    pub laid_ready : (on : Shared) → IsAtRest d root → HasRoom root.view.core → IsAttached root.view.client.0
        → IsAnyOf on.queue (queue_of d)
        → (on.directory.first ≡ 0) × (on.directory.cells ≡ d.shape.weak_cells)
        → IsReady d on root
    laid_ready on rest room attached any cells =
        let used = ap (λ (v : View). v.1.used) beside in
        let quota = ap (λ (v : View). v.1.quota) beside in
        let law = cells_there in let more = some_cells in record {
          rest = rest;
          room = room;
          queue = any;
          over = record {
            first = cells.0 ∙ sym is.is.directory.first;
            cells = cells.1 ∙ sym law;
            some_cells = omega (arith, cells.1, more);
            there = omega (arith, cells.0, cells.1);
          };
          attached = attached;
          quota = omega (arith, used, quota);
          free = free_still (fresh_seat d 0) root (owns_queue (fresh_seat d 0) root leaves) (two_free 0);
        }

    pub only_laid : deeds_in root.view.client.0 ≡ laid_in (deeds_in old.view.client.0)
        → HasOnlyLaid is.form root
    only_laid deeds = record {
      number = ap (λ (v : CoreView). v.seat) leaves.same;
      quota = ap (λ (v : CoreView). v.quota) leaves.same
          ∙ ap (λ (ts : Terms). quota_at ts.quotas 0) is.is.terms;
      owned = λ x. leaves.owns x ∙ times_none x;
      weaks = ap (λ (v : CoreView). v.weaks) leaves.same;
      notes = ap (λ (v : CoreView). v.notes) leaves.same;
      tickets = ap (λ (v : CoreView). v.tickets) leaves.same;
      left_seats = ap (λ (v : CoreView). v.left_seats) leaves.same;
      queue = deeds ∙ ap (λ (s : SeatState View). laid_in (deeds_in s.view.client.0)) was
          ∙ ap (λ (form : Form). laid_in (deeds_in (view_of form 0))) is.is.queue.form;
      directory = ap (λ (v : View). v.1) beside ∙ sym (no_intern 0);
    }

  -- WHY NOTHING IS LAID
  quota_there : quota_at d.terms.quotas 0 ≡ root_quota
  quota_there = ap (λ (ts : Terms). quota_at ts.quotas 0) is.is.terms

  has_make : HasMake (fresh_seat d 0).view.core
  has_make = let q = ap (λ (q : Quota). q.makes) quota_there in omega arith

  no_make_left : HasNoMake (fresh_seat d 0).view.core → ⊥
  no_make_left none = let m = has_make in omega arith

  few_adds : (quota_at d.terms.quotas 0).adds ≤ 1 → ⊥
  few_adds few = let q = ap (λ (q : Quota). q.adds) quota_there in omega arith

  module _ (fits : List ℕ → Type 0) (root : SeatState View) where
    pub missed : (error : MakeError)
        → IsWhyUnlaid fits (queue_of d) error (of_queue (fresh_seat d 0)) (of_queue root)
        → FindsNoSlot fits d root
    missed unmade.MakesSpent why = ⊎_elim
        (λ none. absurd (no_make_left none.0))
        (λ given. absurd (few_adds (let f = given.1 in omega arith)))
        why
    missed unmade.AddsSpent why = ⊎_elim
        (λ none. absurd (few_adds (let f = none.0 in omega arith)))
        (λ given. absurd (few_adds (let f = given.1 in omega arith)))
        why
    missed unmade.Full why = ⊎_elim
        (λ misses. misses)
        (λ given. absurd (few_adds (let f = given.1 in omega arith)))
        why

    pub few_slots : FindsNoSlot fits d root → d.shape.slots < makes_given d.terms
    few_slots finds =
        let some' = shape_there.2 in let seats = seats_there in
        let rest = (rests 0 (omega arith)).0 in
        more_makes (queue_of d) (of_queue (fresh_seat d 0)) (of_queue root) (omega arith)
        (record {
          of_domain = rest.of_domain;
          idle = rest.idle;
          owes_nothing = rest.owes_nothing;
          first = rest.first;
          others = rest.others;
        })
        has_make finds

    pub few_slots_by : (old : SeatState View) (error : MakeError) → old ≡ fresh_seat d 0
        → IsWhyUnlaid fits (queue_of d) error (of_queue old) (of_queue root)
        → d.shape.slots < makes_given d.terms
    few_slots_by old error was why =
        few_slots (missed error (subst (λ (s : SeatState View).
        IsWhyUnlaid fits (queue_of d) error (of_queue s) (of_queue root)) was why))
