-- One seat leaves, and seat 0 takes over what its lane did.
use Rattle.std.proofs.Common.{◌≡◌, ⊎_elim, ℕ, ◌+◌, ◌<◌, List, [], ◌∷◌, ◌++◌, refl, sym, ap, subst, ◌∙◌, arith}
use Rattle.std.specs.Prelude.{length, map, slice_index_or}
use Rattle.std.specs.List.{range_with_len}
use Rattle.std.proofs.lemmas.Bool.{cases_eq}
use Rattle.std.proofs.lemmas.List.{append-nil, get_or_append_left, get_or_push, length_push, map-append, map_push}
use Rattle.cell_lanes.specs.Lanes.{lane_tickets}
use Rattle.cell_lanes.specs.Ready.{IsReady}
use Rattle.cell_lanes.specs.cell_calls.cell_protocol.declared.law.CellLaw.{CellLaw}
use Rattle.cell_rest.proofs.Below.cell_law_Kit.{in_either}
use Rattle.cell_rest.specs.Kept.{TellsFiles}
use Rattle.cell_rest.specs.cdrc_text.Fold.{times as word_times}
use Rattle.cell_rest.specs.cell_law.Views.{bound_in, joined}
use Rattle.cell_rest.specs.cell_law.declared.view.View.{View}
use Rattle.cell_rest.specs.cell_law.directory_law.declared.view.Rope.{Rope}
use Rattle.cell_rest.specs.cell_law.directory_law.Views.{In}
use Rattle.cell_rest.specs.cell_law.plain_state.declared.slot.SlotId.{SlotId}
use Rattle.cell_rest.specs.cell_law.plain_state.Lists.{times}
use Rattle.cell_rest.proofs.Joining.{joined_comes, joined_stays, tells_both}
use Rattle.cell_lanes.specs.epoch_refs.epoch_core.declared.act.EpochAct.TheVariants as act
use Rattle.cell_lanes.specs.epoch_refs.epoch_core.declared.outcome.EpochOutcome.TheVariants as outcome
use Rattle.cell_lanes.specs.epoch_refs.epoch_core.declared.view.EpochView.{EpochView}
use Rattle.cell_lanes.specs.epoch_refs.epoch_core.declared.view.LeftEpochSeat.{LeftEpochSeat}
use Rattle.cell_lanes.specs.epoch_refs.epoch_core.Runs.{taken_over}
use Rattle.cell_lanes.specs.epoch_refs.epoch_core.Steps.{noted}
use Rattle.cell_lanes.specs.epoch_refs.epoch_domain.Domains.{DomainState}
use Rattle.cell_lanes.specs.epoch_refs.epoch_domain.Leavings.{TookOver}
use Rattle.cell_lanes.specs.epoch_refs.epoch_domain.Seats.{SeatState}
use Rattle.cell_lanes.specs.epoch_refs.epoch_rule.declared.view.EpochSeatView.{EpochSeatView}
use Rattle.cell_lanes.specs.epoch_refs.Walks.{IsFree}
use Rattle.cell_lanes.specs.lane_work.Keeping.{slots_of}
use Rattle.cell_lanes.specs.lane_work.Sizes.{texts_in}
use Rattle.cell_lanes.specs.lane_work.Tallying.{Tallies}
use Rattle.cell_lanes.specs.lane_work.Work.{kept_files, words_of_all}
use Rattle.cell_lanes.specs.lane_work.counted_handles.Handles.{Handle}
use Rattle.cell_lanes.specs.lane_work.declared.work.Work.{Work}
use Rattle.cell_rest.proofs.Below.plain_state_Kit.{times_append}
use Rattle.tally_sums.specs.Sums.{counted_in}
use Rattle.cell_gathering.specs.declared.done.Done.{Done}
use Rattle.cell_gathering.specs.Gathering.{IsTextIn, Tally, heads_of, kept_by}
use Rattle.cell_gathering.specs.Ran.{HasRun}
use Rattle.cell_gathering.specs.Shares.{tickets_upto}
use Rattle.cell_gathering.proofs.Files.{kept_both, times_both}
use Rattle.cell_lanes.proofs.Tickets.{words_both}
use Rattle.cell_gathering.proofs.Heads.{grown_texts}
use Rattle.cell_gathering.proofs.Shares.{range_more, upto_more}
use Rattle.cell_gathering.proofs.Taken.{HasTaken, count_none, counted_more, flat_push, total_none}

module _ (fits : List ℕ → Type 0) (d : DomainState CellLaw) (root : SeatState View) (one : Done)
    (new : SeatState View) (took : TookOver d fits joined root one.seat new) where
  core_is : new.view.core
      ≡ noted (act.Leave one.seat.view.core.seat) outcome.Plain
      (taken_over root.view.core one.seat.view.core)
  core_is = ap (λ (v : EpochSeatView View). v.core) took.view

  client_is : new.view.client ≡ joined root.view.client one.seat.view.client
  client_is = ap (λ (v : EpochSeatView View). v.client) took.view

  pub ready_after : IsReady d root → IsFree d new → IsReady d new
  ready_after ready free = record {
    free = free;
    over = ready.over;
    is_open = ap (λ (v : View). v.cleared) client_is ∙ ready.is_open;
  }

  module _ (work : Work) (lanes n : ℕ) (ran : HasRun d work lanes n one) where
    abbrev tickets : List ℕ
    tickets = lane_tickets work lanes n

    -- WHAT THE LANE HAS
    kept_is : kept_by one ≡ ran.counts.counts.more
    kept_is =
        ran.counts.counts.kept
        ∙ ap (λ (hs : List Handle). hs ++ ran.counts.counts.more) ran.lane_new.kept

    owned_is : (s : SlotId) → times s one.seat.view.core.owned ≡ times s (slots_of (kept_by one))
    owned_is s =
        ran.counts.counts.keeps.owns s
        ∙ ap (λ (ss : List SlotId). times s (ss ++ slots_of ran.counts.counts.more)) ran.seat_new.owned
        ∙ ap (λ (hs : List Handle). times s (slots_of hs)) (sym kept_is)

    heads_are : bound_in one.seat.view.client ≡ heads_of one
    heads_are =
        ap (λ (es : List Rope). heads_of one ++ es)
        (ran.counts.counts.grows.joined ∙ ran.seat_new.joined)
        ∙ append-nil (heads_of one)

    lane_tells : TellsFiles (kept_files work tickets) (slots_of (kept_by one)) one.seat.view.client
    lane_tells =
        subst (λ (hs : List Handle). TellsFiles (kept_files work tickets) (slots_of hs)
        one.seat.view.client) (sym kept_is)
        ran.counts.tells

    lane_tallies : Tallies (words_of_all work tickets) [] one.lane.tally
    lane_tallies = record {
      counts = λ w. let a = ran.counts.counts.tallies.counts w in let b = ran.lane_new.counts w in
          let c = count_none w in omega (arith, a, b, c);
      sum = let a = ran.counts.counts.tallies.sum in let b = ran.lane_new.total in
          let c = total_none in omega (arith, a, b, c);
    }

    lane_texts : (e : Rope) → In e (heads_of one) → IsTextIn (texts_in work) e.text
    lane_texts =
        grown_texts work tickets ran.begun.view.client one.seat.view.client ran.counts.counts.grows
        ran.seat_new.bound

    -- WHAT SEAT 0 HAS THEN
    module _ (done : List Done) (tallies : List Tally) (handles : List Handle)
        (had : HasTaken d work lanes n done root tallies handles) (ready : IsReady d new) where
      abbrev t : Tally
      t = one.lane.tally

      abbrev leaver : LeftEpochSeat
      leaver = record { seat = one.seat.view.core.seat; trail = one.seat.view.core.trail }

      next : one.seat.view.core.seat ≡ 1 + n
      next = let e = ran.seat in omega (arith, e)

      abbrev both : View
      both = joined root.view.client one.seat.view.client

      slots_both : slots_of (handles ++ kept_by one) ≡ slots_of handles ++ slots_of (kept_by one)
      slots_both = map-append (λ (h : Handle). h.slot) handles (kept_by one)

      more_tickets : tickets_upto work lanes (n + 1) ≡ tickets_upto work lanes n ++ tickets
      more_tickets = upto_more work lanes n

      files_both : kept_files work (tickets_upto work lanes (n + 1))
          ≡ kept_files work (tickets_upto work lanes n) ++ kept_files work tickets
      files_both =
          ap (kept_files work) more_tickets ∙ kept_both work (tickets_upto work lanes n) tickets

      numbers_after : map (λ (l : LeftEpochSeat). l.seat) new.view.core.left_seats
          ≡ range_with_len 1 (n + 1)
      numbers_after =
          ap (λ (v : EpochView). map (λ (l : LeftEpochSeat). l.seat) v.left_seats) core_is
          ∙ map_push (λ (l : LeftEpochSeat). l.seat) root.view.core.left_seats leaver
          ∙ ap (λ (ks : List ℕ). ks ++ one.seat.view.core.seat ∷ []) had.numbers
          ∙ ap (λ (k : ℕ). range_with_len 1 n ++ k ∷ []) next
          ∙ sym (range_more 1 n (1 + n) refl)

      owns_after : (s : SlotId)
          → times s new.view.core.owned ≡ times s (slots_of (handles ++ kept_by one))
      owns_after s =
          let a = ap (λ (v : EpochView). times s v.owned) core_is in
          let b = times_append s root.view.core.owned one.seat.view.core.owned in
          let c = had.owns s in let e = owned_is s in
          let f = ap (times s) slots_both in
          let g = times_append s (slots_of handles) (slots_of (kept_by one)) in
          omega (arith, a, b, c, e, f, g)

      tells_after : TellsFiles (kept_files work (tickets_upto work lanes (n + 1)))
          (slots_of (handles ++ kept_by one)) new.view.client
      tells_after =
          subst (TellsFiles (kept_files work (tickets_upto work lanes (n + 1)))
          (slots_of (handles ++ kept_by one))) (sym client_is)
          (subst (λ fs. TellsFiles fs (slots_of (handles ++ kept_by one)) both) (sym files_both)
          (subst (λ ss. TellsFiles (kept_files work (tickets_upto work lanes n)
          ++ kept_files work tickets) ss both) (sym slots_both)
          (tells_both both (kept_files work (tickets_upto work lanes n)) (kept_files work tickets)
          (slots_of handles) (slots_of (kept_by one))
          (joined_stays root.view.client one.seat.view.client
          (kept_files work (tickets_upto work lanes n)) (slots_of handles) had.tells)
          (joined_comes root.view.client one.seat.view.client (kept_files work tickets)
          (slots_of (kept_by one)) lane_tells))))

      lists_after : new.view.client.joined ≡ root.view.client.joined ++ heads_of one
      lists_after =
          ap (λ (v : View). v.joined) client_is
          ∙ ap (λ (es : List Rope). root.view.client.joined ++ es) heads_are

      texts_after : (e : Rope) → In e new.view.client.joined → IsTextIn (texts_in work) e.text
      texts_after e i = ⊎_elim (had.texts e) (lane_texts e)
          (in_either e root.view.client.joined (heads_of one) (subst (In e) lists_after i))

      each_after : (i : ℕ) → i < n + 1
          → Tallies (words_of_all work (lane_tickets work lanes i)) []
          (slice_index_or (tallies ++ t ∷ []) i [])
      each_after i low = ⊎_elim
          (λ (last : i ≡ n).
          subst (λ k. Tallies (words_of_all work (lane_tickets work lanes k)) []
          (slice_index_or (tallies ++ t ∷ []) k [])) (sym last)
          (subst (Tallies (words_of_all work tickets) [])
          (sym (get_or_push tallies t [] n had.many)) lane_tallies))
          (λ (other : i ≡ n → ⊥).
          subst (Tallies (words_of_all work (lane_tickets work lanes i)) [])
          (sym (get_or_append_left tallies (t ∷ []) [] i
          (let m = had.many in below other m)))
          (had.each i (before other)))
          (cases_eq i n)
        where
          before : (i ≡ n → ⊥) → i < n
          before other = omega arith

          below : (i ≡ n → ⊥) → length tallies ≡ n → i < length tallies
          below other m = omega arith

      sums_after : (w : List ℕ) → counted_in (tallies ++ t ∷ []) w
          ≡ word_times w (words_of_all work (tickets_upto work lanes (n + 1)))
      sums_after w =
          let a = counted_more tallies t w in let b = had.sums w in
          let c = lane_tallies.counts w in let e = count_none w in
          let f = ap (λ ts. word_times w (words_of_all work ts)) more_tickets
          ∙ ap (word_times w) (words_both work (tickets_upto work lanes n) tickets)
          ∙ times_both w (words_of_all work (tickets_upto work lanes n)) (words_of_all work tickets) in
          omega (arith, a, b, c, e, f)

      pub taken_more : HasTaken d work lanes (n + 1) (done ++ one ∷ []) new (tallies ++ t ∷ [])
          (handles ++ kept_by one)
      taken_more = record {
        ready = ready;
        first = ap (λ (v : EpochView). v.seat) core_is ∙ had.first;
        numbers = numbers_after;
        kept = ap (λ (hs : List Handle). hs ++ kept_by one) had.kept
            ∙ sym (flat_push kept_by done one);
        owns = owns_after;
        tells = tells_after;
        bound = ap (λ (v : View). v.bound) client_is ∙ had.bound;
        joined = lists_after ∙ ap (λ (es : List Rope). es ++ heads_of one) had.joined
            ∙ sym (flat_push heads_of done one);
        texts = texts_after;
        many = length_push tallies t ∙ ap (λ k. k + 1) had.many;
        each = each_after;
        sums = sums_after;
      }
