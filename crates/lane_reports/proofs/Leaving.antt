-- One seat leaves, and seat 0 takes over what its lane did.
use Rattle.std.proofs.Common.{◌≡◌, ℕ, ◌+◌, ◌<◌, List, [], ◌∷◌, ◌++◌, sym, ap, subst, ◌∙◌, arith}
use Rattle.std.specs.Prelude.{length, map}
use Rattle.std.specs.List.{flat_map, range_with_len, sum_by}
use Rattle.std.proofs.lemmas.List.{append-nil, length-append, map-append, map_push}
use Rattle.std.proofs.lemmas.List.Concat.{flat_map-append}
use Rattle.std.proofs.lemmas.List.Sums.{sum_by-append}
use Rattle.law_lesson.specs.plain_state.declared.slot.SlotId.{SlotId}
use Rattle.law_lesson.specs.plain_state.Lists.{times}
use Rattle.domain_audit.specs.core_events.declared.act.Act.TheVariants as act
use Rattle.domain_audit.specs.core_events.declared.outcome.Outcome.TheVariants as outcome
use Rattle.domain_audit.specs.core_events.declared.view.CoreView.{CoreView}
use Rattle.domain_audit.specs.core_events.declared.view.LeftSeat.{LeftSeat}
use Rattle.domain_audit.specs.core_events.declared.view.Note.TheVariants as note
use Rattle.domain_audit.specs.core_events.Runs.{taken_over}
use Rattle.domain_audit.specs.core_events.Steps.{HasRoom, IsIdle, noted}
use Rattle.domain_audit.specs.core_events.Views.{note_of, room_of}
use Rattle.domain_audit.proofs.Below.core_law_Kit.{times_append}
use Rattle.domain_audit.proofs.Below.protected_loads_Telling.{holds_has}
use Rattle.domain_audit.specs.counted_handles.Handles.{Handle}
use Rattle.domain_audit.specs.acquire_retire.Domains.{DomainState}
use Rattle.domain_audit.specs.acquire_retire.Leavings.{TookOver}
use Rattle.domain_audit.specs.acquire_retire.Seats.{SeatState}
use Rattle.domain_audit.specs.control_word.Resting.{IsAtRest, IsSettled, IsUnderNone}
use Rattle.lane_domain.specs.directory_calls.Directories.{HasQuota}
use Rattle.words_rest.specs.directory_law.declared.view.View.{View as DirectoryView}
use Rattle.words_rest.specs.directory_law.Bytes.{text_bytes}
use Rattle.words_rest.proofs.Below.directory_law_Notes.{in_left, in_right}
use Rattle.domain_audit.specs.domain_rule.declared.view.SeatView.{SeatView}
use Rattle.lane_domain.specs.linked_queue.Queues.{IsAttached}
use Rattle.words_rest.specs.queue_law.declared.view.Item.{Item}
use Rattle.words_rest.specs.queue_law.declared.view.Taken.{Taken}
use Rattle.words_rest.specs.queue_law.declared.view.View.{View as QueueView}
use Rattle.words_rest.specs.queue_law.Lists.{taken_items}
use Rattle.lane_domain.specs.text_reading.Reading.{HasTwoFree}
use Rattle.ticket_shares.specs.Tickets.{AreLanes, together}
use Rattle.words_rest.specs.words_law.Known.{ForgetsNothing, KnowsMore}
use Rattle.words_rest.specs.words_law.Owned.{join_directories, joined}
use Rattle.words_rest.specs.words_law.Views.{View}
use Rattle.words_rest.proofs.Below.words_law_Known.{joined_knows}
use Rattle.lane_domain.specs.words_protocol.declared.law.WordsLaw.{WordsLaw}
use Rattle.lane_domain.specs.lane_files.Passed.{KnowsWords, by_seat}
use Rattle.lane_domain.specs.lane_files.declared.shared.Shared.{Shared}
use Rattle.lane_domain.specs.lane_files.Ready.{IsReady}
use Rattle.lane_domain.proofs.Below.lane_files_PiecesCounted.{more_then}
use Rattle.lane_domain.specs.lane_files.lane_work.declared.lane.Lane.{Lane}
use Rattle.lane_domain.specs.lane_files.lane_work.declared.work.Work.{Work}
use Rattle.lane_domain.specs.lane_files.Keeping.{slots_of}
use Rattle.lane_domain.specs.lane_files.Work.{all_tickets, kept_files, words_of_all}
use Rattle.lane_reports.specs.declared.done.Done.{Done}
use Rattle.lane_reports.specs.Deeds.{LaneDeeds, LaneDid, OwnsJust}
use Rattle.lane_reports.specs.Gathering.{DrewTickets, HasGathered, HasItems, KeptAlike, StaysBeside, TellsLanes, Tally, beside_lists, beside_taken, each_by, kept_by, shares_of, words_popped}
use Rattle.lane_reports.specs.Kept.{lives_in}
use Rattle.lane_reports.proofs.Lists.{each_push, items_by, lanes_push, numbers_push, popped_push, tallies_push, together_push, words_push}
use Rattle.lane_reports.proofs.Tells.{as_many, files_more, lanes_more, pops_more, pops_push, tells_files, tells_push, words_more}

-- what seat 0 has of the references that lanes keep, it has as they had it
alike_more : (done : List Done) (a b : SeatState View)
    → ((s : SlotId) → 0 < times s (slots_of (flat_map kept_by done)) → lives_in b s ≡ lives_in a s)
    → KeptAlike done a → KeptAlike done b
alike_more [] a b same alike = tt
alike_more (x ∷ xs) a b same alike = (
  (λ s some. alike.0 s some ∙ sym (same s (let both = both_times s in omega (arith, some, both)))),
  alike_more xs a b
      (λ s some. same s (let both = both_times s in omega (arith, some, both))) alike.1,
)
  where
    both_times : (s : SlotId) → times s (slots_of (flat_map kept_by (x ∷ xs)))
        ≡ times s (slots_of (kept_by x)) + times s (slots_of (flat_map kept_by xs))
    both_times s =
        ap (times s) (map-append (λ (h : Handle). h.slot) (kept_by x) (flat_map kept_by xs))
        ∙ times_append s (slots_of (kept_by x)) (slots_of (flat_map kept_by xs))

alike_push : (done : List Done) (one : Done) (a : SeatState View) → KeptAlike done a
    → ((s : SlotId) → 0 < times s (slots_of (kept_by one)) → lives_in one.seat s ≡ lives_in a s)
    → KeptAlike (done ++ one ∷ []) a
alike_push [] one a all it = (it, tt)
alike_push (x ∷ xs) one a all it = (all.0, alike_push xs one a all.1 it)

-- A VIEW OF BOTH
module _ (v w : DirectoryView) where
  pub root_more : ForgetsNothing v (join_directories v w)
  root_more = record {
    knows = record {
      kept = λ e i. in_left e v.kept w.kept i;
      ran = λ e i. in_left e v.ran w.ran i;
    };
    saw = λ e i. i;
  }

  pub seat_more : KnowsMore w (join_directories v w)
  seat_more = record {
    kept = λ e i. in_right e v.kept w.kept i;
    ran = λ e i. in_right e v.ran w.ran i;
  }

  words_joined : (xs ys : List Item) (us ws : List (List ℕ)) → KnowsWords v xs us
      → KnowsWords w ys ws → KnowsWords (join_directories v w) (xs ++ ys) (us ++ ws)
  words_joined xs ys us ws a b = (
    a.0 ++ b.0,
    joined_knows v w xs ys a.0 b.0 a.1 b.1,
    map-append text_bytes a.0 b.0
        ∙ (ap (λ (l : List (List ℕ)). l ++ map text_bytes b.0) a.2
        ∙ ap (λ (l : List (List ℕ)). us ++ l) b.2),
  )

  -- of the items that stand in the lists of the two, where the second has only what seat n did
  pub items_joined : (n : ℕ) (ts us rs : List Taken) (ys : List Item) (ls ws : List (List ℕ))
      → us ≡ by_seat n ys → rs ≡ ts ++ us → KnowsWords v (taken_items ts) ls → KnowsWords w ys ws
      → KnowsWords (join_directories v w) (taken_items rs) (ls ++ ws)
  items_joined n ts us rs ys ls ws by is a b =
      subst (λ (l : List Item). KnowsWords (join_directories v w) l (ls ++ ws))
      (sym (ap taken_items is ∙ map-append (λ (e : Taken). e.item) ts us
      ∙ ap (λ (l : List Item). taken_items ts ++ l) (ap taken_items by ∙ items_by n ys)))
      (words_joined (taken_items ts) ys ls ws a b)

-- what seat 0 has once the seat has left
module _ (fits : List ℕ → Type 0) (d : DomainState WordsLaw) (root seat new : SeatState View)
    (took : TookOver d fits joined root seat new) where
  abbrev taken : CoreView
  taken = noted (act.Leave seat.view.core.seat) outcome.Plain (taken_over root.view.core seat.view.core)

  core_is : new.view.core ≡ taken
  core_is = ap (λ (v : SeatView View). v.core) took.view

  client_is : new.view.client ≡ joined root.view.client seat.view.client
  client_is = ap (λ (v : SeatView View). v.client) took.view

  pub core_beside : beside_taken new.view.core ≡ beside_taken root.view.core
  core_beside = ap beside_taken core_is

  queue_beside : beside_lists new.view.client.0 ≡ beside_lists root.view.client.0
  queue_beside = ap (λ (v : View). beside_lists v.0) client_is

  more_known : ForgetsNothing root.view.client.1 new.view.client.1
  more_known = subst (λ (v : View). ForgetsNothing root.view.client.1 v.1) (sym client_is)
      (root_more root.view.client.1 seat.view.client.1)

  more_of_seat : KnowsMore seat.view.client.1 new.view.client.1
  more_of_seat = subst (λ (v : View). KnowsMore seat.view.client.1 v.1) (sym client_is)
      (seat_more root.view.client.1 seat.view.client.1)

  pub none_after : IsUnderNone root.view.core → IsUnderNone new.view.core
  none_after none = subst IsUnderNone (sym core_beside) none

  module _ (on : Shared) (ready : IsReady d on root) (work : Work) (n : ℕ) (lane : Lane)
      (did : LaneDid work d n seat lane) where
    rest_after : IsAtRest d new
    rest_after = record {
      of_domain = (
        took.table ∙ ready.rest.of_domain.0,
        ap (λ (v : CoreView). v.shape) core_beside ∙ ready.rest.of_domain.1,
      );
      idle = subst IsIdle (sym core_beside) ready.rest.idle;
      owes_nothing = ap (λ (v : CoreView). v.owed) core_beside ∙ ready.rest.owes_nothing;
      first = subst (λ (v : CoreView). note_of v 0 ≡ note.Idle) (sym core_beside) ready.rest.first;
      others = subst (λ (v : CoreView). (j : ℕ) → IsSettled (note_of v j)) (sym core_beside)
          ready.rest.others;
    }

    room_after : HasRoom new.view.core
    room_after =
        let few = did.leaves.few in let room = ready.room in
        let r = ap (λ (v : CoreView). v.room) core_is in
        let l = ap (λ (v : CoreView). length v.retired) core_is in
        let o = ap (λ (v : CoreView). length v.owed) core_is in
        let a = length-append root.view.core.retired seat.view.core.retired in
        let s = ap (λ z. room_of z) (did.leaves.rest.of_domain.1 ∙ sym ready.rest.of_domain.1) in
        omega arith

    attached_after : IsAttached new.view.client.0
    attached_after = record {
      here = ap (λ (q : QueueView). q.here) queue_beside ∙ ready.attached.here;
      attached = ap (λ (q : QueueView). q.attached) queue_beside ∙ ready.attached.attached;
    }

    quota_after : HasQuota new.view.client.1
    quota_after = subst (λ (v : View). HasQuota v.1) (sym client_is)
        (let a = ready.quota in let b = did.leaves.quota in omega arith)

    pub ready_after : IsReady d on new
    ready_after = record {
      rest = rest_after;
      room = room_after;
      queue = ready.queue;
      over = ready.over;
      attached = attached_after;
      quota = quota_after;
      free = subst HasTwoFree (sym core_beside) ready.free;
    }

    abbrev one : Done
    one = record { seat = seat; lane = lane }

    abbrev leaver : LeftSeat
    leaver = record {
      seat = seat.view.core.seat;
      trail = seat.view.core.trail;
      tickets = seat.view.core.tickets;
    }

    left_is : new.view.core.left_seats ≡ root.view.core.left_seats ++ leaver ∷ []
    left_is = ap (λ (v : CoreView). v.left_seats) core_is

    owns_after : (kept : List Handle) → OwnsJust (slots_of kept) root
        → OwnsJust (slots_of (kept ++ kept_by one)) new
    owns_after kept owns = record {
      strongly = λ x.
          let a = owns.strongly x in let b = did.owns.strongly x in
          let c = ap (λ (v : CoreView). times x v.owned) core_is in
          let p = times_append x root.view.core.owned seat.view.core.owned in
          let e = ap (times x) (map-append (λ (h : Handle). h.slot) kept (kept_by one)) in
          let q = times_append x (slots_of kept) (slots_of (kept_by one)) in omega arith;
      weakly = λ x.
          let a = owns.weakly x in let b = did.owns.weakly x in
          let c = ap (λ (v : CoreView). times x v.weaks) core_is in
          let p = times_append x root.view.core.weaks seat.view.core.weaks in omega arith;
    }

    module _ (lanes : List LaneDeeds) (done : List Done) (is : n ≡ 1 + length lanes) where
      drew_after : DrewTickets work lanes root.view.core.left_seats
          → DrewTickets work (lanes ++ did.deeds ∷ []) new.view.core.left_seats
      drew_after drew = record {
        shares = subst (λ ds. AreLanes (all_tickets work) ds (shares_of (lanes ++ did.deeds ∷ [])))
            (sym (ap (map (λ (l : LeftSeat). l.tickets)) left_is
            ∙ map_push (λ (l : LeftSeat). l.tickets) root.view.core.left_seats leaver))
            (subst (λ ss. AreLanes (all_tickets work)
            (map (λ (l : LeftSeat). l.tickets) root.view.core.left_seats ++ leaver.tickets ∷ []) ss)
            (sym (map_push (λ (x : LaneDeeds). x.tickets) lanes did.deeds))
            (lanes_push (all_tickets work)
            (map (λ (l : LeftSeat). l.tickets) root.view.core.left_seats) leaver.tickets
            (shares_of lanes) did.deeds.tickets drew.shares did.share));
        numbers =
            ap (map (λ (l : LeftSeat). l.seat)) left_is
            ∙ map_push (λ (l : LeftSeat). l.seat) root.view.core.left_seats leaver
            ∙ ap (λ (l : List ℕ). l ++ leaver.seat ∷ []) drew.numbers
            ∙ ap (λ (k : ℕ). range_with_len 1 (length lanes) ++ k ∷ []) (did.leaves.number ∙ is)
            ∙ sym (numbers_push 1 (length lanes))
            ∙ ap (range_with_len 1) (sym (length-append lanes (did.deeds ∷ [])));
      }

      listed : (f : LaneDeeds → List Item) (ts us rs : List Taken) → rs ≡ ts ++ us
          → ts ≡ each_by f 1 lanes → us ≡ by_seat n (f did.deeds)
          → rs ≡ each_by f 1 (lanes ++ did.deeds ∷ [])
      listed f ts us rs joins by own =
          joins ∙ ap (λ (l : List Taken). l ++ us) by
          ∙ ap (λ (l : List Taken). each_by f 1 lanes ++ l)
          (own ∙ ap (λ k. by_seat k (f did.deeds)) is)
          ∙ sym (each_push f 1 lanes did.deeds)

      pushed_is : new.view.client.0.pushed
          ≡ root.view.client.0.pushed ++ seat.view.client.0.pushed
      pushed_is = ap (λ (v : View). v.0.pushed) client_is

      popped_is : new.view.client.0.popped
          ≡ root.view.client.0.popped ++ seat.view.client.0.popped
      popped_is = ap (λ (v : View). v.0.popped) client_is

      more_words : (lists : View → List Taken) (ys : List Item) (ls ws both : List (List ℕ))
          → lists new.view.client ≡ lists root.view.client ++ lists seat.view.client
          → lists seat.view.client ≡ by_seat n ys → both ≡ ls ++ ws
          → KnowsWords root.view.client.1 (taken_items (lists root.view.client)) ls
          → KnowsWords seat.view.client.1 ys ws
          → KnowsWords new.view.client.1 (taken_items (lists new.view.client)) both
      more_words lists ys ls ws both joins by words a b =
          subst (λ (v : DirectoryView). KnowsWords v (taken_items (lists new.view.client)) both)
          (sym (ap (λ (v : View). v.1) client_is))
          (subst (λ l. KnowsWords (join_directories root.view.client.1 seat.view.client.1)
          (taken_items (lists new.view.client)) l) (sym words)
          (items_joined root.view.client.1 seat.view.client.1 n (lists root.view.client)
          (lists seat.view.client) (lists new.view.client) ys ls ws by joins a b))

      items_after : HasItems work lanes root.view.client
          → HasItems work (lanes ++ did.deeds ∷ []) new.view.client
      items_after items = record {
        pushed = listed (λ x. x.pushes) root.view.client.0.pushed seat.view.client.0.pushed
            new.view.client.0.pushed pushed_is items.pushed did.passed.pushed;
        popped = listed (λ x. x.pops) root.view.client.0.popped seat.view.client.0.popped
            new.view.client.0.popped popped_is items.popped did.passed.popped;
        pushed_words = more_words (λ v. v.0.pushed) did.deeds.pushes
            (words_of_all work (together (shares_of lanes))) (words_of_all work did.deeds.tickets)
            (words_of_all work (together (shares_of (lanes ++ did.deeds ∷ [])))) pushed_is
            did.passed.pushed
            (ap (words_of_all work) (together_push lanes did.deeds)
            ∙ words_push work (together (shares_of lanes)) did.deeds.tickets)
            items.pushed_words did.passed.pushed_words;
        popped_words = more_words (λ v. v.0.popped) did.deeds.pops (words_popped lanes)
            did.deeds.words (words_popped (lanes ++ did.deeds ∷ [])) popped_is did.passed.popped
            (popped_push lanes did.deeds) items.popped_words did.passed.popped_words;
        each = pops_push new.view.client.1 lanes did.deeds
            (pops_more root.view.client.1 new.view.client.1 more_known.knows lanes items.each)
            (words_more seat.view.client.1 new.view.client.1 more_of_seat did.deeds.pops
            did.deeds.words did.passed.popped_words);
      }

      tells_after : TellsLanes work lanes done root.view.client.1
          → TellsLanes work (lanes ++ did.deeds ∷ []) (done ++ one ∷ []) new.view.client.1
      tells_after tells =
          tells_push work lanes did.deeds done one new.view.client.1
          (lanes_more root.view.client.1 new.view.client.1 more_known.knows work lanes done tells)
          (files_more seat.view.client.1 new.view.client.1 more_of_seat (lives_in seat)
          (kept_files work did.deeds.tickets) (slots_of (kept_by one))
          (tells_files (kept_files work did.deeds.tickets) (slots_of (kept_by one)) seat did.keeps))

      beside_after : (start : SeatState View) → StaysBeside done start root
          → StaysBeside (done ++ one ∷ []) start new
      beside_after start beside = record {
        core = core_beside ∙ beside.core;
        queue = queue_beside ∙ beside.queue;
        more = more_then start.view.client.1 root.view.client.1 new.view.client.1 beside.more
            more_known;
        adds = counted (λ x. x.seat.view.core.adds) new.view.left_adds root.view.left_adds
            start.view.left_adds (ap (λ (v : SeatView View). v.left_adds) took.view) beside.adds;
        makes = counted (λ x. x.seat.view.core.makes) new.view.left_makes root.view.left_makes
            start.view.left_makes (ap (λ (v : SeatView View). v.left_makes) took.view) beside.makes;
      }
        where
          counted : (f : Done → ℕ) (c b a : ℕ) → c ≡ b + f one → b ≡ a + sum_by f done
              → c ≡ a + sum_by f (done ++ one ∷ [])
          counted f c b a last so_far =
              let p = sum_by-append f done (one ∷ []) in omega (arith, last, so_far, p)

    alike_after : (done : List Done) (handles : List Handle) → handles ≡ flat_map kept_by done
        → OwnsJust (slots_of handles) root → KeptAlike done root → KeptAlike (done ++ one ∷ []) new
    alike_after done handles all owns alike =
        alike_push done one new
        (alike_more done root new
        (λ s some.
        let mine = owns.strongly s in
        let kept = ap (λ (l : List Handle). times s (slots_of l)) all in
        took.alike.0 s (holds_has root.view.core s (omega (arith, some, mine, kept)))) alike)
        (λ s some.
        let mine = did.owns.strongly s in
        sym (took.alike.1 s (holds_has seat.view.core s (omega (arith, some, mine)))))

    pub gathers_after : (done : List Done) (start : SeatState View) (tallies : List Tally)
        (kept : List Handle) → n ≡ 1 + length done
        → HasGathered work done start root tallies kept
        → HasGathered work (done ++ one ∷ []) start new (tallies ++ lane.tally ∷ [])
        (kept ++ kept_by one)
    gathers_after done start tallies kept is got = record {
      lanes = got.lanes ++ did.deeds ∷ [];
      tallies = tallies_push got.lanes did.deeds tallies lane.tally got.tallies did.tally;
      drew = drew_after got.lanes done many got.drew;
      items = items_after got.lanes done many got.items;
      kept = ap (λ (l : List Handle). l ++ kept_by one) got.kept ∙ sym (flat_map_push kept_by done one);
      tells = tells_after got.lanes done many got.tells;
      alike = alike_after done kept got.kept got.owns got.alike;
      owns = owns_after kept got.owns;
      beside = beside_after got.lanes done many start got.beside;
    }
      where
        many : n ≡ 1 + length got.lanes
        many = let e = as_many work got.lanes done root.view.client.1 got.tells in omega (arith, is, e)

        flat_map_push : (f : Done → List Handle) (xs : List Done) (x : Done)
            → flat_map f (xs ++ x ∷ []) ≡ flat_map f xs ++ f x
        flat_map_push f xs x =
            flat_map-append f xs (x ∷ []) ∙ ap (λ (l : List Handle). flat_map f xs ++ l) (append-nil (f x))
