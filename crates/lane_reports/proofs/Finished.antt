-- What seat 0 knows once it has shut the queue, and has learnt that the law holds.
use Rattle.std.proofs.Common.{◌≡◌, ℕ, ◌*◌, ◌<◌, ◌≤◌, List, [], ◌∷◌, ◌++◌, refl, sym, ap, subst, ◌∙◌, arith}
use Rattle.std.specs.Prelude.{length, map}
use Rattle.std.specs.List.{All, sum_by}
use Rattle.std.proofs.lemmas.List.{length-append, length-map}
use Rattle.std.proofs.lemmas.List.FromFn.{length-range_with_len}
use Rattle.std.proofs.lemmas.List.Sums.{sum_by-cons}
use Rattle.law_lesson.specs.plain_state.declared.slot.SlotId.{SlotId}
use Rattle.law_lesson.specs.plain_state.Lists.{times}
use Rattle.law_lesson.specs.plain_state.State.{Plain}
use Rattle.law_lesson.specs.plain_protocol.Owns.{Object}
use Rattle.domain_audit.specs.core_events.declared.view.CoreView.{CoreView}
use Rattle.domain_audit.specs.core_events.declared.view.LeftSeat.{LeftSeat}
use Rattle.domain_audit.specs.core_events.Shows.{shows}
use Rattle.domain_audit.specs.counted_handles.Handles.{Handle}
use Rattle.domain_audit.specs.acquire_retire.Domains.{DomainState}
use Rattle.domain_audit.specs.acquire_retire.Seats.{SeatState}
use Rattle.domain_audit.specs.acquire_retire.Wholes.{known_core}
use Rattle.domain_audit.specs.control_word.Resting.{IsAtRest}
use Rattle.domain_audit.proofs.Below.protected_loads_Telling.{holds_has}
use Rattle.words_rest.specs.directory_law.declared.view.View.{View as DirectoryView}
use Rattle.words_rest.specs.directory_law.Bytes.{AreBytes, text_bytes}
use Rattle.words_rest.specs.directory_law.Payloads.{Text}
use Rattle.tally_sums.specs.cdrc_text.Fold.{File, times as word_times}
use Rattle.tally_sums.specs.cdrc_text.Tally.{count_of, total_of}
use Rattle.words_rest.specs.queue_law.declared.view.View.{View as QueueView}
use Rattle.words_rest.specs.words_law.Known.{KnowsMore}
use Rattle.words_rest.specs.words_law.Views.{View}
use Rattle.lane_domain.specs.words_protocol.declared.law.WordsLaw.{WordsLaw}
use Rattle.lane_domain.specs.words_protocol.Sides.{area_of, ends_of}
use Rattle.words_rest.specs.Kept.{TellsFiles}
use Rattle.ticket_shares.specs.Tickets.{AreLanes, IsEachOnce, together}
use Rattle.ticket_shares.proofs.Lanes.{each_ticket}
use Rattle.lane_domain.specs.lane_files.Ready.{Owns}
use Rattle.lane_domain.specs.lane_files.lane_work.declared.work.Work.{Work}
use Rattle.lane_domain.specs.lane_files.Keeping.{slots_of}
use Rattle.lane_domain.specs.lane_files.Work.{IsWork, all_tickets, kept_files}
use Rattle.lane_domain.specs.Sizes.{all_pieces, texts_in}
use Rattle.lane_reports.proofs.Small.{files_small, texts_small}
use Rattle.lane_reports.specs.declared.done.Done.{Done}
use Rattle.lane_reports.specs.Counting.{CountsAll}
use Rattle.lane_reports.specs.Deeds.{LaneDeeds}
use Rattle.lane_reports.specs.Gathering.{HasGathered, IsBare, Tally, shares_of, words_popped}
use Rattle.lane_reports.specs.Kept.{lives_in}
use Rattle.lane_reports.specs.Learning.{LearnsLaw}
use Rattle.lane_reports.specs.Reporting.{CountWork, HasCounted, KeepsWork, LeftNothing}
use Rattle.lane_reports.specs.Rows.{AreWords}
use Rattle.lane_reports.specs.Shutting.{ShutsAndSettles}
use Rattle.lane_reports.specs.Taking.{TakesRest}
use Rattle.tally_sums.specs.Sums.{Tallies, counted_in}
use Rattle.lane_reports.proofs.Alike.{all_alike, files_alike}
use Rattle.lane_reports.proofs.AtRest.{alone_in}
use Rattle.lane_reports.proofs.Counting.{counts_all}
use Rattle.lane_reports.proofs.Occurring.{are_words, as_many, as_often, count_work, few_counted, lanes_counted, lanes_total, left_none, sum_work, times_both}
use Rattle.lane_reports.proofs.Tells.{as_many as as_many_lanes, files_more}

module _ (fits : List ℕ → Type 0) (d : DomainState WordsLaw) (work : Work) (is : IsWork work)
    (few : work.rounds * all_pieces work ≤ 1000000) (done : List Done) (some : 1 ≤ length done)
    (old g t s l : SeatState View) (counted tallies : Tallies) (kept : List Handle)
    (got : HasGathered work done old g counted kept) (bare : IsBare old)
    (named : old.view.client.0.number ≡ 0) (takes : TakesRest work g t counted tallies)
    (owns : Owns g.view.core.owned g t) (shuts : ShutsAndSettles d t s)
    (learns : LearnsLaw fits d s l) (rest : IsAtRest d l) where
  left_same : l.view.core.left_seats ≡ g.view.core.left_seats
  left_same =
      ap (λ (v : CoreView). v.left_seats) learns.core
      ∙ ap (λ (v : CoreView). v.left_seats) shuts.owns.same
      ∙ ap (λ (v : CoreView). v.left_seats) owns.same

  no_tickets : l.view.core.tickets ≡ []
  no_tickets =
      ap (λ (v : CoreView). v.tickets) learns.core
      ∙ ap (λ (v : CoreView). v.tickets) shuts.owns.same
      ∙ ap (λ (v : CoreView). v.tickets) owns.same
      ∙ ap (λ (v : CoreView). v.tickets) got.beside.core
      ∙ bare.tickets

  knows_same : KnowsMore t.view.client.1 l.view.client.1
  knows_same =
      subst (λ (v : DirectoryView). KnowsMore t.view.client.1 v)
      (sym (ap (λ (v : View). v.1) learns.client ∙ ap (λ (v : View). v.1) shuts.client))
      (record { kept = λ e i. i; ran = λ e i. i })

  knows_more : KnowsMore g.view.client.1 l.view.client.1
  knows_more = record {
    kept = λ e i. knows_same.kept e (takes.rest.takes.counts.more.knows.kept e i);
    ran = λ e i. knows_same.ran e (takes.rest.takes.counts.more.knows.ran e i);
  }

  -- OF WHAT IT OWNS
  pub owned_kept : (x : SlotId) → times x l.view.core.owned ≡ times x (slots_of kept)
  owned_kept x =
      ap (λ (v : CoreView). times x v.owned) learns.core
      ∙ shuts.owns.strongly x ∙ owns.strongly x ∙ got.owns.strongly x

  pub weakly_none : (x : SlotId) → times x l.view.core.weaks ≡ 0
  weakly_none x =
      ap (λ (v : CoreView). times x v.weaks) learns.core
      ∙ shuts.owns.weakly x ∙ owns.weakly x ∙ got.owns.weakly x

  lives_same : (x : SlotId) → 0 < times x (slots_of kept) → lives_in g x ≡ lives_in l x
  lives_same x held =
      let a = got.owns.strongly x in let b = owns.strongly x in let c = shuts.owns.strongly x in
      sym (ap (λ (o : Object). o.life)
      (learns.objects x (holds_has s.view.core x (omega (arith, held, a, b, c)))
      ∙ shuts.owns.knows x (omega (arith, held, a, b)) (omega (arith, held, a, b, c))
      ∙ owns.knows x (omega (arith, held, a)) (omega (arith, held, a, b))))

  -- OF THE TICKETS
  some_left : 0 < length l.view.core.left_seats
  some_left =
      let same = ap length left_same in
      let numbers = ap length got.drew.numbers in
      let many = length-map g.view.core.left_seats (λ (x : LeftSeat). x.seat) in
      let range = length-range_with_len 1 (length got.lanes) in
      let lanes = as_many_lanes work got.lanes done g.view.client.1 got.tells in
      omega (arith, same, numbers, many, range, lanes, some)

  once_of : (deeds : List LaneDeeds)
      → AreLanes (all_tickets work)
      (map (λ (x : LeftSeat). x.tickets) l.view.core.left_seats) (shares_of deeds)
      → IsEachOnce (all_tickets work) (together (shares_of deeds))
  once_of deeds are =
      let drew = learns.drew no_tickets in
      let drawn = length-map l.view.core.left_seats (λ (x : LeftSeat). x.tickets) in
      let many = some_left in
      each_ticket (all_tickets work) drew.0
      (map (λ (x : LeftSeat). x.tickets) l.view.core.left_seats) (shares_of deeds)
      (omega (arith, drawn, many)) drew.1 are

  abbrev tickets : List ℕ
  tickets = together (shares_of got.lanes)

  pub once : IsEachOnce (all_tickets work) tickets
  once = once_of got.lanes
      (subst (λ (xs : List LeftSeat). AreLanes (all_tickets work)
      (map (λ (x : LeftSeat). x.tickets) xs) (shares_of got.lanes)) (sym left_same) got.drew.shares)

  pub keeps_work : KeepsWork work (slots_of kept) l
  keeps_work = record {
    tickets = tickets;
    once = once;
    tells =
        files_alike (lives_in g) (lives_in l) l.view.client.1 (kept_files work tickets)
        (slots_of kept) lives_same
        (files_more g.view.client.1 l.view.client.1 knows_more (lives_in g)
        (kept_files work tickets) (slots_of kept)
        (subst (λ (hs : List Handle). TellsFiles (lives_in g) (kept_files work tickets)
        (slots_of hs) g.view.client.1) (sym got.kept)
        (all_alike work got.lanes done g got.tells got.alike)));
  }

  -- OF WHAT WAS COUNTED
  base : CountsAll work l (takes.first ∷ counted)
  base =
      counts_all work done old g t l counted kept takes.most takes.first got named takes.rest
      (ap (λ (v : View). v.0.pushed) learns.client ∙ ap (λ (v : View). v.0.pushed) shuts.client)
      (ap (λ (v : View). v.0.popped) learns.client ∙ ap (λ (v : View). v.0.popped) shuts.client)
      knows_same left_same once

  pub all_counts : CountsAll work l tallies
  all_counts = subst (λ (ts : List Tally). CountsAll work l ts) (sym takes.are) base

  abbrev popped : List (List ℕ)
  popped = words_popped base.deeds ++ base.words

  counts : (w : List ℕ) → counted_in tallies w ≡ word_times w popped
  counts w =
      let are = ap (λ (ts : Tallies). counted_in ts w) (takes.are ∙ base.are) in
      let all = sum_by-cons (λ (x : Tally). count_of x w) base.first base.others in
      let own = base.own.counts w in
      let lanes = lanes_counted w base.deeds base.others base.lanes in
      let both = times_both w (words_popped base.deeds) base.words in
      omega (arith, are, all, own, lanes, both)

  abbrev ts : List Text
  ts = base.pushed_words.0

  abbrev us : List Text
  us = base.popped_words.0

  pushed_many : length ts ≡ work.rounds * all_pieces work
  pushed_many =
      sym (length-map ts text_bytes) ∙ ap length base.pushed_words.2
      ∙ sum_work (λ xs. length xs) refl (λ xs ys. length-append xs ys) work
      (together (shares_of base.deeds)) base.once

  popped_many : length us ≡ length popped
  popped_many = sym (length-map us text_bytes) ∙ ap length base.popped_words.2

  enough : length ts ≤ length us
  enough =
      let lanes = lanes_total base.deeds base.others base.lanes in
      let both = length-append (words_popped base.deeds) base.words in
      let own = base.own.sum in
      let first = sum_by-cons total_of base.first base.others in
      let same = ap (λ (ts : Tallies). sum_by total_of ts) base.are in
      let mine = sum_by-cons total_of takes.first counted in
      let tallied = takes.rest.takes.tallies.sum in
      let none = takes.rest.sum in
      let most = takes.rest.takes.number in
      let all = takes.enough in
      let a = pushed_many in let b = popped_many in
      omega (arith, lanes, both, own, first, same, mine, tallied, none, most, all, a, b)

  shut : 3 ≤ l.view.client.0.stand.laid
  shut = subst (λ (v : View). 3 ≤ v.0.stand.laid) (sym (learns.client ∙ shuts.client)) (omega arith)

  abbrev p : Plain
  p = shows d.shape (known_core l.view)

  -- OF THE QUEUE
  pub left_nothing : LeftNothing l.view.client.0
  left_nothing = record {
    shut = ap (λ (v : View). v.0.stand.laid) (learns.client ∙ shuts.client);
    left = left_none (ends_of d.protocol.pair.left) (area_of d.protocol.pair.right) p
        learns.law.views learns.law.meets (alone_in fits d l learns.lone rest) l.view.client
        learns.law.own shut ts us base.pushed_words.1 base.popped_words.1 enough;
  }

  pub form_same : l.view.client.0.form ≡ old.view.client.0.form
  form_same =
      ap (λ (v : View). v.0.form) (learns.client ∙ shuts.client)
      ∙ ap (λ (q : QueueView). q.form) takes.rest.takes.counts.deeds
      ∙ ap (λ (q : QueueView). q.form) got.beside.queue

  even : (w : List ℕ) → word_times w (map text_bytes ts) ≡ word_times w popped
  even w =
      as_often (ends_of d.protocol.pair.left) (area_of d.protocol.pair.right) p learns.law.views
      learns.law.meets (alone_in fits d l learns.lone rest) l.view.client learns.law.own shut ts us
      base.pushed_words.1 base.popped_words.1 enough w
      ∙ ap (word_times w) base.popped_words.2

  many : length (map text_bytes ts) ≡ length popped
  many =
      length-map ts text_bytes
      ∙ as_many (ends_of d.protocol.pair.left) (area_of d.protocol.pair.right) p learns.law.views
      learns.law.meets (alone_in fits d l learns.lone rest) l.view.client learns.law.own shut ts us
      base.pushed_words.1 base.popped_words.1 enough
      ∙ popped_many

  pub counts_work : CountWork work tallies
  counts_work =
      count_work work (together (shares_of base.deeds)) base.once (map text_bytes ts) popped base.pushed_words.2 even many tallies
      counts

  pub counts_words : AreWords tallies
  counts_words =
      are_words work is tallies counts_work
      (few_counted work (together (shares_of base.deeds)) base.once (map text_bytes ts) popped base.pushed_words.2 even many tallies
      counts) few

  pub small_files : All (λ (f : File). All AreBytes f) (texts_in work)
  small_files =
      files_small work (together (shares_of base.deeds)) base.once is.once (map text_bytes ts)
      base.pushed_words.2 (texts_small ts)

  pub all_known : HasCounted work kept tallies l
  all_known = record {
    owned = owned_kept;
    weakly = weakly_none;
    keeps = keeps_work;
    counts = counts_work;
    words = counts_words;
    small = small_files;
  }
