-- What seat 0 has counted once it has taken the rest, shut the queue and written the report.
use Rattle.std.proofs.Common.{◌≡◌, ℕ, List, [], ◌∷◌, ◌++◌, append-nil, refl, sym, ap, subst, ◌∙◌, arith}
use Rattle.std.specs.Prelude.{length, map}
use Rattle.std.proofs.lemmas.List.{map-append}
use Rattle.domain_audit.specs.core_events.declared.view.LeftSeat.{LeftSeat}
use Rattle.domain_audit.specs.acquire_retire.Seats.{SeatState}
use Rattle.words_rest.specs.directory_law.declared.view.Rope.{Rope}
use Rattle.words_rest.specs.directory_law.declared.view.View.{View as DirectoryView}
use Rattle.words_rest.specs.directory_law.Bytes.{text_bytes}
use Rattle.words_rest.specs.directory_law.Payloads.{Text}
use Rattle.words_rest.specs.directory_law.Views.{In}
use Rattle.lane_domain.specs.directory_calls.Learning.{Learns}
use Rattle.words_rest.specs.queue_law.declared.view.Item.{Item}
use Rattle.words_rest.specs.queue_law.declared.view.Taken.{Taken}
use Rattle.words_rest.specs.queue_law.declared.view.View.{View as QueueView}
use Rattle.words_rest.specs.queue_law.Lists.{taken_items}
use Rattle.words_rest.specs.words_law.Known.{ForgetsNothing, KnowsMore, KnowsTexts}
use Rattle.words_rest.specs.words_law.Views.{View}
use Rattle.words_rest.proofs.Below.words_law_Known.{knows_both}
use Rattle.tally_sums.specs.cdrc_text.Fold.{times}
use Rattle.ticket_shares.specs.Tickets.{IsEachOnce, together}
use Rattle.lane_domain.specs.lane_files.Passed.{KnowsWords, by_seat}
use Rattle.lane_domain.specs.lane_files.lane_work.declared.work.Work.{Work}
use Rattle.lane_domain.specs.lane_files.Work.{all_tickets, words_of_all}
use Rattle.domain_audit.specs.counted_handles.Handles.{Handle}
use Rattle.lane_reports.specs.declared.done.Done.{Done}
use Rattle.lane_reports.specs.Deeds.{IsTallyOf}
use Rattle.lane_reports.specs.Gathering.{DrewTickets, HasGathered, Tally, shares_of, words_popped}
use Rattle.lane_reports.proofs.Lists.{items_by}
use Rattle.lane_reports.proofs.Occurring.{sum_work, times_both}
use Rattle.lane_reports.proofs.Tells.{pops_more, words_more}
use Rattle.lane_reports.specs.Counting.{CountsAll}
use Rattle.lane_reports.specs.Taking.{CountsRest}

no_items : (v : DirectoryView) (xs : List Item) (ts : List Text) → KnowsTexts v xs ts
    → map text_bytes ts ≡ [] → xs ≡ []
no_items v [] ts knows none = refl
no_items v (x ∷ xs) [] knows none = absurd knows
no_items v (x ∷ xs) (t ∷ ts) knows none = let n = ap length none in absurd (omega (arith, n))

-- a view that has learnt more forgets nothing
pub learns_more : (v w : DirectoryView) → Learns 0 v w → ForgetsNothing v w
learns_more v w learns = record {
  knows = record {
    kept = λ e i. subst (λ (l : List Rope). In e l) (sym learns.notes.1) i;
    ran = learns.ran;
  };
  saw = learns.seen;
}

none_by : (ts : List Taken) (n : ℕ) → ts ++ by_seat n [] ≡ ts
unfolding by_seat
none_by ts n = append-nil ts

module _ (work : Work) (done : List Done) (old g t new : SeatState View) (tallies : List Tally)
    (kept : List Handle) (most : ℕ) (first : Tally) (got : HasGathered work done old g tallies kept)
    (named : old.view.client.0.number ≡ 0) (rest : CountsRest most g t first)
    (pushed_same : new.view.client.0.pushed ≡ t.view.client.0.pushed)
    (popped_same : new.view.client.0.popped ≡ t.view.client.0.popped)
    (knows : KnowsMore t.view.client.1 new.view.client.1)
    (left : new.view.core.left_seats ≡ g.view.core.left_seats)
    (once : IsEachOnce (all_tickets work) (together (shares_of got.lanes))) where
  abbrev pushes : List Item
  pushes = rest.takes.counts.pushes

  abbrev pops : List Item
  pops = rest.takes.counts.pops

  number : g.view.client.0.number ≡ 0
  number = ap (λ (q : QueueView). q.number) got.beside.queue ∙ named

  pushed_is : new.view.client.0.pushed ≡ g.view.client.0.pushed
  pushed_is =
      pushed_same ∙ ap (λ (q : QueueView). q.pushed) rest.takes.counts.deeds
      ∙ ap (λ (xs : List Item). g.view.client.0.pushed ++ by_seat g.view.client.0.number xs)
      (no_items t.view.client.1 pushes rest.takes.counts.pushed_words.0
      rest.takes.counts.pushed_words.1 rest.takes.counts.pushed_words.2)
      ∙ none_by g.view.client.0.pushed g.view.client.0.number

  popped_is : new.view.client.0.popped ≡ g.view.client.0.popped ++ by_seat 0 pops
  popped_is =
      popped_same ∙ ap (λ (q : QueueView). q.popped) rest.takes.counts.deeds
      ∙ ap (λ n. g.view.client.0.popped ++ by_seat n pops) number

  more : KnowsMore g.view.client.1 new.view.client.1
  more = record {
    kept = λ e i. knows.kept e (rest.takes.counts.more.knows.kept e i);
    ran = λ e i. knows.ran e (rest.takes.counts.more.knows.ran e i);
  }

  items_both : (xs : List Taken) (ys : List Item) (ls ws : List (List ℕ)) (rs : List Taken)
      → rs ≡ xs ++ by_seat 0 ys → KnowsWords new.view.client.1 (taken_items xs) ls
      → KnowsWords new.view.client.1 ys ws
      → KnowsWords new.view.client.1 (taken_items rs) (ls ++ ws)
  items_both xs ys ls ws rs is a b =
      subst (λ (l : List Item). KnowsWords new.view.client.1 l (ls ++ ws))
      (sym (ap taken_items is ∙ map-append (λ (e : Taken). e.item) xs (by_seat 0 ys)
      ∙ ap (λ (l : List Item). taken_items xs ++ l) (items_by 0 ys))) (
        a.0 ++ b.0,
        knows_both new.view.client.1 (taken_items xs) ys a.0 b.0 a.1 b.1,
        map-append text_bytes a.0 b.0
            ∙ (ap (λ (l : List (List ℕ)). l ++ map text_bytes b.0) a.2
            ∙ ap (λ (l : List (List ℕ)). ls ++ l) b.2),
      )

  own_tally : IsTallyOf rest.takes.words first
  own_tally = record {
    counts = λ w. let a = rest.takes.tallies.counts w in let b = rest.none w in omega (arith, a, b);
    sum = let a = rest.takes.tallies.sum in let b = rest.sum in omega (arith, a, b);
  }

  pub counts_all : CountsAll work new (first ∷ tallies)
  counts_all = record {
    deeds = got.lanes;
    pops = pops;
    words = rest.takes.words;
    first = first;
    others = tallies;
    are = refl;
    own = own_tally;
    lanes = got.tallies;
    drew = subst (λ (l : List LeftSeat). DrewTickets work got.lanes l) (sym left) got.drew;
    pushed = pushed_is ∙ got.items.pushed;
    popped = popped_is
        ∙ ap (λ (l : List Taken). l ++ by_seat 0 pops) got.items.popped;
    pushed_words = subst (λ (l : List Taken). KnowsWords new.view.client.1 (taken_items l)
        (words_of_all work (together (shares_of got.lanes)))) (sym pushed_is)
        (words_more g.view.client.1 new.view.client.1 more (taken_items g.view.client.0.pushed)
        (words_of_all work (together (shares_of got.lanes))) got.items.pushed_words);
    popped_words = items_both g.view.client.0.popped pops (words_popped got.lanes)
        rest.takes.words new.view.client.0.popped popped_is
        (words_more g.view.client.1 new.view.client.1 more (taken_items g.view.client.0.popped)
        (words_popped got.lanes) got.items.popped_words)
        (words_more t.view.client.1 new.view.client.1 knows pops rest.takes.words
        rest.takes.counts.popped_words);
    each = pops_more g.view.client.1 new.view.client.1 more got.lanes got.items.each;
    own_words = words_more t.view.client.1 new.view.client.1 knows pops rest.takes.words
        rest.takes.counts.popped_words;
    once = once;
    often = λ w. sum_work (times w) refl (times_both w) work (together (shares_of got.lanes)) once;
  }
