-- Tickets that a lane draws, one after the other.
use Rattle.std.proofs.Common.{◌≡◌, inl, inr, ℕ, ◌+◌, ◌*◌, ◌^◌, ◌<◌, ◌≤◌, List, [], ◌∷◌, ◌++◌, refl, sym, ap, subst, ◌∙◌, arith, append_assoc}
use Rattle.std.specs.Prelude.{All, length}
use Rattle.std.specs.List.{flat_map}
use Rattle.std.proofs.lemmas.List.{append-nil, length-append}
use Rattle.std.proofs.lemmas.List.Elements.{All-push}
use Rattle.std.proofs.lemmas.Nat.{mul-le}
use Rattle.control_word.specs.core_events.declared.view.CoreView.{CoreView}
use Rattle.control_word.specs.acquire_retire.Domains.{DomainState}
use Rattle.control_word.specs.acquire_retire.Seats.{SeatState}
use Rattle.words_protocol.specs.cdrc_text.Tally.{total_of}
use Rattle.control_word.specs.Resting.{IsSpent}
use Rattle.weak_intern.specs.directory_calls.Directories.{area_of}
use Rattle.weak_intern.specs.Drawing.{Draws}
use Rattle.words_protocol.specs.words_law.Views.{View}
use Rattle.words_protocol.specs.declared.law.WordsLaw.{WordsLaw}
use Rattle.lane_files.proofs.PiecesCounted.{takes_none}
use Rattle.lane_files.specs.lane_work.declared.lane.Lane.{Lane}
use Rattle.lane_files.specs.declared.refusal.FileError.{FileError}
use Rattle.lane_files.specs.declared.refusal.LaneStop.TheVariants as stopped
use Rattle.lane_files.specs.lane_work.declared.work.Work.{Work}
use Rattle.lane_files.specs.Counting.{StopsInFile}
use Rattle.lane_files.specs.Lanes.{CountsTickets, RunsLane, StopsLane}
use Rattle.lane_files.specs.Makes.{makes_for}
use Rattle.lane_files.specs.Work.{IsWork, all_tickets, words_of, words_of_all}
use Rattle.lane_files.proofs.Drawn.{after_draw, after_none, takes_draw}
use Rattle.lane_files.proofs.Making.{makes_both, makes_next}
use Rattle.lane_files.proofs.Tickets.{tickets_none, tickets_then, words_both, words_one}

-- the lane drew and counted so many tickets, each of a file
pub record HasRun (work : Work) (n : ℕ) (a b : SeatState View) (la lb : Lane) : Type 0 where
  pub tickets : List ℕ
  pub counts : CountsTickets work tickets a b la lb
  pub inside : All (λ ticket. ticket < all_tickets work) tickets
  pub many : length tickets ≡ n
  pub drawn : b.view.core.tickets ≡ a.view.core.tickets ++ tickets

pub has_none : (work : Work) (a : SeatState View) (lane : Lane) → HasRun work 0 a a lane lane
has_none work a lane = record {
  tickets = [];
  counts = tickets_none work a a lane (takes_none a.view.client lane.tally) (after_none a) refl;
  inside = λ k e less. absurd (omega (arith, less));
  many = refl;
  drawn = sym (append-nil a.view.core.tickets);
}

module _ (d : DomainState WordsLaw) (work : Work) (n : ℕ) (a b c : SeatState View) (la lb : Lane)
    (run : HasRun work n a b la lb) (ticket : ℕ)
    (draws : Draws (λ (v : View). v.1) (λ (v : View) w. (v.0, w)) (area_of d.protocol.pair.right)
    ticket b c) where
  counts_drawn : CountsTickets work run.tickets a c la lb
  counts_drawn = subst (λ ts. CountsTickets work ts a c la lb) (append-nil run.tickets)
      (tickets_then work run.tickets [] a b c la lb lb run.counts
      (tickets_none work b c lb (takes_draw d ticket b c draws lb.tally) (after_draw d ticket b c draws)
      (ap (λ (v : CoreView). v.makes) draws.core)))

  drawn_now : c.view.core.tickets ≡ a.view.core.tickets ++ (run.tickets ++ ticket ∷ [])
  drawn_now =
      ap (λ (v : CoreView). v.tickets) draws.core
      ∙ ap (λ ts. ts ++ ticket ∷ []) run.drawn
      ∙ append_assoc a.view.core.tickets run.tickets (ticket ∷ [])

  pub runs_past : all_tickets work ≤ ticket → RunsLane work a c la lb
  runs_past past = record {
    tickets = run.tickets;
    rest = ticket ∷ [];
    drawn = drawn_now;
    inside = run.inside;
    ends = inl (ticket, refl, past);
    counts = counts_drawn;
  }

  module _ (inside : ticket < all_tickets work) where
    -- its file was counted
    pub runs_on : (e : SeatState View) (lc : Lane) → CountsTickets work (ticket ∷ []) c e lb lc
        → e.view.core.tickets ≡ c.view.core.tickets → HasRun work (n + 1) a e la lc
    runs_on e lc counts same = record {
      tickets = run.tickets ++ ticket ∷ [];
      counts = tickets_then work run.tickets (ticket ∷ []) a c e la lb lc counts_drawn counts;
      inside = All-push (λ t. t < all_tickets work) run.tickets ticket run.inside inside;
      many = let m = run.many in let l = length-append run.tickets (ticket ∷ []) in omega arith;
      drawn = same ∙ drawn_now;
    }

    -- or not to its end
    pub runs_stop : (fits : List ℕ → Type 0) (e : SeatState View) (lc : Lane) (error : FileError)
        → StopsInFile fits d (words_of work ticket) error c e lb lc
        → StopsLane fits d work (stopped.File error) a e la lc
    runs_stop fits e lc error why = record {
      tickets = run.tickets;
      inside = run.inside;
      last = c;
      lane = lb;
      counts = counts_drawn;
      why = (ticket, inside, why);
      drawn = ap (λ (v : CoreView). v.tickets) why.owns.same
          ∙ (ap (λ (v : CoreView). v.tickets) why.counts.owns.same ∙ drawn_now);
      makes = let all = counts_drawn.makes in let first = why.counts.makes in
          let last = why.makes in
          let next = makes_next (words_of work ticket) why.done why.fewer in
          let one = ap makes_for (words_one work ticket) in
          let sum = ap makes_for (words_both work run.tickets (ticket ∷ [])) in
          let both = makes_both (words_of_all work run.tickets) (words_of_all work (ticket ∷ [])) in
          omega arith;
    }

-- no add was left for a ticket
pub runs_spent : (fits : List ℕ → Type 0) (d : DomainState WordsLaw) (work : Work) (n : ℕ)
    (a b c : SeatState View) (la lb : Lane) → HasRun work n a b la lb → IsSpent b.view.core
    → c ≡ b → StopsLane fits d work stopped.Spent a c la lb
runs_spent fits d work n a b c la lb run spent same =
    subst (λ (s : SeatState View). StopsLane fits d work stopped.Spent a s la lb) (sym same)
    (record {
      tickets = run.tickets;
      inside = run.inside;
      last = b;
      lane = lb;
      counts = run.counts;
      why = (spent, refl, refl);
      drawn = run.drawn ∙ ap (λ ts. a.view.core.tickets ++ ts) (sym (append-nil run.tickets));
      makes = let m = run.counts.makes in
          let e = ap (λ ts. makes_for (words_of_all work ts)) (append-nil run.tickets) in
          omega arith;
    })

-- more tickets of files than there are
pub runs_over : (work : Work) (n : ℕ) (a b : SeatState View) (la lb : Lane)
    → HasRun work n a b la lb → all_tickets work < n → RunsLane work a b la lb
runs_over work n a b la lb run over = record {
  tickets = run.tickets;
  rest = [];
  drawn = run.drawn ∙ ap (λ ts. a.view.core.tickets ++ ts) (sym (append-nil run.tickets));
  inside = run.inside;
  ends = inr (refl, let m = run.many in omega (arith, over));
  counts = run.counts;
}

-- how many words the files of some tickets have at most
words_most : (work : Work) → IsWork work → (ts : List ℕ)
    → length (words_of_all work ts) ≤ 2 ^ 20 * length ts
unfolding words_of_all
words_most work is [] = omega arith
words_most work is (t ∷ ts) =
    let l = length-append (words_of work t) (flat_map (words_of work) ts) in let s = is.sizes t in
    let r = words_most work is ts in omega arith

-- and so how many a tally counts more
pub runs_counted : (work : Work) → IsWork work → (n : ℕ) (a b : SeatState View) (la lb : Lane)
    → HasRun work n a b la lb → total_of lb.tally ≤ total_of la.tally + 2 ^ 20 * n
runs_counted work is n a b la lb run =
    let t = run.counts.takes.tallies.sum in let l = run.counts.takes.number in
    let m = run.counts.most in let w = words_most work is run.tickets in let k = run.many in
    omega arith

pub tickets_few : (work : Work) → IsWork work → all_tickets work ≤ 4096000
tickets_few work is = mul-le work.rounds (length work.files.items) 1000 4096 is.rounds is.few
