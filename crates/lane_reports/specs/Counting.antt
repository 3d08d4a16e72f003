-- What the lanes and seat 0 counted together.
use Rattle.std.specs.Prelude.{ℕ, ◌≡◌, List, ◌∷◌, ◌++◌}
use Rattle.domain_audit.specs.acquire_retire.Seats.{SeatState}
use Rattle.words_rest.specs.queue_law.declared.view.Item.{Item}
use Rattle.words_rest.specs.queue_law.Lists.{taken_items}
use Rattle.words_rest.specs.words_law.Views.{View}
use Rattle.tally_sums.specs.cdrc_text.Fold.{occurrences_in, times}
use Rattle.ticket_shares.specs.Tickets.{IsEachOnce, together}
use Rattle.lane_domain.specs.lane_files.Passed.{KnowsWords, by_seat}
use Rattle.lane_domain.specs.lane_files.lane_work.declared.work.Work.{Work}
use Rattle.lane_domain.specs.lane_files.Work.{all_tickets, words_of_all}
use Rattle.lane_domain.specs.Sizes.{texts_in}
use Rattle.lane_reports.specs.Deeds.{IsTallyOf, LaneDeeds}
use Rattle.lane_reports.specs.Gathering.{AreTallies, DrewTickets, KnowsPops, Tally, each_by, shares_of, words_popped}

-- Lanes did these deeds, and seat 0 popped items besides and pushed none. Seat 0's view has all items that were pushed
-- and popped, with their words, and the tickets that the lanes drew, each of a file once: so each word was pushed as
-- often as it occurs. Of the items that each seat popped itself the view tells the words, and the tally of that seat
-- counts these and no others: the first tally those of seat 0, and then each those of its lane, in order.
pub record CountsAll (work : Work) (root : SeatState View) (tallies : List Tally) : Type 0 where
  pub deeds : List LaneDeeds
  pub pops : List Item
  pub words : List (List ℕ)
  pub first : Tally
  pub others : List Tally
  pub are : tallies ≡ first ∷ others
  pub own : IsTallyOf words first
  pub lanes : AreTallies deeds others
  pub drew : DrewTickets work deeds root.view.core.left_seats
  pub pushed : root.view.client.0.pushed ≡ each_by (λ x. x.pushes) 1 deeds
  pub popped : root.view.client.0.popped ≡ each_by (λ x. x.pops) 1 deeds ++ by_seat 0 pops
  pub pushed_words :
      KnowsWords root.view.client.1 (taken_items root.view.client.0.pushed)
      (words_of_all work (together (shares_of deeds)))
  pub popped_words :
      KnowsWords root.view.client.1 (taken_items root.view.client.0.popped)
      (words_popped deeds ++ words)
  pub each : KnowsPops root.view.client.1 deeds
  pub own_words : KnowsWords root.view.client.1 pops words
  pub once : IsEachOnce (all_tickets work) (together (shares_of deeds))
  pub often :
      (w : List ℕ)
      → times w (words_of_all work (together (shares_of deeds)))
      ≡ occurrences_in w work.rounds (texts_in work)
