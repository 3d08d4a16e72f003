use Rattle.ticket_shares.proofs.Rounds.{round_counts, round_sums}
use Rattle.ticket_shares.proofs.laws.tickets_go_round.Goals as goal

pub returns : goal.returns
returns A c = record {
  sums = λ none files rounds tickets once number. round_sums none number files rounds tickets once;
  last = λ none files rounds tickets some once is.
      round_counts none is files rounds tickets some once;
}
