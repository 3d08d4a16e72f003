use Rattle.tally_sums.proofs.Steps.{IsJoined}
use Rattle.tally_sums.proofs.adding.add_up.Given as goal

abbrev pub invariant-loop-word : goal.invariant-loop-word
invariant-loop-word l =
    IsJoined l.words.items l.last l.word-iterator.rest.items l.fn.entries.items
