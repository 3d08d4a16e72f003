use Rattle.words_law.proofs.promises.popped_items_were_pushed.Goals as goal
use Rattle.words_law.proofs.Popped.{popped_was_pushed, popped_within}

pub returns : goal.returns
returns c = record { was = popped_was_pushed; often = popped_within }
