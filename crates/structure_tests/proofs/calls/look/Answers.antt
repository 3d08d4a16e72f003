use Rattle.std.proofs.Common.{◌<◌, List, subst, sym, ◌∙◌}
use Rattle.part_calls.specs.plain_state.declared.slot.SlotId.{SlotId}
use Rattle.part_calls.specs.plain_state.Lists.{times}
use Rattle.structure_tests.proofs.calls.look.Goals as goal

pub read_word-number-requires-clause-owned : goal.read_word-number-requires-clause-owned
read_word-number-requires-clause-owned c =
    subst (λ (xs : List SlotId). 0 < times c.args.slot xs) (sym c.read_word-sender.ensures.owned)
    c.requires.owned

pub returns-clause-owned : goal.returns-clause-owned
returns-clause-owned c =
    c.read_word-number.ensures.owned ∙ c.read_word-sender.ensures.owned

pub returns-clause-stands : goal.returns-clause-stands
returns-clause-stands c =
    c.read_word-number.ensures.stands ∙ c.read_word-sender.ensures.stands
