use Rattle.std.proofs.Common.{List, subst, sym}
use Rattle.control_word.specs.plain_state.declared.slot.SlotId.{SlotId}
use Rattle.handle_tests.specs.Plays.{Plays}
use Rattle.handle_tests.proofs.Changing.{unlisted}
use Rattle.handle_tests.proofs.player.note_strong.Goals as goal

pub returns-in-Err-clause-plays : goal.returns-in-Err-clause-plays
returns-in-Err-clause-plays c =
    subst
    (λ (xs : List SlotId). Plays c.args.domain.now c.args.player.now.seat xs c.args.player.now.weaks.items)
    (sym c.in-Err.ensures.items) (unlisted c.args.player.now.strongs.items c.args.player.now.weaks.items c.args.strong.slot c.requires)
