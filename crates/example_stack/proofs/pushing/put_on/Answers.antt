use Rattle.std.proofs.Common.{ap, ◌∙◌, refl}
use Rattle.std.specs.Prelude.{Some}
use Rattle.cdrc.specs.plain_state.declared.act.EventPlace.TheVariants.{Cell}
use Rattle.cdrc.specs.core_events.Words.{slot_in}
use Rattle.cdrc.proofs.Below.core_law_ShownPlaces.{slot_word}
use Rattle.example_stack.specs.Deeds.{push_next}
use Rattle.example_stack.proofs.Leavings.{exchange_leaves, lost_leaves}
use Rattle.example_stack.proofs.Takes.{lost_at}
use Rattle.example_stack.proofs.pushing.put_on.Goals as goal

pub returns-clause-why : goal.returns-clause-why
returns-clause-why g c = (
  ap slot_in c.held_as.ensures ∙ slot_word c.args.expected,
  lost_at g.K.PayloadKind.fits c.args.domain.now (Cell c.args.cell) push_next
      (Some c.args.node.slot) c.args.expected c.in-Err.ensures.lost.found c.in-Err.lost.now
      c.args.seat.now c.try_replace.new.seat c.in-Err.ensures.lost.loses c.in-Err.ensures.lost.word,
)

pub returns-clause-leaves : goal.returns-clause-leaves
returns-clause-leaves g c =
    lost_leaves c.args.cell (Some c.args.node.slot) c.args.expected c.in-Err.ensures.lost.found
    c.args.seat.now c.try_replace.new.seat c.in-Err.ensures.lost.loses

pub returns-in-Ok-clause-gives : goal.returns-in-Ok-clause-gives
returns-in-Ok-clause-gives g c =
    exchange_leaves (Cell c.args.cell) _ (Some c.args.node.slot) c.args.expected c.args.seat.now
    c.try_replace.new.seat refl c.in-Ok.ensures.replaced.0 c.try_replace.ensures.objects
