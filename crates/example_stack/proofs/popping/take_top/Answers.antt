use Rattle.std.proofs.Common.{refl, Some}
use Rattle.cdrc.specs.plain_state.declared.act.EventPlace.TheVariants.{Cell}
use Rattle.cdrc.specs.plain_state.declared.slot.Kind.TheVariants.{Strong}
use Rattle.cdrc.specs.core_events.Steps.{without_given}
use Rattle.cdrc.specs.core_events.Words.{slot_in}
use Rattle.cdrc.proofs.Below.acquire_retire_Wholes.{then_ok}
use Rattle.cdrc.specs.atomic_shared.Places.{named}
use Rattle.cdrc.specs.retiring_stores.Exchanging.{LosesTo, Replaces}
use Rattle.cdrc.specs.retiring_stores.Scanning.{IsBelow}
use Rattle.example_stack.specs.Deeds.{TellsNothing, pop_next}
use Rattle.example_stack.specs.Calls.{LosesAt}
use Rattle.example_stack.specs.Leaving.{Leaves}
use Rattle.example_stack.proofs.Leavings.{err_then, exchange_leaves, lost_leaves}
use Rattle.example_stack.proofs.Takes.{lost_at, then_err}
use Rattle.example_stack.proofs.popping.take_top.Goals as goal

pub returns-clause-why : goal.returns-clause-why
returns-clause-why g c =
    then_err
    (λ lost. LosesTo g.K.PayloadKind.fits c.args.domain.now pop_next TellsNothing
    (Cell c.args.cell) (named c.args.below) (Some c.args.top) lost.now c.args.seat.now
    c.try_replace.new.seat)
    (λ lost. LosesAt g.K.PayloadKind.fits c.args.domain.now (Cell c.args.cell) (Some c.args.top)
    (slot_in lost.now) c.args.seat.now c.try_replace.new.seat)
    c.try_replace.result
    (λ lost loses. lost_at g.K.PayloadKind.fits c.args.domain.now (Cell c.args.cell) pop_next
    (named c.args.below) (Some c.args.top) loses.found lost.now c.args.seat.now
    c.try_replace.new.seat loses.loses loses.word)
    c.try_replace.ensures.lost

pub returns-clause-gives : goal.returns-clause-gives
returns-clause-gives g c =
    then_ok
    (λ done. Replaces g.K.PayloadKind.fits c.args.domain.now pop_next TellsNothing
    (Cell c.args.cell) (named c.args.below) (Some c.args.top) c.args.seat.now
    c.try_replace.new.seat
    × IsBelow c.args.domain.now c.try_replace.new.seat)
    (λ done. Leaves (without_given Strong (named c.args.below) c.args.seat.now.view.core).owned
    c.args.seat.now c.try_replace.new.seat)
    c.try_replace.result
    (λ done puts. exchange_leaves (Cell c.args.cell) _ (named c.args.below) (Some c.args.top)
    c.args.seat.now c.try_replace.new.seat refl puts.0 c.try_replace.ensures.objects)
    c.try_replace.ensures.replaced

pub returns-clause-leaves : goal.returns-clause-leaves
returns-clause-leaves g c =
    err_then
    (λ lost. LosesTo g.K.PayloadKind.fits c.args.domain.now pop_next TellsNothing
    (Cell c.args.cell) (named c.args.below) (Some c.args.top) lost.now c.args.seat.now
    c.try_replace.new.seat)
    (Leaves c.args.seat.now.view.core.owned c.args.seat.now c.try_replace.new.seat)
    c.try_replace.result
    (λ lost loses. lost_leaves c.args.cell (named c.args.below) (Some c.args.top) loses.found
    c.args.seat.now c.try_replace.new.seat loses.loses)
    c.try_replace.ensures.lost
