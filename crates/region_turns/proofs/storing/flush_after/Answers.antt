use Rattle.std.proofs.Common.{sym, ◌∙◌}
use Rattle.region_turns.proofs.StoreEvents.{has_flushed, has_not_flushed, of_ok}
use Rattle.region_turns.proofs.storing.flush_after.Goals as goal

pub returns-then-number-ne0-clause-flushed : goal.returns-then-number-ne0-clause-flushed
returns-then-number-ne0-clause-flushed c all =
    has_not_flushed c.args.number c.args.seat.now.view.core c.if-number-ne0.true

pub returns-clause-flushed : goal.returns-clause-flushed
returns-clause-flushed c all =
    let flushed = of_ok _ c.flush.result (sym c.is_ok.ensures.value ∙ all) c.flush.ensures.flushed in
    has_flushed _ c.args.domain.now c.args.number c.args.seat.now c.flush.new.seat
    c.if-number-ne0.false flushed.1
