use Rattle.std.proofs.Common.{sym, ◌∙◌}
use Rattle.epoch_refs.proofs.Dating.{dates}
use Rattle.epoch_refs.proofs.exchanges.date_taken.Goals as goal

pub returns-then-is_some-clause-dates : goal.returns-then-is_some-clause-dates
returns-then-is_some-clause-dates g c =
    dates _ c.args.domain.now c.args.took c.args.seat.now c.date.new.seat _ c.date.ensures
    (sym c.is_some.ensures ∙ c.if-is_some.true)
