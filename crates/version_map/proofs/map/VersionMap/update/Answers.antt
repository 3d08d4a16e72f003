use Rattle.std.proofs.Common.{subst}
use Rattle.version_map.specs.Updating.{IsUndone}
use Rattle.version_map.proofs.Playing.{plays_after_tries}
use Rattle.version_map.proofs.Retries.{tried_more}
use Rattle.version_map.proofs.map.VersionMap.update.Goals as goal

pub loop-try-preserved : goal.loop-try-preserved
loop-try-preserved g c =
    tried_more c.args.domain.now c.args.self.now.cell c.args.seat.now c.loop-try.seat
    c.loop-try.invariant c.try_update.new.seat
    (record {
      seen = c.in-Err-Again.field-0-0;
      now = c.in-Err-Again.field-0-1;
      again = subst (λ e. IsUndone c.args.domain.now c.args.self.now.cell e c.loop-try.seat
          c.try_update.new.seat) c.in-Err-Again.field-0-is c.in-Err-Again.ensures.undone;
      leaves = c.try_update.ensures.leaves;
    })
    c.try_update.ensures.«open» c.try_update.ensures.ready

pub returns-in-Ok-clause-plays : goal.returns-in-Ok-clause-plays
returns-in-Ok-clause-plays g c plays = c.try_update.ensures.plays
    (plays_after_tries c.args.domain.now c.args.self.now.cell c.args.seat.now c.loop-try.seat
    c.loop-try.invariant plays)

pub returns-in-Err-Refused-clause-plays : goal.returns-in-Err-Refused-clause-plays
returns-in-Err-Refused-clause-plays g c plays = c.try_update.ensures.plays
    (plays_after_tries c.args.domain.now c.args.self.now.cell c.args.seat.now c.loop-try.seat
    c.loop-try.invariant plays)
