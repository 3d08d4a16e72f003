use Rattle.map_life.proofs.Tidied.{plays_tidied}
use Rattle.map_life.proofs.tidying.tidy.Goals as goal

pub loop-count-preserved : goal.loop-count-preserved
loop-count-preserved c =
    plays_tidied _ c.args.domain.now _ c.reap.result c.loop-count.seat c.reap.new.seat
    c.loop-count.invariant c.reap.ensures.reaps c.reap.ensures.client c.reap.ensures.room
    c.reap.ensures.rest
