use Rattle.std.proofs.Common.{rules}
use Rattle.region_turns.proofs.Visiting.{has_looked_more}
use Rattle.region_turns.proofs.looking.look_all.Goals as goal

pub loop-number-preserved : goal.loop-number-preserved
loop-number-preserved c =
    let seen = c.look_once.ensures.seen c.if-not-look_once.false in
    record {
      rest = c.look_once.ensures.rest;
      inside = c.look_once.ensures.inside;
      looked = has_looked_more c.loop-number.invariant.looked seen (search rules);
    }
