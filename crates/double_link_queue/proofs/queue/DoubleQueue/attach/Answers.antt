use Rattle.std.proofs.Common.{rules}
use Rattle.std.specs.Prelude.{None}
use Rattle.weak_part_calls.specs.part_calls.Parts.{seen_by}
use Rattle.linked_queue.proofs.Poppings.{leaves_then}
use Rattle.double_link_queue.proofs.queue.DoubleQueue.attach.Goals as goal

pub returns-then-try_attach-clause-leaves : goal.returns-then-try_attach-clause-leaves
returns-then-try_attach-clause-leaves g c =
    leaves_then None (seen_by g.P.Part.seen c.args.seat.now)
    (seen_by g.P.Part.seen c.loop-try.seat) (seen_by g.P.Part.seen c.try_attach.new.seat)
    c.loop-try.invariant.3 c.try_attach.ensures.leaves

pub loop-try-preserved : goal.loop-try-preserved
loop-try-preserved g c = (
  search rules,
  search rules,
  search rules,
  leaves_then None (seen_by g.P.Part.seen c.args.seat.now)
      (seen_by g.P.Part.seen c.loop-try.seat) (seen_by g.P.Part.seen c.try_attach.new.seat)
      c.loop-try.invariant.3 c.try_attach.ensures.leaves,
  search rules,
  search rules,
)
