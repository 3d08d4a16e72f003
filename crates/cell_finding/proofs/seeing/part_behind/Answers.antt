use Rattle.std.proofs.Common.{arith}
use Rattle.cell_finding.proofs.Along.{holds_last}
use Rattle.cell_finding.proofs.Behind.{goes_on_to, read_ready, whole_then}
use Rattle.cell_finding.proofs.seeing.part_behind.Goals as goal

pub e_look-requires-clause-place : goal.e_look-requires-clause-place
e_look-requires-clause-place c = (
  omega arith,
  holds_last c.args.head c.args.last c.args.seat.now c.requires.along,
)

pub e_look-requires-clause-deed : goal.e_look-requires-clause-deed
e_look-requires-clause-deed c w =
    read_ready c.args.head c.args.last c.args.seat.now c.requires.along

pub unreachable-requires : goal.unreachable-requires
unreachable-requires c =
    c.requires.more (whole_then _ c.args.domain.now c.args.head c.args.last c.e_look.result
    c.args.seat.now c.e_look.new.seat c.requires.along c.e_look.ensures.looked c.in_default.is)

pub returns-clause-goes : goal.returns-clause-goes
returns-clause-goes c =
    goes_on_to _ c.args.domain.now c.args.head c.args.last c.e_look.result c.args.seat.now
    c.e_look.new.seat c.requires.along c.e_look.ensures.looked c.in-Some.part c.in-Some.is
