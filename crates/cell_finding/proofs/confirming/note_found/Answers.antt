use Rattle.std.proofs.Common.{arith}
use Rattle.cell_finding.proofs.Along.{holds_first}
use Rattle.cell_finding.proofs.Noted.{find_ready, found_looks, is_found, is_own}
use Rattle.cell_finding.proofs.confirming.note_found.Goals as goal

pub e_look-requires-clause-place : goal.e_look-requires-clause-place
e_look-requires-clause-place c =
    let whole = c.requires.whole.1 in (
      omega arith,
      holds_first c.args.head whole.last c.args.seat.now whole.along,
    )

pub e_look-requires-clause-deed : goal.e_look-requires-clause-deed
e_look-requires-clause-deed c w =
    find_ready c.requires.whole.0 c.args.head c.args.seat.now c.requires.whole.1 c.requires.whole.2

pub returns-clause-found : goal.returns-clause-found
returns-clause-found c text whole = (
  is_found _ c.args.domain.now c.args.head c.e_look.result c.args.seat.now c.e_look.new.seat
      c.e_look.ensures.looked text whole,
  is_own _ c.args.domain.now c.args.head c.e_look.result c.args.seat.now c.e_look.new.seat
      c.e_look.ensures.looked text whole,
)

pub returns-clause-looks : goal.returns-clause-looks
returns-clause-looks c =
    found_looks _ c.args.domain.now c.args.head c.e_look.result c.args.seat.now c.e_look.new.seat
    c.e_look.ensures.looked
