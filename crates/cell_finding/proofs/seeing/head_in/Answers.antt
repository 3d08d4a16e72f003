use Rattle.std.proofs.Common.{arith}
use Rattle.cell_finding.proofs.Sighted.{around, head_seen, look_ready, none_is, null_tells, seen_looks}
use Rattle.cell_finding.proofs.seeing.head_in.Goals as goal

pub e_look-requires-clause-deed : goal.e_look-requires-clause-deed
e_look-requires-clause-deed c w =
    let cells = c.requires.over.cells in
    let low = c.requires.cell in
    look_ready c.args.domain.now.protocol _ _ c.args.cell c.requires.over.first
    (omega (arith, cells, low))

pub returns-clause-seen : goal.returns-clause-seen
returns-clause-seen c =
    head_seen _ c.args.domain.now c.args.cell c.e_look.result c.args.seat.now c.e_look.new.seat
    c.requires.over c.e_look.ensures.looked c.requires.open

pub returns-clause-null : goal.returns-clause-null
returns-clause-null c none text passed at walk =
    null_tells _ c.args.domain.now c.args.cell c.e_look.result c.args.seat.now c.e_look.new.seat
    c.requires.over c.e_look.ensures.looked (none_is c.e_look.result none) c.requires.cell text
    passed at walk

pub returns-clause-around : goal.returns-clause-around
returns-clause-around c text walk =
    around _ c.args.domain.now c.args.cell c.e_look.result c.args.seat.now c.e_look.new.seat
    c.requires.over c.e_look.ensures.looked text walk

pub returns-clause-looks : goal.returns-clause-looks
returns-clause-looks c =
    seen_looks _ c.args.domain.now c.args.cell c.e_look.result c.args.seat.now c.e_look.new.seat
    c.requires.over c.e_look.ensures.looked
