use Rattle.version_making.proofs.Made.{apart_ok, keeps_ok, making_ok, new_ready}
use Rattle.version_making.proofs.building.make_node.Goals as goal

pub make-requires-clause-deed : goal.make-requires-clause-deed
make-requires-clause-deed c s mid begins w =
    new_ready c.args.domain.now c.args.payload.now s c.args.seat.now mid begins
    c.requires.ready.here c.requires.node

pub returns-clause-making : goal.returns-clause-making
returns-clause-making c =
    making_ok c.args.domain.now c.args.domain.now.protocol.cell c.args.payload.now c.args.seat.now
    c.make.new.seat c.make.result c.make.ensures.made c.make.ensures.no_make c.make.ensures.no_add
    c.make.ensures.full c.make.ensures.objects c.make.ensures.owned

pub returns-clause-apart : goal.returns-clause-apart
returns-clause-apart c =
    apart_ok c.args.domain.now c.args.domain.now.protocol.cell c.args.payload.now c.args.seat.now
    c.make.new.seat c.make.result c.make.ensures.made c.make.ensures.no_make c.make.ensures.no_add
    c.make.ensures.full c.make.ensures.objects

pub returns-clause-keeps : goal.returns-clause-keeps
returns-clause-keeps c =
    keeps_ok c.args.domain.now c.args.domain.now.protocol.cell c.args.payload.now c.args.seat.now
    c.make.new.seat c.make.result c.make.ensures.made c.make.ensures.no_make c.make.ensures.no_add
    c.make.ensures.full c.make.ensures.objects c.make.ensures.client
