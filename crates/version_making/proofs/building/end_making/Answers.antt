use Rattle.version_making.proofs.Ended.{end_ready, end_solid, end_spells, makes_owned}
use Rattle.version_making.proofs.Reading.{keeps_looked, ready_looked}
use Rattle.version_making.proofs.building.end_making.Goals as goal

pub look-requires-clause-deed : goal.look-requires-clause-deed
look-requires-clause-deed c w =
    end_ready c.args.node c.args.seat.now c.requires.makes c.requires.ready.here c.requires.node

pub returns-clause-spells : goal.returns-clause-spells
returns-clause-spells c =
    end_spells c.args.domain.now c.args.domain.now.protocol.cell c.args.node c.args.seat.now
    c.look.new.seat c.look.result c.look.ensures c.requires.makes

pub returns-clause-solid : goal.returns-clause-solid
returns-clause-solid c =
    end_solid c.args.domain.now c.args.domain.now.protocol.cell c.args.node c.args.seat.now
    c.look.new.seat c.look.result c.look.ensures c.requires.makes c.requires.node

pub returns-clause-keeps : goal.returns-clause-keeps
returns-clause-keeps c =
    keeps_looked c.args.domain.now c.args.domain.now.protocol.cell c.args.node 0 c.args.seat.now
    c.look.new.seat c.look.result c.look.ensures
    (makes_owned c.args.node c.args.seat.now c.requires.makes)

pub returns-clause-ready : goal.returns-clause-ready
returns-clause-ready c =
    ready_looked c.args.domain.now c.args.domain.now.protocol.cell c.args.node 0 c.args.seat.now
    c.look.new.seat c.look.result c.look.ensures
    (makes_owned c.args.node c.args.seat.now c.requires.makes) c.requires.ready
