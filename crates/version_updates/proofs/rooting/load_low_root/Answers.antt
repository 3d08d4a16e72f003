use Rattle.std.proofs.Common.{◌∙◌}
use Rattle.version_updates.proofs.Loading.{keeps_loaded, low_roots}
use Rattle.version_updates.proofs.rooting.load_low_root.Goals as goal

pub returns-clause-low : goal.returns-clause-low
returns-clause-low c =
    low_roots c.args.domain.now c.args.cell c.args.domain.now.protocol.cell c.args.seat.now
    c.try_load.new.seat c.requires.ready.rest c.try_load.ensures.objects c.requires.cell.0
    c.try_load.result c.try_load.ensures.loaded

pub returns-clause-keeps : goal.returns-clause-keeps
returns-clause-keeps c =
    keeps_loaded c.args.domain.now c.args.cell c.args.domain.now.protocol.cell c.args.seat.now
    c.try_load.new.seat c.requires.ready.rest c.try_load.ensures.objects
    c.try_load.result c.try_load.ensures.loaded c.try_load.ensures.refused
    c.try_load.ensures.moved

pub returns-clause-ready : goal.returns-clause-ready
returns-clause-ready c = record {
  rest = c.try_load.ensures.rest;
  room = c.try_load.ensures.room c.requires.ready.room;
  here = (returns-clause-keeps c).grows.here ∙ c.requires.ready.here;
}
