use Rattle.cell_reports.proofs.Heads.{learns_heads, ready_still}
use Rattle.cell_reports.proofs.learning.learn_heads.Goals as goal

pub returns-clause-learns : goal.returns-clause-learns
returns-clause-learns c =
    learns_heads c.args.domain.now _ c.args.seat.now c.enter.new.seat c.e_look-found.new.seat
    c.exit.new.seat _ c.enter.ensures.entered c.e_look-found.ensures.looked c.exit.ensures.exited
    c.requires.ready.free

pub returns-clause-ready : goal.returns-clause-ready
returns-clause-ready c =
    ready_still c.args.domain.now _ c.args.seat.now c.enter.new.seat c.e_look-found.new.seat
    c.exit.new.seat _ c.enter.ensures.entered c.e_look-found.ensures.looked c.exit.ensures.exited
    c.requires.ready.free c.requires.ready c.exit.ensures.rest
