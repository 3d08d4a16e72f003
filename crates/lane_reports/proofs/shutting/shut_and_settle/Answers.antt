use Rattle.lane_reports.proofs.Shut.{alone_shut, none_settled, settle_scans, shuts}
use Rattle.lane_reports.proofs.shutting.shut_and_settle.Goals as goal

pub settle-weights-requires-clause-alone : goal.settle-weights-requires-clause-alone
settle-weights-requires-clause-alone g c =
    alone_shut c.args.root.now.view.core.owned c.args.root.now c.shut.new.root
    c.shut.ensures.leaves c.requires.alone

pub returns-clause-shuts : goal.returns-clause-shuts
returns-clause-shuts g c =
    shuts c.args.domain.now c.args.root.now c.shut.new.root c.settle-weights.new.seat
    c.shut.ensures.leaves c.settle-weights.ensures.same c.requires.none c.shut.ensures.left
    c.shut.ensures.beside c.settle-weights.ensures.client c.settle-weights.ensures.quiet c.settle-weights.ensures.cycles
    c.settle-weights.ensures.objects
    (settle_scans _ c.args.domain.now _ c.settle-weights.result c.shut.new.root
    c.settle-weights.new.seat c.settle-weights.ensures.settles)

pub returns-clause-none : goal.returns-clause-none
returns-clause-none g c =
    none_settled c.args.domain.now c.args.root.now c.shut.new.root c.settle-weights.new.seat
    c.shut.ensures.leaves c.settle-weights.ensures.same c.requires.none
