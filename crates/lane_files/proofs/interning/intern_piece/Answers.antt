use Rattle.weak_intern.specs.Interning.{interned_by}
use Rattle.lane_files.proofs.Interned.{grown_idle, grown_interns, interned_first, interned_ready, why_not_interned}
use Rattle.lane_files.proofs.SeatsKept.{owns_by}
use Rattle.lane_files.proofs.interning.intern_piece.Goals as goal

pub returns-clause-first : goal.returns-clause-first
returns-clause-first g c =
    interned_first c.args.domain.now c.args.piece.now c.args.seat.now c.intern.new.seat
    c.intern.result c.intern.ensures.grows c.intern.ensures.interns

pub returns-clause-why : goal.returns-clause-why
returns-clause-why g c =
    why_not_interned _ c.args.domain.now c.args.piece.now c.args.seat.now c.intern.new.seat
    c.intern.result c.intern.ensures.none c.intern.ensures.adds c.intern.ensures.no_make
    c.intern.ensures.full

pub returns-clause-counts : goal.returns-clause-counts
returns-clause-counts g c =
    grown_idle (interned_by c.intern.result) c.args.seat.now.view.client
    c.intern.new.seat.view.client c.intern.ensures.grows

pub returns-clause-interns : goal.returns-clause-interns
returns-clause-interns g c =
    grown_interns (interned_by c.intern.result) c.args.seat.now.view.client
    c.intern.new.seat.view.client c.intern.ensures.grows

pub returns-clause-owns : goal.returns-clause-owns
returns-clause-owns g c = owns_by c.args.seat.now c.intern.new.seat c.intern.ensures.leaves

pub returns-clause-ready : goal.returns-clause-ready
returns-clause-ready g c =
    interned_ready c.intern.result c.args.seat.now c.intern.new.seat c.intern.ensures.grows
    c.requires.quota c.requires.ready
    (owns_by c.args.seat.now c.intern.new.seat c.intern.ensures.leaves) c.intern.ensures.room
    c.intern.ensures.rest
