use Rattle.std.proofs.Common.{ap}
use Rattle.lane_files.proofs.SeatsKept.{uses_none}
use Rattle.lane_files.proofs.Offered.{may_push, offer_ready, offered_ok, offered_owns, refused_idle, refused_owns, texts, push_adds}
use Rattle.lane_files.specs.Whys.{of_queue}
use Rattle.lane_files.proofs.offering.offer.Goals as goal

pub push-requires-clause-may : goal.push-requires-clause-may
push-requires-clause-may g c =
    may_push c.args.handle.slot c.requires.known.0 c.args.seat.now c.requires.known.1

pub returns-clause-counts : goal.returns-clause-counts
returns-clause-counts g c =
    offered_ok c.args.seat.now c.push.new.seat (ap texts c.push.ensures.beside)
    c.args.handle.slot c.push.result c.push.ensures.pushed

pub returns-clause-refused : goal.returns-clause-refused
returns-clause-refused g c =
    refused_idle c.args.seat.now c.push.new.seat (ap texts c.push.ensures.beside) c.push.result c.push.ensures.refused

pub returns-clause-ready : goal.returns-clause-ready
returns-clause-ready g c =
    offer_ready c.args.seat.now c.push.new.seat (ap texts c.push.ensures.beside)
    c.args.handle.slot c.push.result c.push.ensures.pushed c.push.ensures.refused c.requires.ready
    c.push.ensures.room c.push.ensures.rest c.push.ensures.attached

pub returns-clause-interns : goal.returns-clause-interns
returns-clause-interns g c =
    uses_none c.args.seat.now.view.client c.push.new.seat.view.client
    (ap texts c.push.ensures.beside)

pub returns-clause-adds : goal.returns-clause-adds
returns-clause-adds g c =
    push_adds c.args.handle.slot c.push.result (of_queue c.args.seat.now) (of_queue c.push.new.seat)
    c.push.ensures.pushed c.push.ensures.refused

pub returns-clause-owns : goal.returns-clause-owns
returns-clause-owns g c =
    offered_owns c.args.seat.now c.push.new.seat (ap texts c.push.ensures.beside)
    c.args.handle.slot c.push.result c.push.ensures.pushed

pub returns-clause-kept : goal.returns-clause-kept
returns-clause-kept g c =
    refused_owns c.args.seat.now c.push.new.seat (ap texts c.push.ensures.beside) c.push.result
    c.push.ensures.refused
