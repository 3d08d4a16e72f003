use Rattle.std.proofs.Common.{rules, ap, ◌∙◌}
use Rattle.core_promises.specs.core_events.declared.act.Act.TheVariants as act
use Rattle.core_promises.specs.core_events.Steps.{is_last}
use Rattle.acquire_retire.specs.Seats.{SeatState}
use Rattle.acquire_retire.proofs.Calls.{call_tells, can_still}
use Rattle.acquire_retire.proofs.Scans.{reads_word, room_to_read}
use Rattle.acquire_retire.proofs.domain.Domain.read_next.Goals as goal

pub load_as-found-requires-clause-can : goal.load_as-found-requires-clause-can
load_as-found-requires-clause-can g c = can_still c.args.self.now _ act.Scan
    c.seat.inside.seat c.args.seat.now c.seat.view_is c.seat.invariant.seated c.requires.seat tt tt
    c.requires.may

pub note-requires : goal.note-requires
note-requires g c =
    let room = room_to_read c.seat.inside.seat.me.0.core _ _ _ _ c.seat.invariant.seated.law
    c.seat.invariant.stores c.seat.invariant.rooms in
    search rules

pub returns : goal.returns
returns g c =
    let on = ap (λ (s : SeatState _). is_last c.args.self.now.shape s.view.core) c.seat.view_is
    ∙ c.requires.more in
    call_tells c.args.self.now _ _ act.Scan c.seat.inside.seat c.load_as-found.new.seat
    c.load_as-found.result c.load_as-found.ensures c.args.seat.now c.seat.view_is _
    (reads_word c.args.self.now.shape c.seat.inside.seat.me.0.core c.load_as-found.result on)
