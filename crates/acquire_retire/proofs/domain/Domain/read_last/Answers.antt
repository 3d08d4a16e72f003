use Rattle.std.proofs.Common.{rules, refl, ap, ◌∙◌}
use Rattle.core_promises.specs.core_events.declared.act.Act.TheVariants as act
use Rattle.core_promises.specs.core_events.Steps.{is_last}
use Rattle.acquire_retire.specs.Seats.{SeatState}
use Rattle.acquire_retire.proofs.Calls.{call_tells, can_still}
use Rattle.acquire_retire.proofs.Dying.{room_for_ripe}
use Rattle.acquire_retire.proofs.Scans.{ripe_after, room_to_read, scan_ends, split_answers}
use Rattle.acquire_retire.proofs.domain.Domain.read_last.Goals as goal

pub load_as-found-requires-clause-can : goal.load_as-found-requires-clause-can
load_as-found-requires-clause-can g c = can_still c.args.self.now _ act.Scan
    c.seat.inside.seat c.args.seat.now c.seat.view_is c.seat.invariant.seated c.requires.seat tt tt
    c.requires.may

pub note-requires : goal.note-requires
note-requires g c =
    let room = room_to_read c.seat.inside.seat.me.0.core _ _ _ _ c.seat.invariant.seated.law
    c.seat.invariant.stores c.seat.invariant.rooms in
    search rules

pub invariant_of-seat : goal.invariant_of-seat
invariant_of-seat g c =
    let can = can_still c.args.self.now g.P.Kind.PayloadKind.fits act.Scan c.seat.inside.seat
    c.args.seat.now c.seat.view_is c.seat.invariant.seated c.requires.seat tt tt
    c.requires.may in
    let last = ap (λ (s : SeatState _). is_last c.args.self.now.shape s.view.core) c.seat.view_is
    ∙ c.requires.last in
    rw (
      c.split-stay.ensures.batch,
      c.ripen.ensures,
      c.clear.ensures,
      c.note.ensures,
    )
    (scan_ends c.args.self.now _ _ c.seat.inside.seat c.load_as-found.new.seat c.load_as-found.result
    c.load_as-found.ensures _ _ _ _ c.seat.invariant can.shape last)

pub ripen-requires : goal.ripen-requires
ripen-requires g c =
    let can = can_still c.args.self.now g.P.Kind.PayloadKind.fits act.Scan c.seat.inside.seat
    c.args.seat.now c.seat.view_is c.seat.invariant.seated c.requires.seat tt tt
    c.requires.may in
    let last = ap (λ (s : SeatState _). is_last c.args.self.now.shape s.view.core) c.seat.view_is
    ∙ c.requires.last in
    rw c.note.ensures
    (room_for_ripe c.args.self.now _ c.self.view_is _ c.self.invariant _ _ act.Scan
    c.seat.inside.seat c.load_as-found.new.seat _ c.load_as-found.ensures tt can.shape _ _ _ _
    c.seat.invariant _
    (ripe_after c.args.self.now _ _ c.seat.inside.seat c.load_as-found.new.seat
    c.load_as-found.result c.load_as-found.ensures _ _ _ _ c.seat.invariant can.shape last))

pub returns : goal.returns
returns g c =
    let can = can_still c.args.self.now g.P.Kind.PayloadKind.fits act.Scan c.seat.inside.seat
    c.args.seat.now c.seat.view_is c.seat.invariant.seated c.requires.seat tt tt
    c.requires.may in
    let last = ap (λ (s : SeatState _). is_last c.args.self.now.shape s.view.core) c.seat.view_is
    ∙ c.requires.last in
    let e = c.split-stay.ensures in
    call_tells c.args.self.now _ _ act.Scan c.seat.inside.seat c.load_as-found.new.seat
    c.load_as-found.result c.load_as-found.ensures c.args.seat.now c.seat.view_is _
    (split_answers c.args.self.now _ _ c.seat.inside.seat c.load_as-found.new.seat
    c.load_as-found.result c.load_as-found.ensures _ _ _ _ c.seat.invariant can.shape last _ _
    (e.stay ∙ rw (e.batch, c.note.ensures) refl) (e.go ∙ rw (e.batch, c.note.ensures) refl))
