use Rattle.std.proofs.Common.{◌+◌, ◌^◌, ◌<◌, rules}
use Rattle.acquire_retire.proofs.Leavings.{dying_fit, entries_fit, left_fits, may_join, ripe_fit, taken_seat, took_over}
use Rattle.acquire_retire.proofs.domain.Domain.leave.Goals as goal

pub absorb-requires : goal.absorb-requires
absorb-requires g c =
    let may = may_join c.args.self.now c.root.inside.seat c.seat.inside.seat _ _ c.root.view_is
    c.seat.view_is c.root.invariant.seated c.seat.invariant.seated c.requires.seats
    c.requires.root c.requires.may in
    entries_fit c.args.self.now _ _ _ _ _ may c.join.ensures _ _ _ _ _
    c.root.invariant.stores c.seat.invariant.stores c.root.invariant.rooms

pub overflow_add-root : goal.overflow_add-root
overflow_add-root g c =
    let may = may_join c.args.self.now c.root.inside.seat c.seat.inside.seat _ _ c.root.view_is
    c.seat.view_is c.root.invariant.seated c.seat.invariant.seated c.requires.seats
    c.requires.root c.requires.may in
    let small : c.root.inside.left + 1 < 2 ^ 32 = left_fits c.args.self.now _ _ _ _ _ may
    c.join.ensures _ _ _ _ _ c.root.invariant.stores c.seat.invariant.stores
    c.root.invariant.rooms in
    search rules

pub absorb-requires-2-clause-waiting : goal.absorb-requires-2-clause-waiting
absorb-requires-2-clause-waiting g c =
    let may = may_join c.args.self.now c.root.inside.seat c.seat.inside.seat _ _ c.root.view_is
    c.seat.view_is c.root.invariant.seated c.seat.invariant.seated c.requires.seats
    c.requires.root c.requires.may in
    dying_fit c.args.self.now _ _ _ _ _ may c.join.ensures _ _ _ _ _ c.root.invariant.stores
    c.seat.invariant.stores c.root.invariant.rooms

pub absorb-requires-2-clause-ripe : goal.absorb-requires-2-clause-ripe
absorb-requires-2-clause-ripe g c =
    let may = may_join c.args.self.now c.root.inside.seat c.seat.inside.seat _ _ c.root.view_is
    c.seat.view_is c.root.invariant.seated c.seat.invariant.seated c.requires.seats
    c.requires.root c.requires.may in
    ripe_fit c.args.self.now _ _ _ _ _ may c.join.ensures _ _ _ _ _ c.root.invariant.stores
    c.seat.invariant.stores c.root.invariant.rooms

pub invariant_of-root : goal.invariant_of-root
invariant_of-root g c =
    let may = may_join c.args.self.now c.root.inside.seat c.seat.inside.seat _ _ c.root.view_is
    c.seat.view_is c.root.invariant.seated c.seat.invariant.seated c.requires.seats
    c.requires.root c.requires.may in
    taken_seat c.args.self.now _ _ _ _ _ may c.join.ensures _ _ _ _ _ c.root.invariant.stores
    c.seat.invariant.stores c.root.invariant.rooms _ _ c.absorb.ensures.taken
    c.absorb-2.ensures.taken

pub returns : goal.returns
returns g c =
    took_over c.args.self.now g.P.Kind.PayloadKind.fits
    (g.P.Protocol.joined c.args.self.now.protocol) c.root.inside.seat c.seat.inside.seat
    c.join.new.root c.args.root.now c.args.seat c.root.view_is c.seat.view_is c.join.ensures
