use Rattle.std.proofs.Common.{◌+◌, ◌^◌, ◌<◌, rules}
use Rattle.epoch_domain.proofs.Leavings.{ended_fit, left_fits, lists_fit, may_join, taken_seat, took_over}
use Rattle.epoch_domain.proofs.domain.EpochDomain.leave.Goals as goal

pub absorb-requires : goal.absorb-requires
absorb-requires g c =
    let may = may_join c.args.self.now c.root.inside.seat c.seat.inside.seat _ _ _ _ c.root.view_is
    c.seat.view_is c.root.invariant.seated c.seat.invariant.seated c.requires.seats
    c.requires.root c.requires.may in
    lists_fit c.args.self.now _ _ _ _ _ may c.join.ensures _ _ _ _ _ _ c.root.invariant
    c.seat.invariant

pub absorb-requires-2 : goal.absorb-requires-2
absorb-requires-2 g c =
    let may = may_join c.args.self.now c.root.inside.seat c.seat.inside.seat _ _ _ _ c.root.view_is
    c.seat.view_is c.root.invariant.seated c.seat.invariant.seated c.requires.seats
    c.requires.root c.requires.may in
    ended_fit c.args.self.now _ _ _ _ _ may c.join.ensures _ _ _ _ _ _ c.root.invariant
    c.seat.invariant

pub overflow_add-root : goal.overflow_add-root
overflow_add-root g c =
    let may = may_join c.args.self.now c.root.inside.seat c.seat.inside.seat _ _ _ _ c.root.view_is
    c.seat.view_is c.root.invariant.seated c.seat.invariant.seated c.requires.seats
    c.requires.root c.requires.may in
    let small : c.root.inside.left + 1 < 2 ^ 32 = left_fits c.args.self.now _ _ _ _ _ may
    c.join.ensures _ _ _ _ _ _ c.root.invariant c.seat.invariant in
    search rules

pub invariant_of-root : goal.invariant_of-root
invariant_of-root g c =
    let may = may_join c.args.self.now c.root.inside.seat c.seat.inside.seat _ _ _ _ c.root.view_is
    c.seat.view_is c.root.invariant.seated c.seat.invariant.seated c.requires.seats
    c.requires.root c.requires.may in
    taken_seat c.args.self.now _ _ _ _ _ may c.join.ensures _ _ _ _ _ _ c.root.invariant
    c.seat.invariant _ _ c.absorb.ensures.entries c.absorb.ensures.lists c.absorb.ensures.room
    c.absorb-2.ensures.taken

pub returns : goal.returns
returns g c =
    took_over c.args.self.now g.P.Kind.PayloadKind.fits
    (g.P.Protocol.joined c.args.self.now.protocol) c.root.inside.seat c.seat.inside.seat
    c.join.new.root _ _ _ c.args.root.now c.args.seat c.root.view_is c.seat.view_is c.join.ensures
