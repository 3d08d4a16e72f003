use Rattle.std.proofs.Common.{refl}
use Rattle.retiring_stores.proofs.Afterwards.{exchanges, has_room, knows, rests_mid}
use Rattle.retiring_stores.proofs.Losing.{cas_loses, knows_lost, rests_lost, room_lost}
use Rattle.retiring_stores.proofs.Putting.{cas_puts}
use Rattle.retiring_stores.proofs.exchanging.compare_exchange.Goals as goal

pub returns-in-LostTo-clause-lost : goal.returns-in-LostTo-clause-lost
returns-in-LostTo-clause-lost g c =
    cas_loses c.args.domain.now c.args.place c.args.expected c.args.new c.in-LostTo.found
    c.args.seat.now c.cas.new.seat c.cas.result c.cas.ensures c.in-LostTo.is

pub returns-in-LostTo-clause-room : goal.returns-in-LostTo-clause-room
returns-in-LostTo-clause-room g c =
    room_lost c.args.domain.now c.args.place c.args.expected c.args.new c.in-LostTo.found
    c.args.seat.now c.cas.new.seat c.cas.result c.cas.ensures c.in-LostTo.is c.requires.may.1

pub returns-in-LostTo-clause-objects : goal.returns-in-LostTo-clause-objects
returns-in-LostTo-clause-objects g c =
    knows_lost c.args.domain.now c.args.place c.args.expected c.args.new c.in-LostTo.found
    c.args.seat.now c.cas.new.seat c.cas.result c.cas.ensures c.in-LostTo.is c.requires.may.3

pub returns-in-LostTo-clause-rest : goal.returns-in-LostTo-clause-rest
returns-in-LostTo-clause-rest g c =
    rests_lost c.args.domain.now c.args.place c.args.expected c.args.new c.in-LostTo.found
    c.args.seat.now c.cas.new.seat c.cas.result c.cas.ensures c.in-LostTo.is c.requires.rest

pub scan_where_due-requires : goal.scan_where_due-requires
scan_where_due-requires g c = record {
  rest =
      rests_mid c.args.domain.now c.args.place _ c.args.new c.args.expected c.args.seat.now
      c.cas.new.seat c.requires.rest
      (cas_puts c.args.domain.now c.args.place c.args.seat.now c.cas.new.seat c.cas.result
      c.args.expected c.args.new c.cas.ensures c.in_default.not-LostTo);
}

pub returns-clause-replaced : goal.returns-clause-replaced
returns-clause-replaced g c = (
  exchanges c.args.domain.now c.args.place _ c.args.new c.args.expected c.args.seat.now
      c.cas.new.seat c.requires.rest
      (cas_puts c.args.domain.now c.args.place c.args.seat.now c.cas.new.seat c.cas.result
      c.args.expected c.args.new c.cas.ensures c.in_default.not-LostTo)
      c.scan_where_due.new.seat c.scan_where_due.ensures.scans,
  c.scan_where_due.ensures.below,
)

pub returns-clause-room : goal.returns-clause-room
returns-clause-room g c =
    has_room c.args.domain.now c.args.place _ c.args.new c.args.expected c.args.seat.now
    c.cas.new.seat c.requires.rest
    (cas_puts c.args.domain.now c.args.place c.args.seat.now c.cas.new.seat c.cas.result
    c.args.expected c.args.new c.cas.ensures c.in_default.not-LostTo)
    c.scan_where_due.new.seat c.scan_where_due.ensures.scans c.scan_where_due.ensures.below
    c.scan_where_due.ensures.rest

pub returns-clause-objects : goal.returns-clause-objects
returns-clause-objects g c =
    knows c.args.domain.now c.args.place _ c.args.new c.args.expected c.args.seat.now
    c.cas.new.seat c.requires.rest
    (cas_puts c.args.domain.now c.args.place c.args.seat.now c.cas.new.seat c.cas.result
    c.args.expected c.args.new c.cas.ensures c.in_default.not-LostTo)
    c.scan_where_due.new.seat c.scan_where_due.ensures.scans c.requires.may.3 (λ w s x. refl)
