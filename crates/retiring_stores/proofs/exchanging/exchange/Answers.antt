use Rattle.control_word.specs.core_events.ShownSteps.{is_ripe_field}
use Rattle.retiring_stores.proofs.Afterwards.{can_give, either_keeps, exchanges, has_room, knows, rests_mid}
use Rattle.retiring_stores.proofs.Putting.{swap_puts}
use Rattle.retiring_stores.proofs.exchanging.exchange.Goals as goal

pub scan_where_due-requires : goal.scan_where_due-requires
scan_where_due-requires g c = record {
  rest =
      rests_mid c.args.domain.now c.args.place _ c.args.new c.held_before-held.result
      c.args.seat.now c.swap.new.seat c.requires.rest
      (swap_puts c.args.domain.now c.args.place c.args.seat.now c.swap.new.seat c.swap.result
      c.args.new c.held_before-held.result c.swap.ensures c.held_before-held.ensures);
}

pub returns-clause-exchanged : goal.returns-clause-exchanged
returns-clause-exchanged g c =
    exchanges c.args.domain.now c.args.place _ c.args.new c.held_before-held.result
    c.args.seat.now c.swap.new.seat c.requires.rest
    (swap_puts c.args.domain.now c.args.place c.args.seat.now c.swap.new.seat c.swap.result
    c.args.new c.held_before-held.result c.swap.ensures c.held_before-held.ensures)
    c.scan_where_due.new.seat c.scan_where_due.ensures.scans

pub returns-clause-room : goal.returns-clause-room
returns-clause-room g c =
    has_room c.args.domain.now c.args.place _ c.args.new c.held_before-held.result
    c.args.seat.now c.swap.new.seat c.requires.rest
    (swap_puts c.args.domain.now c.args.place c.args.seat.now c.swap.new.seat c.swap.result
    c.args.new c.held_before-held.result c.swap.ensures c.held_before-held.ensures)
    c.scan_where_due.new.seat c.scan_where_due.ensures.scans c.scan_where_due.ensures.below
    c.scan_where_due.ensures.rest

pub returns-clause-objects : goal.returns-clause-objects
returns-clause-objects g c =
    knows c.args.domain.now c.args.place _ c.args.new c.held_before-held.result
    c.args.seat.now c.swap.new.seat c.requires.rest
    (swap_puts c.args.domain.now c.args.place c.args.seat.now c.swap.new.seat c.swap.result
    c.args.new c.held_before-held.result c.swap.ensures c.held_before-held.ensures)
    c.scan_where_due.new.seat c.scan_where_due.ensures.scans
    (can_give c.args.domain.now.shape c.args.place c.args.new c.args.seat.now.view.core
    c.requires.may)
    (λ w s x. either_keeps (is_ripe_field c.args.seat.now.view.core c.args.place) c.args.place
    c.args.new s x)
