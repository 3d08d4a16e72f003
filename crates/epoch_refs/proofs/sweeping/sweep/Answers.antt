use Rattle.epoch_refs.proofs.Swept.{swept_on, swept_still}
use Rattle.epoch_refs.proofs.sweeping.sweep.Goals as goal

pub is_idle-requires : goal.is_idle-requires
is_idle-requires g c = c.scan_all.ensures.seat

pub advance-requires-clause-seat : goal.advance-requires-clause-seat
advance-requires-clause-seat g c = c.scan_all.ensures.seat

pub returns-then-not-is_idle-clause-swept : goal.returns-then-not-is_idle-clause-swept
returns-then-not-is_idle-clause-swept g c =
    let s = c.scan_all.ensures.scanned in
    swept_on _ c.args.domain.now c.args.seat.now c.begin_flush.new.seat c.scan_all.new.seat _
    c.begin_flush.ensures c.requires.rest.1 s.0 s.1 s.2 s.3 s.4
    (λ idle. absurd (cc (c.is_idle.ensures.1 idle, c.if-not-is_idle.true)))
    c.advance.new.seat _ c.advance.ensures

pub returns-else-not-is_idle-clause-swept : goal.returns-else-not-is_idle-clause-swept
returns-else-not-is_idle-clause-swept g c =
    let s = c.scan_all.ensures.scanned in
    swept_still _ c.args.domain.now c.args.seat.now c.begin_flush.new.seat c.scan_all.new.seat _
    c.begin_flush.ensures c.requires.rest.1 s.0 s.1 s.2 s.3 s.4
    (c.is_idle.ensures.0 c.if-not-is_idle.false)
