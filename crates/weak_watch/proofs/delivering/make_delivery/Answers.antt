use Rattle.std.proofs.Common.{ap, subst}
use Rattle.std.specs.Prelude.{IfOk, slice_index}
use Rattle.part_calls.specs.slot_store.Calls.{Makes}
use Rattle.watch_protocol.specs.watch_law.Making.{DeliveryTells, delivery_next}
use Rattle.weak_watch.specs.Subjects.{news_fits, seen, watch_in}
use Rattle.watch_protocol.specs.watch_law.News.{NewsView}
use Rattle.weak_watch.proofs.Made.{delivery_ready}
use Rattle.weak_watch.proofs.Delivered.{delivered_has, delivered_noted}
use Rattle.weak_watch.proofs.delivering.make_delivery.Goals as goal

pub make-requires-clause-deed : goal.make-requires-clause-deed
make-requires-clause-deed c s mid begins w =
    delivery_ready _ _ c.payload_with-payload.result s _ mid begins mid.view.client
    (ap (λ ws. slice_index ws 0) c.payload_with-payload.ensures)

pub returns-clause-noted : goal.returns-clause-noted
returns-clause-noted c =
    delivered_noted news_fits (watch_in c.args.domain.now) c.args.event c.args.seat.now
    c.make.new.seat c.make.result
    (subst (λ ws. IfOk c.make.result (λ h. Makes news_fits
    (watch_in c.args.domain.now) delivery_next DeliveryTells ws h.slot (seen c.args.seat.now)
    (seen c.make.new.seat))) c.payload_with-payload.ensures c.make.ensures.made)
    (ap (λ (v : NewsView). v.0) c.make.ensures.beside)

pub returns-clause-has : goal.returns-clause-has
returns-clause-has c =
    delivered_has news_fits (watch_in c.args.domain.now) c.args.event c.args.seat.now
    c.make.new.seat c.make.result
    (subst (λ ws. IfOk c.make.result (λ h. Makes news_fits
    (watch_in c.args.domain.now) delivery_next DeliveryTells ws h.slot (seen c.args.seat.now)
    (seen c.make.new.seat))) c.payload_with-payload.ensures c.make.ensures.made) c.make.ensures.owned
