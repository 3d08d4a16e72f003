use Rattle.std.proofs.Common.{refl, inl}
use Rattle.linked_queue.specs.queue_law.Opening.{lay_head_next}
use Rattle.linked_queue.proofs.Accepting.{kept_all}
use Rattle.weak_part_calls.specs.part_calls.Parts.{seen_by}
use Rattle.std.specs.Prelude.{Some}
use Rattle.weak_part_calls.specs.plain_state.declared.act.EventPlace.TheVariants.{Cell}
use Rattle.linked_queue.proofs.Leavings.{exchange_leaves}
use Rattle.double_link_queue.proofs.laying.lay_head.Goals as goal

pub store-requires-clause-accepted : goal.store-requires-clause-accepted
store-requires-clause-accepted g c =
    kept_all g.P.Part.seen g.P.Part.suits g.met.P.HasQueue.accepts
    c.args.domain.now.protocol c.args.seat.now.view.client lay_head_next
    (λ own after v a w. refl)

pub store-requires-clause-within : goal.store-requires-clause-within
store-requires-clause-within g c =
    inl c.requires.head

pub returns-clause-leaves : goal.returns-clause-leaves
returns-clause-leaves g c =
    exchange_leaves (Cell c.args.head) _ (Some c.args.dummy.slot) _ (seen_by g.P.Part.seen c.args.seat.now)
    (seen_by g.P.Part.seen c.store.new.seat) refl c.store.ensures.stored.swaps
    c.store.ensures.objects
