use Rattle.std.proofs.Common.{List, ◌++◌, reverse, ap, ◌∙◌}
use Rattle.deleter.specs.plain_state.declared.slot.SlotId.{SlotId}
use Rattle.heap_audit.proofs.Turning.{turns_round}
use Rattle.heap_audit.proofs.trails.turn_round.Goals as goal

pub returns : goal.returns
returns c =
    let high = c.split_at-2.result.1.now in
    let low = c.split_at-2.result.0.now in
    turns_round c.args.rank.now c.args.slots.now c.split_at.result.1.now low high c.reverse.new.self.items c.args.again c.place_of.result c.least_place.result
    c.place_of.ensures.within c.place_of.ensures.found c.split_at.ensures.back c.least_place.ensures.within c.least_place.ensures.least
    c.split_at-2.ensures.front c.split_at-2.ensures.back
    (c.reverse.ensures.items ∙ ap reverse (c.in_ok-extend_from_slice-2.ensures.items
    ∙ ap (λ (ys : List SlotId). ys ++ low) (c.in_ok-extend_from_slice.ensures.items ∙ ap (λ (ys : List SlotId). ys ++ high) c.in_ok-walk.ensures.items)))
