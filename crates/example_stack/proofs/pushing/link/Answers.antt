use Rattle.std.proofs.Common.{refl}
use Rattle.cdrc.specs.plain_state.declared.act.EventPlace.TheVariants.{Field}
use Rattle.cdrc.specs.atomic_shared.Places.{named}
use Rattle.example_stack.proofs.Leavings.{exchange_leaves}
use Rattle.example_stack.proofs.pushing.link.Goals as goal

pub returns-clause-leaves : goal.returns-clause-leaves
returns-clause-leaves g c =
    exchange_leaves (Field c.args.node 0) _ (named c.args.below) c.store.ensures.stored.held
    c.args.seat.now c.store.new.seat refl c.store.ensures.stored.swaps c.store.ensures.objects
