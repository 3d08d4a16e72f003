use Rattle.std.proofs.Common.{refl, sym, subst}
use Rattle.cdrc.specs.plain_state.declared.slot.Kind.TheVariants.{Strong}
use Rattle.cdrc.specs.core_events.Steps.{without_given}
use Rattle.cdrc.specs.atomic_shared.Places.{named}
use Rattle.example_stack.specs.Leaving.{Leaves}
use Rattle.example_stack.proofs.Leavings.{drop_leaves, leaves_same}
use Rattle.example_stack.proofs.seeing.give_up.Goals as goal

pub returns-in-Some-clause-leaves : goal.returns-in-Some-clause-leaves
returns-in-Some-clause-leaves g c =
    subst (λ o. Leaves (without_given Strong (named o) c.args.seat.now.view.core).owned
    c.args.seat.now c.drop_strong.new.seat) (sym c.in-Some.is)
    (drop_leaves c.in-Some.strong.slot c.args.seat.now c.drop_strong.new.seat
    c.drop_strong.ensures.dropped c.drop_strong.ensures.objects)

pub returns-in_default-clause-leaves : goal.returns-in_default-clause-leaves
returns-in_default-clause-leaves g c =
    subst (λ o. Leaves (without_given Strong (named o) c.args.seat.now.view.core).owned
    c.args.seat.now c.args.seat.now) (sym c.in_default.is)
    (leaves_same c.args.seat.now c.args.seat.now refl)
