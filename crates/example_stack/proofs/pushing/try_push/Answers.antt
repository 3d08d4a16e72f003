use Rattle.std.proofs.Common.{◌≡◌, ◌<◌, [], ◌∷◌, ◌++◌, refl, sym, ap, subst, ◌∙◌}
use Rattle.cdrc.specs.plain_state.Lists.{times}
use Rattle.cdrc.specs.plain_protocol.Owns.{Object}
use Rattle.cdrc.proofs.Below.acquire_retire_Wholes.{then_ok}
use Rattle.cdrc.specs.atomic_shared.Places.{named}
use Rattle.cdrc.specs.domain_rule.Views.{object_in}
use Rattle.example_stack.specs.Views.{View}
use Rattle.cdrc.specs.control_word.Resting.{IsSpent}
use Rattle.cdrc.specs.plain_state.declared.act.EventPlace.TheVariants.{Cell}
use Rattle.cdrc.specs.core_events.Views.{without}
use Rattle.example_stack.specs.Calls.{IsWhy, IsWhyLost, pushed_too}
use Rattle.example_stack.specs.Leaving.{Leaves}
use Rattle.example_stack.proofs.Framing.{push_gives, push_leaves, there_and_back}
use Rattle.example_stack.proofs.Leavings.{on_err}
use Rattle.example_stack.proofs.Takes.{can_give, has_still, known_always, node_again, pushes, then_err, why_after}
use Rattle.example_stack.proofs.pushing.try_push.Goals as goal

pub link-requires-clause-node : goal.link-requires-clause-node
link-requires-clause-node g c =
    let node = has_still c.args.node.slot (named c.in-Ok.top) c.args.seat.now c.see.new.seat
    c.requires.node c.in-Ok.ensures.saw c.see.ensures.objects in
    subst (λ s. 0 < times s c.see.new.seat.view.core.owned) (sym c.slot.ensures) node.0

pub link-requires-clause-owned : goal.link-requires-clause-owned
link-requires-clause-owned g c =
    can_give c.args.node.slot (named c.in-Ok.top) c.args.seat.now c.see.new.seat c.requires.node
    c.in-Ok.ensures.saw c.see.ensures.objects c.see.new.seat refl

pub put_on-requires-clause-node : goal.put_on-requires-clause-node
put_on-requires-clause-node g c =
    node_again c.args.node.slot (named c.in-Ok.top) c.args.seat.now c.see.new.seat c.requires.node
    c.in-Ok.ensures.saw c.see.ensures.objects c.link.new.seat c.link.ensures.owned
    c.link.ensures.objects

pub returns-clause-pushed : goal.returns-clause-pushed
returns-clause-pushed g c =
    let known = known_always c.args.node.slot (named c.in-Ok.top) c.args.seat.now c.see.new.seat
    c.requires.node c.in-Ok.ensures.saw c.see.ensures.objects c.link.new.seat c.link.ensures.owned
    c.link.ensures.objects in
    then_ok
    (λ done. c.put_on.new.seat.view.client
    ≡ pushed_too (object_in c.link.new.seat.view c.args.node.slot).payload
    c.link.new.seat.view.client)
    (λ done. c.put_on.new.seat.view.client.pushed
    ≡ c.args.seat.now.view.client.pushed
    ++ (object_in c.args.seat.now.view c.args.node.slot).payload ∷ [])
    c.put_on.result
    (λ done is. pushes (object_in c.args.seat.now.view c.args.node.slot).payload
    (object_in c.link.new.seat.view c.args.node.slot).payload c.args.seat.now.view.client
    c.link.new.seat.view.client c.put_on.new.seat.view.client is
    (ap (λ (o : Object). o.payload) known)
    (ap (λ (v : View). v.pushed) c.link.ensures.client ∙ c.see.ensures.pushed))
    c.put_on.ensures.pushed

pub returns-clause-why : goal.returns-clause-why
returns-clause-why g c =
    then_err
    (λ not. IsWhyLost g.K.PayloadKind.fits c.args.domain.now (Cell c.args.cell) c.slot_of-expected.result
    not.error c.link.new.seat c.put_on.new.seat)
    (λ not. IsWhy g.K.PayloadKind.fits c.args.domain.now (IsSpent c.args.seat.now.view.core)
    not.error c.args.seat.now c.put_on.new.seat)
    c.put_on.result
    (λ not why. why_after g.K.PayloadKind.fits c.args.domain.now
    (IsSpent c.args.seat.now.view.core) (Cell c.args.cell) (named c.in-Ok.top) c.slot_of-expected.result
    not.error c.args.seat.now c.see.new.seat c.link.new.seat c.put_on.new.seat c.slot_of-expected.ensures
    c.in-Ok.ensures.loads c.link.ensures.leaves.trail why)
    c.put_on.ensures.why

pub returns-clause-gives : goal.returns-clause-gives
returns-clause-gives g c =
    let linked = there_and_back (named c.in-Ok.top) c.args.seat.now c.see.new.seat c.link.new.seat
    c.in-Ok.ensures.saw.owned c.in-Ok.ensures.gains c.link.ensures.leaves in
    then_ok
    (λ done. Leaves (without c.args.node.slot c.link.new.seat.view.core.owned) c.link.new.seat
    c.put_on.new.seat)
    (λ done. Leaves (without c.args.node.slot c.args.seat.now.view.core.owned) c.args.seat.now
    c.put_on.new.seat)
    c.put_on.result
    (λ done gives. push_gives c.args.node.slot c.args.seat.now c.link.new.seat c.put_on.new.seat
    linked c.requires.node.0 gives)
    c.put_on.ensures.gives

pub returns-clause-leaves : goal.returns-clause-leaves
returns-clause-leaves g c =
    let linked = there_and_back (named c.in-Ok.top) c.args.seat.now c.see.new.seat c.link.new.seat
    c.in-Ok.ensures.saw.owned c.in-Ok.ensures.gains c.link.ensures.leaves in
    on_err
    (Leaves c.link.new.seat.view.core.owned c.link.new.seat c.put_on.new.seat)
    (Leaves c.args.seat.now.view.core.owned c.args.seat.now c.put_on.new.seat)
    c.put_on.result
    (push_leaves c.args.node.slot c.args.seat.now c.link.new.seat c.put_on.new.seat linked)
    c.put_on.ensures.leaves
