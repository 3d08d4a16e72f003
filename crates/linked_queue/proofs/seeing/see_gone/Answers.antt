use Rattle.std.proofs.Common.{ap, ◌∙◌, refl, subst, sym}
use Rattle.queue_protocol.specs.plain_state.declared.act.EventPlace.TheVariants.{Cell}
use Rattle.slot_store.specs.core_events.declared.act.Act.TheVariants as act
use Rattle.slot_store.specs.core_events.declared.outcome.Outcome.TheVariants as outcome
use Rattle.slot_store.specs.core_events.declared.shape.Shape.{Shape}
use Rattle.slot_store.specs.acquire_retire.Calls.{IsReady, Steps, same_view}
use Rattle.part_calls.specs.Parts.{as_part, seen_by}
use Rattle.linked_queue.specs.Items.{GoneReady, GoneTells}
use Rattle.linked_queue.specs.Queues.{ends_of}
use Rattle.linked_queue.proofs.Accepting.{kept_all}
use Rattle.linked_queue.proofs.Gone.{gone_other, gone_ready}
use Rattle.linked_queue.proofs.Leavings.{leaves_all}
use Rattle.linked_queue.proofs.Looks.{looked, step_as, word_slot_of}
use Rattle.linked_queue.proofs.seeing.see_gone.Goals as goal

pub look-requires-clause-deed : goal.look-requires-clause-deed
look-requires-clause-deed g c =
    let d = as_part g.P.Part.part c.args.domain.now in
    let fits = g.P.Kind.PayloadKind.fits in
    let before = seen_by g.P.Part.seen c.args.seat.now in
    subst (λ (z : Shape). IsReady (GoneReady (ends_of d) z.slots) d.shape
    (act.Look (Cell c.args.head)) before.view) (sym c.shape-slots.ensures)
    (gone_ready fits d c.args.front c.args.next before c.requires.gone c.args.head c.requires.head)

pub look-requires-clause-accepted : goal.look-requires-clause-accepted
look-requires-clause-accepted g c =
    kept_all g.P.Part.seen g.P.Part.suits g.met.P.HasQueue.accepts
    c.args.domain.now.protocol c.args.seat.now.view.client same_view
    (λ own after v a w. refl)

pub returns-in-Found-clause-looks : goal.returns-in-Found-clause-looks
returns-in-Found-clause-looks g c =
    let d = as_part g.P.Part.part c.args.domain.now in
    let fits = g.P.Kind.PayloadKind.fits in
    let before = seen_by g.P.Part.seen c.args.seat.now in
    let after = seen_by g.P.Part.seen c.look.new.seat in
    let steps = subst (λ (z : Shape). Steps fits d same_view (GoneTells (ends_of d) z.slots)
    (act.Look (Cell c.args.head)) before after c.look.result) c.shape-slots.ensures
    c.look.ensures.steps in
    step_as d (Cell c.args.head) (Cell d.protocol.head) c.look.result _ before after
    (ap Cell c.requires.head)
    (c.in-Found.is ∙ word_slot_of c.in-Found.found c.held_as.result c.held_as.ensures) steps

pub returns-in-Found-clause-other : goal.returns-in-Found-clause-other
returns-in-Found-clause-other g c =
    let d = as_part g.P.Part.part c.args.domain.now in
    let fits = g.P.Kind.PayloadKind.fits in
    let before = seen_by g.P.Part.seen c.args.seat.now in
    let after = seen_by g.P.Part.seen c.look.new.seat in
    let steps = subst (λ (z : Shape). Steps fits d same_view (GoneTells (ends_of d) z.slots)
    (act.Look (Cell c.args.head)) before after c.look.result) c.shape-slots.ensures
    c.look.ensures.steps in
    gone_other fits d c.args.front c.args.next before c.requires.gone after c.in-Found.found
    c.held_as.result c.held_as.ensures
    (step_as d (Cell c.args.head) (Cell d.protocol.head) c.look.result
    (outcome.Found c.in-Found.found) before after (ap Cell c.requires.head) c.in-Found.is steps)

pub returns-in-Found-clause-leaves : goal.returns-in-Found-clause-leaves
returns-in-Found-clause-leaves g c =
    let before = seen_by g.P.Part.seen c.args.seat.now in
    let after = seen_by g.P.Part.seen c.look.new.seat in
    let step = c.look.ensures.steps in
    let by = looked (as_part g.P.Part.part c.args.domain.now) (Cell c.args.head) c.in-Found.found
    before after (step_as (as_part g.P.Part.part c.args.domain.now) (Cell c.args.head)
    (Cell c.args.head) c.look.result (outcome.Found c.in-Found.found) before after refl c.in-Found.is
    step) in
    leaves_all before after _ by.core (λ s has. step.told.objects s has)
