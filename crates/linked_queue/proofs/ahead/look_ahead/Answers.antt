use Rattle.std.proofs.Common.{refl}
use Rattle.queue_protocol.specs.plain_state.declared.act.EventPlace.TheVariants.{Field}
use Rattle.part_calls.specs.Parts.{as_part, seen_by}
use Rattle.queue_protocol.specs.queue_law.Lessons.{ahead_next}
use Rattle.linked_queue.proofs.Accepting.{kept_all}
use Rattle.linked_queue.proofs.Looks.{step_as}
use Rattle.linked_queue.proofs.TailLooks.{ahead_behind, ahead_leaves, ahead_passed, ahead_ready}
use Rattle.linked_queue.proofs.ahead.look_ahead.Goals as goal

pub look-requires-clause-deed : goal.look-requires-clause-deed
look-requires-clause-deed g c =
    ahead_ready g.P.Kind.PayloadKind.fits (as_part g.P.Part.part c.args.domain.now) c.args.first
    c.args.next (seen_by g.P.Part.seen c.args.seat.now) c.requires.behind c.requires.queue

pub look-requires-clause-accepted : goal.look-requires-clause-accepted
look-requires-clause-accepted g c =
    kept_all g.P.Part.seen g.P.Part.suits g.met.P.HasQueue.accepts
    c.args.domain.now.protocol c.args.seat.now.view.client ahead_next (λ own after v a w. refl)

pub returns-in-Found-clause-looks : goal.returns-in-Found-clause-looks
returns-in-Found-clause-looks g c =
    let place = Field c.args.next 0 in
    step_as (as_part g.P.Part.part c.args.domain.now) place place c.look.result _
    (seen_by g.P.Part.seen c.args.seat.now) (seen_by g.P.Part.seen c.look.new.seat) refl
    c.in-Found.is c.look.ensures.steps

pub returns-in-Found-clause-behind : goal.returns-in-Found-clause-behind
returns-in-Found-clause-behind g c =
    let d = as_part g.P.Part.part c.args.domain.now in
    let before = seen_by g.P.Part.seen c.args.seat.now in
    let after = seen_by g.P.Part.seen c.look.new.seat in
    let place = Field c.args.next 0 in
    ahead_behind g.P.Kind.PayloadKind.fits d c.args.first c.args.next before c.requires.behind
    c.in-Found.found after
    (step_as d place place c.look.result _ before after refl c.in-Found.is c.look.ensures.steps)

pub returns-in-Found-clause-passed : goal.returns-in-Found-clause-passed
returns-in-Found-clause-passed g c =
    let d = as_part g.P.Part.part c.args.domain.now in
    let before = seen_by g.P.Part.seen c.args.seat.now in
    let after = seen_by g.P.Part.seen c.look.new.seat in
    let place = Field c.args.next 0 in
    ahead_passed g.P.Kind.PayloadKind.fits d c.args.first c.args.next before c.requires.behind
    c.in-Found.found after
    (step_as d place place c.look.result _ before after refl c.in-Found.is c.look.ensures.steps)

pub returns-in-Found-clause-leaves : goal.returns-in-Found-clause-leaves
returns-in-Found-clause-leaves g c =
    let d = as_part g.P.Part.part c.args.domain.now in
    let before = seen_by g.P.Part.seen c.args.seat.now in
    let after = seen_by g.P.Part.seen c.look.new.seat in
    let place = Field c.args.next 0 in
    ahead_leaves g.P.Kind.PayloadKind.fits d c.args.first c.args.next before c.requires.behind
    c.in-Found.found after
    (step_as d place place c.look.result _ before after refl c.in-Found.is c.look.ensures.steps)
