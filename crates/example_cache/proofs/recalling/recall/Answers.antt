use Rattle.std.proofs.Common.{ap, subst, ◌∙◌, None, Some}
use Rattle.std.specs.Prelude.{Err}
use Rattle.cdrc.specs.plain_state.Lists.{times}
use Rattle.example_cache.specs.Calls.{Finds, weak_named}
use Rattle.example_cache.proofs.Framing.{knows_recalled, owns_missed, owns_with}
use Rattle.example_cache.proofs.Raising.{ended_found, recalls_raised}
use Rattle.example_cache.proofs.recalling.recall.Goals as goal

pub returns-in-Ok-raise-clause-recalled : goal.returns-in-Ok-raise-clause-recalled
returns-in-Ok-raise-clause-recalled g c =
    let raised = c.in-Ok-raise.ensures in
    recalls_raised g.K.PayloadKind.fits c.args.domain.now c.args.domain.now.protocol.cell
    c.args.seat.now c.find.new.seat c.raise.new.seat c.in-Some.weak.slot
    c.in-Ok-raise.strong.slot
    (subst (λ o. Finds g.K.PayloadKind.fits c.args.domain.now c.args.domain.now.protocol.cell
    (weak_named o) c.args.seat.now c.find.new.seat) c.in-Some.is c.in-Ok.ensures.found)
    raised.raised.0 raised.raised.1 raised.owned raised.known c.raise.ensures.client

pub returns-in-Err-Ended-clause-ended : goal.returns-in-Err-Ended-clause-ended
returns-in-Err-Ended-clause-ended g c is =
    ended_found g.K.PayloadKind.fits c.args.domain.now c.args.domain.now.protocol.cell
    c.args.seat.now c.find.new.seat c.raise.new.seat c.in-Some.weak.slot
    (subst (λ o. Finds g.K.PayloadKind.fits c.args.domain.now c.args.domain.now.protocol.cell
    (weak_named o) c.args.seat.now c.find.new.seat) c.in-Some.is c.in-Ok.ensures.found)
    (c.raise.ensures.ended (c.in-Err-Ended.is ∙ ap (λ e. Err e) c.in-Err-Ended.field-0-is))

pub returns-in-Err-clause-owns : goal.returns-in-Err-clause-owns
returns-in-Err-clause-owns g c =
    owns_missed g.K.PayloadKind.fits c.args.domain.now c.args.domain.now.protocol.cell
    c.args.seat.now c.find.new.seat c.in-Err.error c.find.result c.in-Err.is c.find.ensures.moved
    c.find.ensures.refused

pub returns-in-Ok-raise-clause-owns : goal.returns-in-Ok-raise-clause-owns
returns-in-Ok-raise-clause-owns g c =
    let found = subst (λ o. Finds g.K.PayloadKind.fits c.args.domain.now
    c.args.domain.now.protocol.cell (weak_named o) c.args.seat.now c.find.new.seat) c.in-Some.is
    c.in-Ok.ensures.found in
    owns_with g.K.PayloadKind.fits c.args.domain.now c.args.domain.now.protocol.cell
    c.args.seat.now c.find.new.seat c.raise.new.seat c.in-Some.weak.slot found.loads
    c.raise.ensures.gives (Some c.in-Ok-raise.strong.slot)
    (λ x. ap (times x) c.in-Ok-raise.ensures.gains)

pub returns-in-Err-Ended-clause-owns : goal.returns-in-Err-Ended-clause-owns
returns-in-Err-Ended-clause-owns g c =
    let found = subst (λ o. Finds g.K.PayloadKind.fits c.args.domain.now
    c.args.domain.now.protocol.cell (weak_named o) c.args.seat.now c.find.new.seat) c.in-Some.is
    c.in-Ok.ensures.found in
    owns_with g.K.PayloadKind.fits c.args.domain.now c.args.domain.now.protocol.cell
    c.args.seat.now c.find.new.seat c.raise.new.seat c.in-Some.weak.slot found.loads
    c.raise.ensures.gives None (λ x. ap (times x) c.in-Err-Ended.ensures.still)

pub returns-in-Err-Spent-clause-owns : goal.returns-in-Err-Spent-clause-owns
returns-in-Err-Spent-clause-owns g c =
    let found = subst (λ o. Finds g.K.PayloadKind.fits c.args.domain.now
    c.args.domain.now.protocol.cell (weak_named o) c.args.seat.now c.find.new.seat) c.in-Some.is
    c.in-Ok.ensures.found in
    owns_with g.K.PayloadKind.fits c.args.domain.now c.args.domain.now.protocol.cell
    c.args.seat.now c.find.new.seat c.raise.new.seat c.in-Some.weak.slot found.loads
    c.raise.ensures.gives None (λ x. ap (times x) c.in-Err-Spent.ensures.still)

pub returns-in-Ok-raise-clause-objects : goal.returns-in-Ok-raise-clause-objects
returns-in-Ok-raise-clause-objects g c =
    let found = subst (λ o. Finds g.K.PayloadKind.fits c.args.domain.now
    c.args.domain.now.protocol.cell (weak_named o) c.args.seat.now c.find.new.seat) c.in-Some.is
    c.in-Ok.ensures.found in
    knows_recalled g.K.PayloadKind.fits c.args.domain.now c.args.domain.now.protocol.cell
    c.args.seat.now c.find.new.seat c.raise.new.seat c.in-Some.weak.slot found.loads
    c.raise.ensures.gives c.find.ensures.objects

pub returns-in-Err-Ended-clause-objects : goal.returns-in-Err-Ended-clause-objects
returns-in-Err-Ended-clause-objects g c =
    let found = subst (λ o. Finds g.K.PayloadKind.fits c.args.domain.now
    c.args.domain.now.protocol.cell (weak_named o) c.args.seat.now c.find.new.seat) c.in-Some.is
    c.in-Ok.ensures.found in
    knows_recalled g.K.PayloadKind.fits c.args.domain.now c.args.domain.now.protocol.cell
    c.args.seat.now c.find.new.seat c.raise.new.seat c.in-Some.weak.slot found.loads
    c.raise.ensures.gives c.find.ensures.objects

pub returns-in-Err-Spent-clause-objects : goal.returns-in-Err-Spent-clause-objects
returns-in-Err-Spent-clause-objects g c =
    let found = subst (λ o. Finds g.K.PayloadKind.fits c.args.domain.now
    c.args.domain.now.protocol.cell (weak_named o) c.args.seat.now c.find.new.seat) c.in-Some.is
    c.in-Ok.ensures.found in
    knows_recalled g.K.PayloadKind.fits c.args.domain.now c.args.domain.now.protocol.cell
    c.args.seat.now c.find.new.seat c.raise.new.seat c.in-Some.weak.slot found.loads
    c.raise.ensures.gives c.find.ensures.objects
