use Rattle.std.proofs.Common.{subst}
use Rattle.plain_state.specs.Images.{IsImage}
use Rattle.plain_state.specs.State.{Plain}
use Rattle.acquire_retire.specs.Wholes.{IsWholeImage, known_state}
use Rattle.acquire_retire.proofs.Images.{same_state}
use Rattle.acquire_retire.proofs.Wholes.{then_ok, whole_deferred, whole_image}
use Rattle.acquire_retire.proofs.domain.Domain.image_into.Goals as goal

pub returns-clause-image : goal.returns-clause-image
returns-clause-image g c =
    let d = c.args.self.now in
    let fits = g.P.Kind.PayloadKind.fits in
    let seat = c.seat.inside.seat in
    let heap = c.heap_image.new.heap in
    then_ok (λ _. IsImage (known_state d c.learn.new.seat) heap)
    (λ _. IsWholeImage fits c.args.seat.now.view heap) _
    (λ _ image. whole_image d fits seat c.args.seat.now c.seat.view_is c.requires.seat.1
    c.learn.ensures.knows heap
    (subst (λ (p : Plain). IsImage p heap)
    (same_state seat c.learn.new.seat c.learn.ensures.stays d) image))
    c.heap_image.ensures.image

pub returns-clause-deferred : goal.returns-clause-deferred
returns-clause-deferred g c =
    whole_deferred c.args.self.now g.P.Kind.PayloadKind.fits c.seat.inside.seat c.args.seat.now
    c.seat.view_is c.learn.ensures.knows
