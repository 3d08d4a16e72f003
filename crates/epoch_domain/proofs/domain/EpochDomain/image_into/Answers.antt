use Rattle.std.proofs.Common.{subst}
use Rattle.epoch_parts.specs.plain_state.Images.{IsImage}
use Rattle.epoch_parts.specs.plain_state.State.{Plain}
use Rattle.epoch_domain.specs.Wholes.{IsWholeImage, known_state}
use Rattle.epoch_domain.proofs.Images.{same_state}
use Rattle.epoch_domain.proofs.Wholes.{then_ok, whole_image}
use Rattle.epoch_domain.proofs.domain.EpochDomain.image_into.Goals as goal

pub returns-clause-image : goal.returns-clause-image
returns-clause-image g c =
    let d = c.args.self.now in
    let fits = g.P.Kind.PayloadKind.fits in
    let seat = c.seat.inside.seat in
    let heap = c.heap_image.new.heap in
    then_ok (λ _. IsImage (known_state d c.learn.new.seat) heap)
    (λ _. IsWholeImage fits c.args.seat.now.view heap) _
    (λ _ image. whole_image d fits seat _ c.args.seat.now c.seat.view_is c.requires.seat.1
    c.learn.ensures.knows heap
    (subst (λ (p : Plain). IsImage p heap)
    (same_state seat c.learn.new.seat c.learn.ensures.stays d) image))
    c.heap_image.ensures.image
