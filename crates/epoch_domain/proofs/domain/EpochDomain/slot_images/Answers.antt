use Rattle.std.proofs.Common.{◌≡◌, ℕ, ap, ◌∙◌, rules}
use Rattle.epoch_parts.specs.plain_state.declared.image.SlotImage.{SlotImage}
use Rattle.epoch_parts.specs.plain_state.Images.{image_at}
use Rattle.epoch_parts.specs.plain_state.State.{Plain}
use Rattle.epoch_domain.specs.Wholes.{known_state}
use Rattle.epoch_domain.proofs.Images.{one_each, same_state}
use Rattle.epoch_domain.proofs.domain.EpochDomain.slot_images.Goals as goal

pub loop-slot-preserved : goal.loop-slot-preserved
loop-slot-preserved g c =
    let f : ℕ → SlotImage = λ x.
    image_at (known_state c.args.self.now c.args.seat.now) (record { 0 = x }) in
    let is : c.slot_image.result ≡ f c.loop-slot.slot = c.slot_image.ensures.image
    ∙ ap (λ (p : Plain). image_at p (record { 0 = c.loop-slot.slot }))
    (same_state c.args.seat.now c.loop-slot.seat c.loop-slot.invariant.same c.args.self.now) in
    record {
      same = search rules;
      images = one_each f _ _ _ _ c.push_reserved.ensures.items c.loop-slot.invariant.images is;
      count = search rules;
      capacity = search rules;
    }
