use Rattle.std.proofs.Common.{◌≡◌, ◌≤◌, vec_capacity, vec_len}
use Rattle.epoch_parts.specs.plain_state.Images.{image_at}
use Rattle.epoch_rule.specs.epoch_core.core_events.Words.{each_from}
use Rattle.epoch_domain.specs.Wholes.{IsSame, known_state}
use Rattle.epoch_domain.proofs.domain.EpochDomain.slot_images.Given as goal

abbrev pub invariant-loop-slot : goal.invariant-loop-slot
invariant-loop-slot g l = record {
  same : IsSame l.fn.seat l.seat;
  images : l.images.items ≡ each_from 0 l.slot
      (λ x. image_at (known_state l.fn.self l.fn.seat) (record { 0 = x }));
  count : vec_len l.images ≡ l.slot;
  capacity : l.fn.self.shape.slots ≤ vec_capacity l.images;
}
