use Rattle.std.proofs.Common.{◌≡◌, map, take}
use Rattle.plain_state.specs.Images.{image_at}
use Rattle.acquire_retire.specs.Wholes.{IsSame, known_state}
use Rattle.acquire_retire.proofs.domain.Domain.images_of.Given as goal

abbrev pub invariant-loop-slot : goal.invariant-loop-slot
invariant-loop-slot g l = record {
  same : IsSame l.fn.seat l.seat;
  images : l.images.items
      ≡ map (image_at (known_state l.fn.self l.fn.seat)) (take l.slot-index l.slots);
}
