use Rattle.std.proofs.Common.{◌≡◌, ◌<◌, length, vec_capacity}
use Rattle.plain_state.specs.declared.slot.SlotId.{SlotId}
use Rattle.plain_state.specs.Images.{image_at, slot_image}
use Rattle.plain_store.specs.Stores.{plain_of}
use Rattle.plain_store.proofs.store.Store.slot_images.Given as goal

abbrev pub invariant-loop-i : goal.invariant-loop-i
invariant-loop-i l = record {
  size : length l.images.items ≡ l.i;
  room : vec_capacity l.images ≡ length l.self.slots.items;
  each : (s : SlotId) → s.0 < l.i → slot_image l.images.items s ≡ image_at (plain_of l.self) s;
}
