-- Which word of the slot of a seat's phase an act is on.
use Rattle.std.specs.Prelude.{ℕ}
use Rattle.core_functions.specs.plain_state.declared.slot.SlotId.{SlotId}
use Rattle.core_functions.specs.core_events.declared.act.Act.{Act}
use Rattle.core_functions.specs.core_events.declared.act.Act.TheVariants as act
use Rattle.core_functions.specs.core_events.declared.shape.Shape.{Shape}
use Rattle.core_functions.specs.core_events.Words.{bits_at, payload_at, strong_at, weak_at}

abbrev pub word_in : Shape → Act → SlotId → ℕ
word_in z act.Arm s = weak_at z s
word_in z (act.Fill i x) s = payload_at z s i
word_in z act.Free s = bits_at z s
word_in z a s = strong_at z s
