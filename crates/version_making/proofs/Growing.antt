-- What the views of the deeds add.
use Rattle.std.proofs.Common.{inr, ℕ, zero, suc, refl}
use Rattle.std.specs.Prelude.{Option, Some, None}
use Rattle.map_law.specs.plain_state.declared.slot.SlotId.{SlotId}
use Rattle.map_law.specs.plain_protocol.Owns.{Object, OwnPart}
use Rattle.map_law.specs.declared.view.View.{View}
use Rattle.map_law.specs.Lessons.{led_by, led_to}
use Rattle.map_law.specs.Making.{frozen}
use Rattle.map_law.proofs.Growing.{frozen_more}
use Rattle.version_making.specs.Keeping.{Grows}

pub frozen_grows : (s : SlotId) (l : ℕ) (v : View) → Grows v (frozen s l v)
frozen_grows s l v = record {
  number = refl;
  here = refl;
  entries = refl;
  cleared = refl;
  solid = λ e in'. inr in';
  led = λ e in'. frozen_more s l v e in';
}

pub led_to_grows : (s : SlotId) (l i : ℕ) (r : SlotId) (o : Option Object) (v : View)
    → Grows v (led_to s l i r o v)
led_to_grows s l i r None v = record {
  number = refl;
  here = refl;
  entries = refl;
  cleared = refl;
  solid = λ e in'. in';
  led = λ e in'. in';
}
led_to_grows s l i r (Some o) v = record {
  number = refl;
  here = refl;
  entries = refl;
  cleared = refl;
  solid = λ e in'. inr in';
  led = λ e in'. inr in';
}

pub led_grows : (s : SlotId) (l i : ℕ) (after : OwnPart) (found : ℕ) (v : View)
    → Grows v (led_by s l i after found v)
led_grows s l i after zero v = record {
  number = refl;
  here = refl;
  entries = refl;
  cleared = refl;
  solid = λ e in'. in';
  led = λ e in'. inr in';
}
led_grows s l i after (suc r) v =
    led_to_grows s l i (record { 0 = r }) (after.objects (record { 0 = r })) v
