-- What a seat learns at each step of a read.
use Rattle.std.proofs.Common.{◌≡◌, ◌⊎◌, inl, inr, ℕ, zero, suc, List, [], refl, ap, sym, ◌∙◌, subst}
use Rattle.std.specs.Prelude.{Option, Some, None}
use Rattle.map_law.specs.plain_state.declared.act.PlainAct.{PlainAct}
use Rattle.map_law.specs.plain_state.declared.slot.SlotId.{SlotId}
use Rattle.map_law.specs.plain_protocol.Owns.{Object, OwnPart}
use Rattle.map_law.specs.declared.view.Led.{Led}
use Rattle.map_law.specs.declared.view.Raw.{Raw}
use Rattle.map_law.specs.declared.view.Shown.{Shown}
use Rattle.map_law.specs.declared.view.View.{View}
use Rattle.map_law.specs.Views.{In, note, without}
use Rattle.map_law.specs.Making.{frozen}
use Rattle.map_law.specs.Patterns.{kid_of}
use Rattle.map_law.specs.Lessons.{led_by, led_to, read_next, read_of, see_next, seen_root}
use Rattle.map_law.proofs.Growing.{frozen_more}
use Rattle.version_reading.specs.Deeds.{led_raw}
use Rattle.version_reading.specs.Reading.{Learns}

pub learns_none : (v : View) → Learns v v
learns_none v = record { same = refl; solid = λ e i. i; led = λ e i. i; shown = λ e i. i }

pub learns_as : (v w : View) → w ≡ v → Learns v w
learns_as v w is = subst (λ (u : View). Learns v u) (sym is) (learns_none v)

pub learns_then : (u v w : View) → Learns u v → Learns v w → Learns u w
learns_then u v w a b = record {
  same = b.same ∙ a.same;
  solid = λ e i. b.solid e (a.solid e i);
  led = λ e i. b.led e (a.led e i);
  shown = λ e i. b.shown e (a.shown e i);
}

-- the root is seen
seen_learns : (s : SlotId) (o : Option Object) (v : View) → Learns v (seen_root s o v)
seen_learns s None v = learns_none v
seen_learns s (Some o) v =
    record { same = refl; solid = λ e i. inr i; led = λ e i. i; shown = λ e i. i }

pub see_learns : (own after : OwnPart) (v : View) (step : PlainAct) (found : ℕ)
    → Learns v (see_next own after v step found)
see_learns own after v step zero = learns_none v
see_learns own after v step (suc s) =
    seen_learns (record { 0 = s }) (after.objects (record { 0 = s })) v

-- a field is read
led_to_learns : (s : SlotId) (l i : ℕ) (r : SlotId) (o : Option Object) (v : View)
    → Learns v (led_to s l i r o v)
led_to_learns s l i r None v =
    record { same = refl; solid = λ e i. i; led = λ e i. i; shown = λ e i. inr i }
led_to_learns s l i r (Some o) v =
    record { same = refl; solid = λ e i. inr i; led = λ e i. inr i; shown = λ e i. i }

led_learns : (s : SlotId) (l i : ℕ) (after : OwnPart) (found : ℕ) (v : View)
    → Learns v (led_by s l i after found v)
led_learns s l i after zero v =
    record { same = refl; solid = λ e i. i; led = λ e i. inr i; shown = λ e i. i }
led_learns s l i after (suc r) v =
    led_to_learns s l i (record { 0 = r }) (after.objects (record { 0 = r })) v

frozen_learns : (s : SlotId) (l : ℕ) (v : View) → without s l v.raw ≡ v.raw → Learns v (frozen s l v)
frozen_learns s l v none = record {
  same = ap (λ (es : List Raw). record v { raw = es; solid = []; led = []; shown = [] }) none;
  solid = λ e i. inr i;
  led = λ e i. frozen_more s l v e i;
  shown = λ e i. i;
}

-- of a node that the seat has, none of whose raw notes goes
module _ (s : SlotId) (i : ℕ) (own after : OwnPart) (v : View) (step : PlainAct) (found : ℕ)
    (o : Object) (has : own.objects s ≡ Some o) where
  pub next_is : read_next s i own after v step found
      ≡ led_by s o.life i after found (frozen s o.life v)
  next_is = ap (λ (x : Option Object). read_of s i x after v found) has

  pub side_learns : (read_next s i own after v step found).raw ≡ v.raw
      → Learns v (read_next s i own after v step found)
  side_learns raw =
      let none : without s o.life v.raw ≡ v.raw =
      sym (led_raw s o.life i after found (frozen s o.life v))
      ∙ (sym (ap (λ (u : View). u.raw) next_is) ∙ raw) in
      subst (λ (u : View). Learns v u) (sym next_is)
      (learns_then v (frozen s o.life v) (led_by s o.life i after found (frozen s o.life v))
      (frozen_learns s o.life v none) (led_learns s o.life i after found (frozen s o.life v)))

-- WHAT IS NOTED of a field: null; a slot that the seat has; a slot, of which it may have the node
abbrev pub led_note : SlotId → ℕ → ℕ → SlotId → Object → Led
led_note s l i r x = record { slot = s; life = l; side = i; kid = Some (kid_of r x) }

abbrev pub shown_note : SlotId → ℕ → ℕ → SlotId → Shown
shown_note s l i r = record { slot = s; life = l; side = i; next = Some r }

pub null_noted : (s : SlotId) (l i : ℕ) (after : OwnPart) (v : View)
    → In (record { slot = s; life = l; side = i; kid = None }) (led_by s l i after 0 v).led
null_noted s l i after v = inl refl

pub kid_noted : (s : SlotId) (l i : ℕ) (after : OwnPart) (r : SlotId) (x : Object) (v : View)
    → after.objects r ≡ Some x
    → In (led_note s l i r x) (led_by s l i after (suc r.0) v).led
    × In (note r x.life) (led_by s l i after (suc r.0) v).solid
kid_noted s l i after r x v has =
    subst (λ (o : Option Object). In (led_note s l i r x) (led_to s l i r o v).led
    × In (note r x.life) (led_to s l i r o v).solid) (sym has) (inl refl, inl refl)

abbrev pub IsNoted : SlotId → ℕ → ℕ → SlotId → View → Type 0
IsNoted s l i r w =
    In (shown_note s l i r) w.shown ⊎ ((x : Object) × In (led_note s l i r x) w.led)

to_noted : (s : SlotId) (l i : ℕ) (r : SlotId) (o : Option Object) (v : View)
    → IsNoted s l i r (led_to s l i r o v)
to_noted s l i r None v = inl (inl refl)
to_noted s l i r (Some x) v = inr (x, inl refl)

pub slot_noted : (s : SlotId) (l i : ℕ) (after : OwnPart) (r : SlotId) (v : View)
    → IsNoted s l i r (led_by s l i after (suc r.0) v)
slot_noted s l i after r v = to_noted s l i r (after.objects r) v
