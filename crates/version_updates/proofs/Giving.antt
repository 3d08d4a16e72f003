-- What a seat has without the reference of a handle that may be null.
use Rattle.std.proofs.Common.{◌≡◌, ◌+◌, ◌<◌, ◌≤◌, refl, arith}
use Rattle.std.specs.Prelude.{Option, Some, None}
use Rattle.map_law.specs.plain_state.declared.slot.Kind.TheVariants.{Strong}
use Rattle.map_law.specs.plain_state.declared.slot.SlotId.{SlotId}
use Rattle.map_law.specs.plain_state.Lists.{times}
use Rattle.slot_store.specs.core_events.declared.view.CoreView.{CoreView}
use Rattle.slot_store.specs.core_events.Counts.{one}
use Rattle.slot_store.specs.core_events.Steps.{CanGive, without_given}
use Rattle.slot_store.proofs.Below.core_law_Kit.{one_same, times_without}
use Rattle.slot_store.specs.counted_handles.Handles.{Handle}
use Rattle.atomic_shared.specs.Places.{named}
use Rattle.version_making.specs.Keeping.{aside, of_handle}

abbrev pub without : Option Handle → CoreView → CoreView
without h v = without_given Strong (named h) v

abbrev pub HasIt : Option Handle → CoreView → Type 0
HasIt h v = (x : SlotId) → of_handle h x ≤ times x v.owned

has_one : (s : SlotId) (v : CoreView) → ((x : SlotId) → one x s ≤ times x v.owned)
    → 0 < times s v.owned
has_one s v has = let o = has s in let same = one_same s s refl in omega (arith, o, same)

pub can_give : (h : Option Handle) (v : CoreView) → HasIt h v → CanGive Strong (named h) v
can_give None v has = tt
can_give (Some h) v has = has_one h.slot v has

pub aside_given : (h : Option Handle) (v : CoreView) → aside (without h v) ≡ aside v
aside_given None v = refl
aside_given (Some h) v = refl

pub makes_given : (h : Option Handle) (v : CoreView) → (without h v).makes ≡ v.makes
makes_given None v = refl
makes_given (Some h) v = refl

pub adds_given : (h : Option Handle) (v : CoreView) → (without h v).adds ≡ v.adds
adds_given None v = refl
adds_given (Some h) v = refl

pub owned_given : (h : Option Handle) (v : CoreView) → HasIt h v → (x : SlotId)
    → times x (without h v).owned + of_handle h x ≡ times x v.owned
owned_given None v has x = omega arith
owned_given (Some h) v has x =
    let w = times_without x h.slot v.owned (has_one h.slot v has) in omega (arith, w)
