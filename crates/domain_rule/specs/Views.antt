-- What a seat of a domain has by its view: the objects of its slots, its own part of the plain state.
use Rattle.std.specs.Prelude.{ℕ, ◌≡◌, ◌⊎◌, ◌+◌, Bool, false, List, [], ◌∷◌, length, map, slice_index_or, Some, None, IsSome, if◌then◌else◌}
use Rattle.std.specs.Option.{option_map}
use Rattle.plain_protocol.specs.plain_state.declared.act.EventPlace.{EventPlace}
use Rattle.plain_protocol.specs.plain_state.declared.act.EventPlace.TheVariants.{Cell, Field, WeakCell, WeakField}
use Rattle.plain_protocol.specs.plain_state.declared.slot.SlotId.{SlotId}
use Rattle.plain_protocol.specs.plain_state.Lists.{is_slot}
use Rattle.plain_protocol.specs.plain_state.State.{Plain, no_payload}
use Rattle.plain_protocol.specs.Owns.{Object, OwnPart, object_of, has_slot}
use Rattle.core_law.specs.core_events.declared.shape.Quota.{Quota}
use Rattle.core_law.specs.core_events.Runs.{Core}
use Rattle.core_law.specs.core_events.Shows.{show_seat, shows}
use Rattle.domain_rule.specs.declared.view.Known.{Known}
use Rattle.domain_rule.specs.declared.view.Whole.{Whole}
use Rattle.domain_rule.specs.declared.view.SeatView.{SeatView}

-- a core, in the form in which a view keeps it
abbrev pub core_in : Whole → Core
core_in all = record { words = all.words; views = all.views }

abbrev pub whole_of : Core → Whole
whole_of c = record { words = c.words; views = c.views }

-- what stays of the object in each slot
abbrev pub known_of : Object → Known
known_of o = record { life = o.life; payload = o.payload }

abbrev pub objects_of : Plain → List Known
objects_of p = map (λ x. known_of (object_of x)) p.slots

-- nothing is in the slot
abbrev pub no_object : Known
no_object = record { life = 0; payload = no_payload }

-- the quota of seat n, as they were given
abbrev pub quota_at : List Quota → ℕ → Quota
quota_at qs n = slice_index_or qs n (record { makes = 0; adds = 0 })

-- the place stands in a list
abbrev pub Stands : EventPlace → List EventPlace → Type 0
Stands p [] = ⊥
Stands p (x ∷ xs) = (p ≡ x) ⊎ Stands p xs

-- the place is a field of s
abbrev pub is_field_of : SlotId → EventPlace → Bool
is_field_of s (Cell i) = false
is_field_of s (Field x i) = is_slot s x
is_field_of s (WeakCell i) = false
is_field_of s (WeakField x) = is_slot s x

-- the places that aren't fields of s
abbrev pub without_fields : SlotId → List EventPlace → List EventPlace
without_fields s [] = []
without_fields s (p ∷ ps) = if is_field_of s p then without_fields s ps else p ∷ without_fields s ps

module _ {V : Type 0} where
  -- by its view the seat has left all fields of s null
  abbrev pub HasCleared : SeatView V → SlotId → Type 0
  HasCleared v s =
      Stands (Field s 0) v.cleared × Stands (Field s 1) v.cleared × Stands (WeakField s) v.cleared

  -- the object that the view tells of a slot
  abbrev pub object_in : SeatView V → SlotId → Object
  object_in v s =
      let o = slice_index_or v.objects s.0 no_object in record { life = o.life; payload = o.payload }

  -- the seat's own part of the plain state, by its view alone
  abbrev pub own_of : SeatView V → OwnPart
  own_of v = record {
    seat = show_seat v.core;
    objects = λ s. if has_slot (show_seat v.core) s then Some (object_in v s) else None;
    whole = option_map (λ all. shows v.core.shape (core_in all)) v.whole;
  }

  -- by its view it is seat 0, and every other seat has left
  abbrev pub IsAlone : SeatView V → Type 0
  IsAlone v = (v.core.seat ≡ 0) × (length v.core.left_seats + 1 ≡ v.core.shape.seats)

  -- a seat that is alone knows the whole core
  abbrev pub KnowsAll : SeatView V → Type 0
  KnowsAll v = IsAlone v → IsSome v.whole
