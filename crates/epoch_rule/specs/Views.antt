-- What a seat of a domain under epochs has by its view: the objects of its slots, its own part of the plain state.
use Rattle.std.specs.Prelude.{ℕ, ◌≡◌, ◌+◌, List, length, slice_index_or, Some, None, IsSome, if◌then◌else◌}
use Rattle.std.specs.Option.{option_map}
use Rattle.domain_rule.specs.plain_protocol.plain_state.declared.act.EventPlace.TheVariants.{Field}
use Rattle.domain_rule.specs.plain_protocol.plain_state.declared.slot.SlotId.{SlotId}
use Rattle.domain_rule.specs.plain_protocol.Owns.{Object, OwnPart, has_slot}
use Rattle.domain_rule.specs.Views.{Stands, no_object}
use Rattle.domain_rule.specs.Views as domain
use Rattle.epoch_core.specs.core_events.declared.shape.Quota.{Quota}
use Rattle.epoch_core.specs.Runs.{Core}
use Rattle.epoch_core.specs.Shows.{show_seat, shows}
use Rattle.epoch_rule.specs.declared.view.EpochWhole.{EpochWhole}
use Rattle.epoch_rule.specs.declared.view.EpochSeatView.{EpochSeatView}

-- a core, in the form in which a view keeps it
abbrev pub core_in : EpochWhole → Core
core_in all = record { words = all.words; views = all.views; opened = all.opened }

abbrev pub whole_of : Core → EpochWhole
whole_of c = record { words = c.words; views = c.views; opened = c.opened }

-- the quota of seat n, as they were given
abbrev pub quota_at : List Quota → ℕ → Quota
quota_at qs n = domain.quota_at qs n

module _ {V : Type 0} where
  -- by its view the seat has found both fields of s null, or left them so
  abbrev pub HasCleared : EpochSeatView V → SlotId → Type 0
  HasCleared v s = Stands (Field s 0) v.cleared × Stands (Field s 1) v.cleared

  -- the object that the view tells of a slot
  abbrev pub object_in : EpochSeatView V → SlotId → Object
  object_in v s =
      let o = slice_index_or v.objects s.0 no_object in record { life = o.life; payload = o.payload }

  -- the seat's own part of the plain state, by its view alone
  abbrev pub own_of : EpochSeatView V → OwnPart
  own_of v = record {
    seat = show_seat v.core;
    objects = λ s. if has_slot (show_seat v.core) s then Some (object_in v s) else None;
    whole = option_map (λ all. shows v.core.shape (core_in all)) v.whole;
  }

  -- by its view it is seat 0, and every other seat has left
  abbrev pub IsAlone : EpochSeatView V → Type 0
  IsAlone v = (v.core.seat ≡ 0) × (length v.core.left_seats + 1 ≡ v.core.shape.seats)

  -- a seat that is alone knows the whole core
  abbrev pub KnowsAll : EpochSeatView V → Type 0
  KnowsAll v = IsAlone v → IsSome v.whole
