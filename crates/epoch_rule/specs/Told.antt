-- What a step tells the seat that made it.
use Rattle.std.specs.Prelude.{ℕ, ◌≡◌, false, true, Bool, List, ◌∷◌, length, Option, Some, None, if◌then◌else◌}
use Rattle.std.specs.Option.{option_map}
use Rattle.domain_rule.specs.plain_protocol.plain_state.Limits.{words_of_payload}
use Rattle.domain_rule.specs.plain_protocol.plain_state.declared.act.EventPlace.{EventPlace}
use Rattle.domain_rule.specs.plain_protocol.plain_state.declared.act.EventPlace.TheVariants.{Field}
use Rattle.domain_rule.specs.plain_protocol.plain_state.declared.act.PlainAct.{PlainAct}
use Rattle.domain_rule.specs.plain_protocol.plain_state.declared.act.PlainAct.TheVariants as plain
use Rattle.domain_rule.specs.plain_protocol.plain_state.declared.slot.SlotId.{SlotId}
use Rattle.domain_rule.specs.plain_protocol.plain_state.Fits.{AllFit}
use Rattle.domain_rule.specs.plain_protocol.plain_state.State.{Plain}
use Rattle.domain_rule.specs.plain_protocol.Owns.{OwnPart, HasSlot}
use Rattle.domain_rule.specs.Told.{changed_object}
use Rattle.domain_rule.specs.Views.{without_fields}
use Rattle.epoch_core.specs.core_events.declared.shape.Quota.{Quota}
use Rattle.epoch_core.specs.declared.act.EpochAct.{EpochAct}
use Rattle.epoch_core.specs.declared.act.EpochAct.TheVariants as act
use Rattle.epoch_core.specs.declared.act.EpochEvent.{EpochEvent}
use Rattle.epoch_core.specs.declared.shape.EpochShape.{EpochShape}
use Rattle.epoch_core.specs.declared.view.EpochView.{EpochView}
use Rattle.epoch_core.specs.declared.view.EpochPhase.TheVariants as phase
use Rattle.epoch_core.specs.Runs.{AreQuotas, Core, Enabled, History, IsShape, after, found, view_at}
use Rattle.epoch_core.specs.Shows.{show_seat, shows}
use Rattle.epoch_core.specs.ShownSteps.{PlainStep, on_place, step}
use Rattle.epoch_core.specs.Sound.{SeatLaw}
use Rattle.epoch_core.specs.Steps.{moved}
use Rattle.epoch_core.specs.Views.{slot_of}
use Rattle.epoch_rule.specs.declared.view.EpochWhole.{EpochWhole}
use Rattle.epoch_rule.specs.declared.view.EpochSeatView.{EpochSeatView}
use Rattle.epoch_rule.specs.Past.{GoesOnFrom}
use Rattle.epoch_rule.specs.Rule.{IsTrueOf}
use Rattle.epoch_rule.specs.Views.{HasCleared, core_in, object_in, own_of, whole_of}

-- the make of the slot of a phase
abbrev pub make_of : Option SlotId → PlainAct
make_of None = plain.Still
make_of (Some s) = plain.Make s

-- The plain step that a deed is told of, with the number that it finds: a make, what an exchange does, a look. It is
-- the first one that the event shows. Of all other events a deed is told Still, which changes nothing, and what they
-- show are calm steps.
abbrev pub deed_step : EpochAct → ℕ → EpochView → PlainStep
deed_step act.Start w v = step (make_of (slot_of v.phase))
deed_step (act.Look p) w v = on_place (plain.Look p) w
deed_step (act.Swap p new) w v = on_place (plain.Replace p new) w
deed_step (act.Cas p old new) w v = on_place (plain.TryReplace p old new) w
deed_step a w v = step plain.Still

-- whether the plain state may be another one after the step that a deed is told of
abbrev pub is_change : EpochAct → Bool
is_change act.Start = true
is_change (act.Swap p new) = true
is_change (act.Cas p old new) = true
is_change a = false

-- a word of the slot of a phase is filled
abbrev pub fill_of : ℕ → ℕ → Option SlotId → PlainAct
fill_of i x None = plain.Still
fill_of i x (Some s) = plain.Fill s i x

-- what an event makes of the object in a slot: a fill and a make change it, in the slot that the seat fills
abbrev pub object_step : EpochAct → EpochView → PlainAct
object_step (act.Fill i x) v = fill_of i x (slot_of v.phase)
object_step act.Start v = make_of (slot_of v.phase)
object_step a v = plain.Still

-- The fields of dying slots that a seat knows to be null, after its act: a clear leaves its field null, and with a slot
-- that is freed go its own.
abbrev pub cleared_after : EpochAct → List EventPlace → List EventPlace
cleared_after (act.Clear s i) ps = Field s i ∷ ps
cleared_after (act.Free s) ps = without_fields s ps
cleared_after a ps = ps

-- a step of seat n, with the view v, in a history, which found w, and a fact of the plain states before and after it
pub record Happened (z : EpochShape) (qs : List Quota) (n : ℕ) (v : EpochView) (a : EpochAct)
    (w : ℕ) (Fact : Plain → Plain → Type 0) : Type 0 where
  pub shape : IsShape z
  pub quotas : AreQuotas z qs
  pub events : List EpochEvent
  pub before : Core
  pub history : History z qs events before
  pub view : v ≡ view_at before n
  pub enabled : Enabled z before n a
  pub found : w ≡ found z before n a
  pub fact : Fact (shows z before) (shows z (after z before n a))

module _ {V : Type 0} where
  -- Whether a seat may make it is told by its own view. A free asks that the seat knows both fields of the slot to be
  -- null, and a leave is of two seats.
  abbrev pub IsOwn : EpochAct → EpochSeatView V → Type 0
  IsOwn (act.Free s) v = HasCleared v s
  IsOwn (act.Leave j) v = ⊥
  IsOwn a v = Unit {0}

  -- what it fills fits, if it is to start it
  abbrev pub FitsStart : (List ℕ → Type 0) → EpochAct → EpochSeatView V → Type 0
  FitsStart fits a v =
      a ≡ act.Start → (s : SlotId) → v.core.phase ≡ phase.Blank s → fits (object_in v s).payload

  -- what the seat knows of the whole core after its own step
  abbrev pub whole_after : EpochShape → EpochAct → EpochSeatView V → Option EpochWhole
  whole_after z a v =
      option_map (λ all. whole_of (after z (core_in all) v.core.seat a)) v.whole

  -- The seat has made a step that found w. `next` and `allows` are the deed's: it is told its own plain step alone, so
  -- for a look, which changes nothing, the own part and the plain state are after it as they were before. What its view
  -- tells is so before the event and after it, and so all payloads fit. The history goes on from all that had happened
  -- once the seat had made its last step before this one.
  pub record Told (fits : List ℕ → Type 0) (z : EpochShape) (qs : List Quota)
      (next : OwnPart → OwnPart → V → PlainAct → ℕ → V)
      (allows : Plain → Plain → ℕ → V → V → Type 0) (a : EpochAct) (v : EpochSeatView V) (w : ℕ)
      (v' : EpochSeatView V) : Type 0 where
    pub core : v'.core ≡ moved z a w v.core
    pub client :
        v'.client
        ≡ next (own_of v) (if is_change a then own_of v' else own_of v) v.client
        (deed_step a w v.core).0 (deed_step a w v.core).1
    pub objects :
        (s : SlotId) → HasSlot (show_seat v.core) s
        → object_in v' s ≡ changed_object (object_step a v.core) s (object_in v s)
    pub payloads : (s : SlotId) → length (object_in v' s).payload ≡ words_of_payload
    pub cleared : v'.cleared ≡ cleared_after a v.cleared
    pub whole : v'.whole ≡ whole_after z a v
    pub opened : v'.opened ≡ v.opened
    pub left_adds : v'.left_adds ≡ v.left_adds
    pub left_makes : v'.left_makes ≡ v.left_makes
    pub here : v'.gone ≡ false
    pub law : SeatLaw z v.core.seat v'.core
    pub happened :
        Happened z qs v.core.seat v.core a w
        (λ p q. AllFit fits p × AllFit fits q
        × allows p (if is_change a then q else p) v.core.seat v.client v'.client)
    pub since : GoesOnFrom v.past happened.events
    pub past : v'.past ≡ record { seat = v.core.seat; act = a } ∷ happened.events
    pub said : IsTrueOf z happened.before v.core.seat v
    pub says : IsTrueOf z (after z happened.before v.core.seat a) v.core.seat v'
