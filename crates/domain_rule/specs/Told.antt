-- What a step, an opening and a leave tell the seat that made them.
use Rattle.std.specs.Prelude.{ℕ, ◌≡◌, ◌+◌, false, List, ◌∷◌, length, slice_set, Option, Some, None, if◌then◌else◌}
use Rattle.std.specs.Option.{option_map}
use Rattle.plain_protocol.specs.plain_state.Limits.{words_of_payload}
use Rattle.plain_protocol.specs.plain_state.declared.act.EventPlace.{EventPlace}
use Rattle.plain_protocol.specs.plain_state.declared.act.PlainAct.{PlainAct}
use Rattle.plain_protocol.specs.plain_state.declared.act.PlainAct.TheVariants as plain
use Rattle.plain_protocol.specs.plain_state.declared.slot.SlotId.{SlotId}
use Rattle.plain_protocol.specs.plain_state.Lists.{is_slot}
use Rattle.plain_protocol.specs.plain_state.Fits.{AllFit}
use Rattle.plain_protocol.specs.plain_state.State.{Plain}
use Rattle.plain_protocol.specs.Owns.{Object, OwnPart, HasSlot}
use Rattle.core_law.specs.core_events.declared.act.Act.{Act}
use Rattle.core_law.specs.core_events.declared.act.Act.TheVariants as act
use Rattle.core_law.specs.core_events.declared.act.Event.{Event}
use Rattle.core_law.specs.core_events.declared.shape.Shape.{Shape}
use Rattle.core_law.specs.core_events.Views.{Terms}
use Rattle.core_law.specs.core_events.declared.view.CoreView.{CoreView}
use Rattle.core_law.specs.core_events.declared.view.Phase.TheVariants as phase
use Rattle.core_law.specs.core_events.Good.{SeatLaw}
use Rattle.core_law.specs.core_events.Runs.{Core, History, IsShape, AreTerms, Enabled, after, found, view_at}
use Rattle.core_law.specs.core_events.Shows.{show_seat, shows}
use Rattle.core_law.specs.core_events.ShownSteps.{is_ripe_field, shown_act, shown_number}
use Rattle.core_law.specs.core_events.Steps.{moved}
use Rattle.domain_rule.specs.declared.view.Whole.{Whole}
use Rattle.domain_rule.specs.declared.view.SeatView.{SeatView}
use Rattle.domain_rule.specs.Past.{GoesOnFrom}
use Rattle.domain_rule.specs.Rule.{IsTrueOf}
use Rattle.domain_rule.specs.Views.{HasCleared, without_fields, core_in, whole_of, object_in, own_of}

-- a step of seat n, with the view v, in a history, which found w, and a fact of the plain states
-- before and after it
pub record Happened (z : Shape) (ts : Terms) (n : ℕ) (v : CoreView) (a : Act) (w : ℕ)
    (Fact : Plain → Plain → Type 0) : Type 0 where
  pub shape : IsShape z
  pub terms : AreTerms z ts
  pub events : List Event
  pub before : Core
  pub history : History z ts events before
  pub view : v ≡ view_at before n
  pub enabled : Enabled z before n a
  pub found : w ≡ found z before n a
  pub fact : Fact (shows z before) (shows z (after z before n a))

-- what a plain step makes of the object in a slot: only a fill and a make change it
abbrev pub changed_object : PlainAct → SlotId → Object → Object
changed_object (plain.Fill x i word) s o =
    if is_slot x s then record o { payload = slice_set o.payload i word } else o
changed_object (plain.Make x) s o = if is_slot x s then record o { life = o.life + 1 } else o
changed_object a s o = o

-- the fields that a seat has left null, after its act: a swap in a ripe slot leaves one more, and with
-- a slot that is destroyed go its own
abbrev pub cleared_after : Act → CoreView → List EventPlace → List EventPlace
cleared_after (act.Swap p None) v ps = if is_ripe_field v p then p ∷ ps else ps
cleared_after (act.Swap p (Some s)) v ps = ps
cleared_after (act.Destroy s) v ps = without_fields s ps
cleared_after a v ps = ps

module _ {V : Type 0} where
  -- Whether a seat may make it is told by its own view. A destroy asks that the seat itself has left
  -- all fields of the slot null, and a leave is of two seats.
  abbrev pub IsOwn : Act → SeatView V → Type 0
  IsOwn (act.Destroy s) v = HasCleared v s
  IsOwn (act.Leave j) v = ⊥
  IsOwn a v = Unit {0}

  -- what it fills fits, if it is to start it
  abbrev pub FitsStart : (List ℕ → Type 0) → Act → SeatView V → Type 0
  FitsStart fits a v =
      a ≡ act.Start → (s : SlotId) → v.core.phase ≡ phase.Blank s → fits (object_in v s).payload

  -- what the seat knows of the whole core after its own step
  abbrev pub whole_after : Shape → Act → SeatView V → Option Whole
  whole_after z a v =
      option_map (λ all. whole_of (after z (core_in all) v.core.seat a)) v.whole

  -- The seat has made a step that found w. `next` and `allows` are the deed's. What its view tells
  -- is so before the step and after it, and so all payloads fit. The step's history goes on from all
  -- that had happened once the seat had made its last step before this one.
  pub record Told (fits : List ℕ → Type 0) (z : Shape) (ts : Terms)
      (next : OwnPart → OwnPart → V → PlainAct → ℕ → V)
      (allows : Plain → Plain → ℕ → V → V → Type 0) (a : Act) (v : SeatView V) (w : ℕ)
      (v' : SeatView V) : Type 0 where
    pub core : v'.core ≡ moved z a w v.core
    pub client :
        v'.client
        ≡ next (own_of v) (own_of v') v.client (shown_act z a w v.core) (shown_number a w)
    pub objects :
        (s : SlotId) → HasSlot (show_seat v.core) s
        → object_in v' s ≡ changed_object (shown_act z a w v.core) s (object_in v s)
    pub payloads : (s : SlotId) → length (object_in v' s).payload ≡ words_of_payload
    pub cleared : v'.cleared ≡ cleared_after a v.core v.cleared
    pub whole : v'.whole ≡ whole_after z a v
    pub opened : v'.opened ≡ v.opened
    pub left_adds : v'.left_adds ≡ v.left_adds
    pub left_makes : v'.left_makes ≡ v.left_makes
    pub here : v'.gone ≡ false
    pub law : SeatLaw z v.core.seat v'.core
    pub happened :
        Happened z ts v.core.seat v.core a w
        (λ p q. AllFit fits p × AllFit fits q × allows p q v.core.seat v.client v'.client)
    pub since : GoesOnFrom v.past happened.events
    pub past : v'.past ≡ record { seat = v.core.seat; act = a } ∷ happened.events
    pub said : IsTrueOf z happened.before v.core.seat v
    pub says : IsTrueOf z (after z happened.before v.core.seat a) v.core.seat v'
