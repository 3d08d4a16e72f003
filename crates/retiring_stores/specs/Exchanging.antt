-- What a seat does to a place, and what becomes of it.
use Rattle.std.specs.Prelude.{ℕ, ◌≡◌, ◌≢◌, List, [], ◌∷◌, ◌++◌, Option}
use Rattle.control_word.specs.plain_state.declared.act.EventPlace.{EventPlace}
use Rattle.control_word.specs.plain_state.declared.act.PlainAct.{PlainAct}
use Rattle.control_word.specs.plain_state.declared.act.PlainAct.TheVariants as plain
use Rattle.control_word.specs.plain_state.declared.slot.Kind.{Kind}
use Rattle.control_word.specs.plain_state.declared.slot.SlotId.{SlotId}
use Rattle.control_word.specs.plain_state.Places.{content, place_kind}
use Rattle.control_word.specs.plain_state.State.{Plain}
use Rattle.control_word.specs.plain_state.Steps.{joined, word_of}
use Rattle.control_word.specs.plain_protocol.Owns.{OwnPart}
use Rattle.control_word.specs.core_events.declared.act.Act.TheVariants as act
use Rattle.control_word.specs.core_events.declared.outcome.Outcome.TheVariants as outcome
use Rattle.control_word.specs.core_events.declared.view.CoreView.{CoreView}
use Rattle.control_word.specs.core_events.declared.view.Move.{Move}
use Rattle.control_word.specs.core_events.Runs.{after}
use Rattle.control_word.specs.core_events.Shows.{shows}
use Rattle.control_word.specs.core_events.ShownSteps.{shown_act}
use Rattle.control_word.specs.core_events.Steps.{without_given}
use Rattle.control_word.specs.domain_rule.Told.{cleared_after}
use Rattle.control_word.specs.acquire_retire.Calls.{Steps}
use Rattle.control_word.specs.acquire_retire.Collecting.{move, rest_of}
use Rattle.control_word.specs.acquire_retire.Domains.{DomainState}
use Rattle.control_word.specs.acquire_retire.Seats.{SeatState}
use Rattle.control_word.specs.Moves.{Becomes, last_core}
use Rattle.retiring_stores.specs.Scanning.{ScansWhereDue}

-- what a seat has, but for its trail, once it has put `given` into a place of kind k that held
-- `held`: it gives the one, and retires the other
abbrev pub with_exchanged : Kind → Option SlotId → Option SlotId → CoreView → CoreView
with_exchanged k given held v =
    record (without_given k given v) { retired = joined k held v.retired }

-- the plain state before a step, and after it
abbrev pub shown_before : {P V : Type 0} {fits : List ℕ → Type 0} {d : DomainState P}
    {next : OwnPart → OwnPart → V → PlainAct → ℕ → V}
    {allows : Plain → Plain → ℕ → V → V → Type 0} {m : Move} {old new : SeatState V}
    → Steps fits d next allows m.act old new m.outcome → Plain
shown_before {d = d} step = shows d.shape step.told.happened.before

abbrev pub shown_after : {P V : Type 0} {fits : List ℕ → Type 0} {d : DomainState P}
    {next : OwnPart → OwnPart → V → PlainAct → ℕ → V}
    {allows : Plain → Plain → ℕ → V → V → Type 0} {m : Move} {old new : SeatState V}
    → Steps fits d next allows m.act old new m.outcome → Plain
shown_after {d = d} {m = m} {old = old} step =
    shows d.shape (after d.shape step.told.happened.before old.view.core.seat m.act)

module _ {P V : Type 0} (fits : List ℕ → Type 0) (d : DomainState P)
    (next : OwnPart → OwnPart → V → PlainAct → ℕ → V)
    (allows : Plain → Plain → ℕ → V → V → Type 0) (p : EventPlace) where
  -- By this move with the deed the seat put `given` into the place, which held `held`.
  pub record Puts (m : Move) (given held : Option SlotId) (old new : SeatState V) : Type 0 where
    pub step : Steps fits d next allows m.act old new m.outcome
    pub shows_held : content (shown_before step) p ≡ held
    pub shows_given : content (shown_after step) p ≡ given
    pub core :
        new.view.core
        ≡ record (with_exchanged (place_kind p) given held old.view.core) {
          trail = old.view.core.trail ++ m ∷ [];
        }
    pub cleared : new.view.cleared ≡ cleared_after m.act old.view.core old.view.cleared

  -- It did so, and then scanned where that was due. It has given what it gave, and what it has
  -- beside its batch and its dying and ripe slots is as it was.
  pub record Exchanges (m : Move) (given held : Option SlotId) (old new : SeatState V)
      : Type 0 where
    pub mid : SeatState V
    pub puts : Puts m given held old mid
    pub scans : ScansWhereDue fits d mid new
    pub same :
        rest_of new.view.core ≡ rest_of (without_given (place_kind p) given old.view.core)
    pub client : new.view.client ≡ mid.view.client
    pub cleared : new.view.cleared ≡ mid.view.cleared

  -- by an exchange, whatever the place held
  abbrev pub Swaps : Option SlotId → Option SlotId → SeatState V → SeatState V → Type 0
  Swaps given held = Exchanges (move (act.Swap p given) (outcome.Found held)) given held

  -- by a compare and exchange that found what was expected
  abbrev pub Replaces : Option SlotId → Option SlotId → SeatState V → SeatState V → Type 0
  Replaces given expected =
      Exchanges (move (act.Cas p expected given) outcome.Done) given expected

  -- The place was open to the seat, which exchanged what it held. The plain state shows a replace,
  -- and the seat has left the same fields null as before.
  pub record Stores (given : Option SlotId) (old new : SeatState V) : Type 0 where
    pub held : Option SlotId
    pub swaps : Swaps given held old new
    pub is_replace :
        (w : ℕ) → shown_act d.shape (act.Swap p given) w old.view.core ≡ plain.Replace p given
    pub cleared : new.view.cleared ≡ old.view.cleared

  -- Its compare and exchange found something else. Only its trail has grown.
  pub record Loses (given expected found : Option SlotId) (old new : SeatState V) : Type 0 where
    pub becomes :
        Becomes fits d next allows (move (act.Cas p expected given) (outcome.LostTo found) ∷ [])
        old.view.core old new
    pub shows_found : content (shows d.shape (last_core becomes)) p ≡ found
    pub other : found ≢ expected

  -- so its answer tells, by the word that the place held
  pub record LosesTo (given expected : Option SlotId) (now : ℕ) (old new : SeatState V)
      : Type 0 where
    pub found : Option SlotId
    pub loses : Loses given expected found old new
    pub word : now ≡ word_of found
