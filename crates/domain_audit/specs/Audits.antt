-- What an audit tells a seat that is alone, and what it leaves of the seat.
use Rattle.std.specs.Prelude.{ℕ, ◌≡◌, List, [], ◌∷◌, IsSome}
use Rattle.plain_audit.specs.plain_state.declared.slot.Kind.TheVariants.{Strong}
use Rattle.plain_audit.specs.plain_state.declared.slot.SlotId.{SlotId}
use Rattle.plain_audit.specs.plain_state.Fits.{AllFit}
use Rattle.plain_audit.specs.plain_state.State.{Plain}
use Rattle.protected_loads.specs.core_events.declared.act.Act.TheVariants as act
use Rattle.protected_loads.specs.core_events.declared.outcome.Outcome.TheVariants as outcome
use Rattle.protected_loads.specs.core_events.declared.view.Move.{Move}
use Rattle.protected_loads.specs.core_events.Runs.{view_at}
use Rattle.protected_loads.specs.core_events.Shows.{shows}
use Rattle.protected_loads.specs.core_events.Words.{each_from}
use Rattle.protected_loads.specs.core_law.Sound.{Sound}
use Rattle.protected_loads.specs.domain_rule.declared.view.SeatView.{SeatView}
use Rattle.protected_loads.specs.domain_rule.Rule.{OthersLeft}
use Rattle.protected_loads.specs.acquire_retire.Calls.{IsSameView, same_view}
use Rattle.protected_loads.specs.acquire_retire.Collecting.{move}
use Rattle.protected_loads.specs.acquire_retire.Domains.{DomainState}
use Rattle.protected_loads.specs.acquire_retire.Seats.{SeatState}
use Rattle.protected_loads.specs.acquire_retire.Wholes.{KnowsState, known_core}
use Rattle.protected_loads.specs.control_word.Moves.{Becomes}
use Rattle.plain_audit.specs.heap_audit.declared.finding.Audit.{Audit}
use Rattle.plain_audit.specs.Audits.{IsAudit}
use Rattle.slot_store.specs.Leftovers.{HasNullCells}

-- the moves of a seat that announces a slot in its first word, and takes that back
abbrev pub there_and_back : SlotId → List Move
there_and_back s =
    move (act.Announce 0 Strong s) outcome.Plain ∷ move (act.Release 0) outcome.Plain ∷ []

module _ {P V : Type 0} (fits : List ℕ → Type 0) (d : DomainState P) where
  -- by these moves the seat's trail has grown, and it has what it had
  abbrev pub Stays : SeatState V → SeatState V → Type 0
  Stays old new =
      (s : SlotId) × Becomes fits d same_view IsSameView (there_and_back s) old.view.core old new

  -- What the view of the seat says is so of the core that it knows: seat 0 has this half of it, and
  -- every other seat has left. Events reach that core, and the payloads of its objects fit.
  pub record KnowsLone (seat : SeatState V) : Type 0 where
    pub known : IsSome seat.view.whole
    pub sound : Sound d.shape (known_core seat.view)
    pub half : seat.view.core ≡ view_at (known_core seat.view) 0
    pub others : OthersLeft (known_core seat.view)
    pub fit : AllFit fits (shows d.shape (known_core seat.view))

-- in the state p, which the seat knows, it holds nothing strongly, has deferred nothing, and all strong cells are null
abbrev pub HoldsNothing : {V : Type 0} → SeatView V → Plain → Type 0
HoldsNothing v p =
    (v.core.owned ≡ []) × (v.core.owed ≡ []) × (v.core.retired ≡ []) × HasNullCells p

-- each number below n, in its place
abbrev pub numbers : ℕ → List ℕ
numbers n = each_from 0 n (λ i. i)

module _ {V : Type 0} (fits : List ℕ → Type 0) (weight : List ℕ → ℕ) (ranks : List ℕ) where
  -- The audit finds this of the whole state, as the seat knows it. Where the seat holds nothing, all that live is
  -- unreached: so a walk is found exactly where something lives.
  pub record IsWholeAudit (v : SeatView V) (found : Audit) : Type 0 where
    pub state : Plain
    pub knows : KnowsState fits v state
    pub audit : IsAudit weight ranks state found
    pub left : HoldsNothing v state → found.cyclic ≡ found.live
