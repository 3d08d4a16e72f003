-- What a collect does, move by move, and what it leaves.
use Rattle.std.specs.Prelude.{ℕ, ◌≡◌, ◌+◌, ◌*◌, ◌≤◌, Bool, true, false, List, [], ◌∷◌, ◌++◌, length, map, flat_map, count_by}
use Rattle.plain_state.specs.declared.act.PlainAct.{PlainAct}
use Rattle.plain_state.specs.State.{Plain}
use Rattle.domain_rule.specs.plain_protocol.Owns.{OwnPart}
use Rattle.core_promises.specs.core_events.declared.act.Act.{Act}
use Rattle.core_promises.specs.core_events.declared.act.Act.TheVariants as act
use Rattle.core_promises.specs.core_events.declared.outcome.Outcome.{Outcome}
use Rattle.core_promises.specs.core_events.declared.outcome.Outcome.TheVariants as outcome
use Rattle.core_promises.specs.core_events.declared.view.CoreView.{CoreView}
use Rattle.core_promises.specs.core_events.declared.view.Move.{Move}
use Rattle.core_promises.specs.core_events.declared.view.Phase.TheVariants as phase
use Rattle.core_promises.specs.core_events.Steps.{IsIdle, May}
use Rattle.core_promises.specs.core_events.Words.{announcements}
use Rattle.domain_rule.specs.declared.view.SeatView.{SeatView}
use Rattle.acquire_retire.specs.declared.payment.Payment.{Payment}
use Rattle.acquire_retire.specs.declared.payment.Payment.TheVariants as payment
use Rattle.acquire_retire.specs.declared.payment.Work.{Work}
use Rattle.acquire_retire.specs.Calls.{IsSameView, Steps, same_view}
use Rattle.acquire_retire.specs.Domains.{DomainState}
use Rattle.acquire_retire.specs.Seats.{SeatState}

-- an act, and what it answered
abbrev pub move : Act → Outcome → Move
move a o = record { act = a; outcome = o }

-- the moves that read these announcement words, of which none is the last
abbrev pub read_by : List ℕ → List Move
read_by seen = map (λ w. move act.Scan (outcome.Word w)) seen

-- the moves of a whole scan: the words seen, then the last one, and how many entries stay and go
abbrev pub scanned_by : List ℕ → ℕ → ℕ → ℕ → List Move
scanned_by seen last stay go = read_by seen ++ move act.Scan (outcome.Split last stay go) ∷ []

-- the moves of a payment
abbrev pub paid_by : Payment → List Move
paid_by payment.Left = move act.Pay outcome.Left ∷ []
paid_by payment.Ended = move act.Pay outcome.Zeroed ∷ move act.Finish outcome.Ended ∷ []
paid_by payment.Lost = move act.Pay outcome.Zeroed ∷ move act.Finish outcome.Lost ∷ []
paid_by payment.Helped =
    move act.Pay outcome.Zeroed ∷ move act.Finish outcome.Help ∷ move act.Take outcome.Ended ∷ []
paid_by payment.NoHelp =
    move act.Pay outcome.Zeroed ∷ move act.Finish outcome.Help ∷ move act.Take outcome.NoHelp ∷ []
paid_by payment.Freed = move act.Pay outcome.Last ∷ move act.Free outcome.Plain ∷ []

-- the payment ended an object
abbrev pub ends : Payment → Bool
ends payment.Left = false
ends payment.Ended = true
ends payment.Lost = false
ends payment.Helped = true
ends payment.NoHelp = false
ends payment.Freed = false

-- all that a seat has but its batch, its dying and ripe slots, what it is in the middle of, and its trail
abbrev pub rest_of : CoreView → CoreView
rest_of v =
    record v {
      retired = [];
      owed = [];
      dying = [];
      ripe = [];
      phase = phase.Idle;
      seen = [];
      trail = [];
    }

-- these moves, in turn and each with this deed, lead from one state of a seat to another
abbrev pub WalksBy : {P V : Type 0} → (List ℕ → Type 0) → DomainState P
    → (OwnPart → OwnPart → V → PlainAct → ℕ → V) → (Plain → Plain → ℕ → V → V → Type 0)
    → List Move → SeatState V → SeatState V → Type 0
WalksBy fits d next allows [] old new = new ≡ old
WalksBy {V = V} fits d next allows (m ∷ ms) old new =
    (mid : SeatState V) × Steps fits d next allows m.act old mid m.outcome
    × WalksBy fits d next allows ms mid new

-- What a view has beside its core, the objects of its slots and the client's view is as it was.
pub record IsBeside {V : Type 0} (v new : SeatView V) : Type 0 where
  pub cleared : new.cleared ≡ v.cleared
  pub opened : new.opened ≡ v.opened
  pub left_adds : new.left_adds ≡ v.left_adds
  pub left_makes : new.left_makes ≡ v.left_makes

module _ {P V : Type 0} (fits : List ℕ → Type 0) where
  -- the same without a deed
  abbrev pub Walks : DomainState P → List Move → SeatState V → SeatState V → Type 0
  Walks d = WalksBy fits d same_view IsSameView

  -- and the rest of what the seat has, and the client's view, stay as they are; these moves come last in its trail
  pub record Goes (d : DomainState P) (ms : List Move) (old new : SeatState V) : Type 0 where
    pub walks : Walks d ms old new
    pub rest : rest_of new.view.core ≡ rest_of old.view.core
    pub client : new.view.client ≡ old.view.client
    pub beside : IsBeside old.view new.view
    pub trail : new.view.core.trail ≡ old.view.core.trail ++ ms

  -- the seat has read these announcement words, and may read on
  pub record Reads (d : DomainState P) (seen : List ℕ) (old new : SeatState V) : Type 0 where
    pub goes : Goes d (read_by seen) old new
    pub reads : new.view.core.seen ≡ seen
    pub may : May d.shape act.Scan new.view.core
    pub retired : new.view.core.retired ≡ old.view.core.retired

  abbrev pub ReadsAllButOne : DomainState P → SeatState V → SeatState V → Type 0
  ReadsAllButOne d old new =
      (seen : List ℕ) × (length seen + 1 ≡ announcements d.shape) × Reads d seen old new

  -- the seat has made a whole scan, by which so many retired entries became owed
  pub record Splits (d : DomainState P) (old new : SeatState V) (go : ℕ) : Type 0 where
    pub seen : List ℕ
    pub last : ℕ
    pub all : length seen + 1 ≡ announcements d.shape
    pub goes : Goes d (scanned_by seen last (length new.view.core.retired) go) old new
    pub idle : IsIdle new.view.core
    pub owed : length new.view.core.owed ≡ go
    pub retired : length new.view.core.retired + go ≡ length old.view.core.retired
    pub few : length new.view.core.retired ≤ announcements d.shape

  -- the seat has made these payments, each for the first entry that it owed then
  pub record Pays (d : DomainState P) (payments : List Payment) (old new : SeatState V)
      : Type 0 where
    pub goes : Goes d (flat_map paid_by payments) old new
    pub idle : IsIdle new.view.core
    pub owed : length new.view.core.owed + length payments ≡ length old.view.core.owed
    pub retired : new.view.core.retired ≡ old.view.core.retired

  -- it has paid for that many entries, and that many objects ended
  abbrev pub PaysFor : DomainState P → SeatState V → SeatState V → ℕ → ℕ → Type 0
  PaysFor d old new owed ended =
      (payments : List Payment) × Pays d payments old new × (length payments ≡ owed)
      × (ended ≡ count_by ends payments)

  -- The seat has read all announcement words, those seen and then the last one, and has paid for
  -- each entry that no longer stays. It is idle then, and owes nothing. No more entries stay than
  -- there are announcement words, so there is room for more. It takes a step for each of these words,
  -- and at most three for each entry that was retired.
  pub record Collects (d : DomainState P) (old new : SeatState V) (work : Work) : Type 0 where
    pub seen : List ℕ
    pub last : ℕ
    pub payments : List Payment
    pub all : length seen + 1 ≡ announcements d.shape
    pub goes :
        Goes d
        (scanned_by seen last (length new.view.core.retired) (length payments)
        ++ flat_map paid_by payments)
        old new
    pub did :
        work
        ≡ record {
          scanned = announcements d.shape;
          ejected = length payments;
          ended = count_by ends payments;
        }
    pub idle : IsIdle new.view.core
    pub owes_nothing : new.view.core.owed ≡ []
    pub retired : length new.view.core.retired + length payments ≡ length old.view.core.retired
    pub few : length new.view.core.retired ≤ announcements d.shape
    pub moves :
        announcements d.shape + length (flat_map paid_by payments)
        ≤ announcements d.shape + 3 * length old.view.core.retired
