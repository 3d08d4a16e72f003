-- What a flush does: it reads the epoch and all region words, and tries to advance the epoch; it gives up what is due;
-- and it destroys what has ended.
use Rattle.std.specs.Prelude.{ℕ, ◌≡◌, ◌+◌, ◌≤◌, ◌&&◌, Bool, true, false, nat_lt, All, List, [], ◌∷◌, ◌++◌, length, map, min, slice_index, ◌-◌, ◌^◌, Option}
use Rattle.std.specs.List.{list_all}
use Rattle.epoch_domain.specs.plain_protocol.plain_state.Limits.{words_of_payload}
use Rattle.epoch_domain.specs.plain_protocol.plain_state.declared.slot.SlotId.{SlotId}
use Rattle.epoch_domain.specs.epoch_core.core_events.Words.{each_from}
use Rattle.epoch_domain.specs.epoch_core.declared.act.Dated.{Dated}
use Rattle.epoch_domain.specs.epoch_core.declared.act.EpochAct.TheVariants as act
use Rattle.epoch_domain.specs.epoch_core.declared.outcome.EpochOutcome.{EpochOutcome}
use Rattle.epoch_domain.specs.epoch_core.declared.outcome.EpochOutcome.TheVariants as outcome
use Rattle.epoch_domain.specs.epoch_core.declared.view.EpochMove.{EpochMove}
use Rattle.epoch_domain.specs.epoch_core.declared.view.EpochView.{EpochView}
use Rattle.epoch_domain.specs.epoch_core.Steps.{IsDue, is_fit, swept}
use Rattle.epoch_domain.specs.epoch_core.Words.{last_epoch}
use Rattle.epoch_domain.specs.epoch_rule.Views.{object_in}
use Rattle.epoch_domain.specs.Calls.{IsSameView, Steps, same_view}
use Rattle.epoch_domain.specs.Domains.{DomainState}
use Rattle.epoch_domain.specs.Seats.{SeatState}
use Rattle.epoch_refs.specs.declared.flushing.EpochWork.{EpochWork}
use Rattle.epoch_refs.specs.Exchanges.{Dates, IsUnchanged}
use Rattle.epoch_refs.specs.Walks.{Walks, move}

-- the seat has what it had, but for what is pending and dying, the epoch that it knows, and its trail
abbrev pub IsFlushing : EpochView → EpochView → Type 0
IsFlushing v u =
    u ≡ record v {
      pending = u.pending;
      dying = u.dying;
      known = u.known;
      trail = u.trail;
    }

abbrev pub scans : List ℕ → List EpochMove
scans words = map (λ (w : ℕ). move act.Scan (outcome.Word w)) words

-- after these region words the epoch may advance
abbrev pub may_advance : ℕ → List ℕ → Bool
may_advance e words = list_all (is_fit e) words && nat_lt e last_epoch

-- the epoch is advanced, or found to be another one, where it may be
abbrev pub tries : Bool → EpochOutcome → List EpochMove
tries true o = move act.Advance o ∷ []
tries false o = []

module _ {P V : Type 0} (fits : List ℕ → Type 0) (d : DomainState P) where
  -- It has read these region words, in order.
  pub record Scans (words : List ℕ) (epoch : ℕ) (old new : SeatState V) : Type 0 where
    pub walks : Walks fits d (scans words) old new
    pub core :
        new.view.core
        ≡ record (swept d.shape epoch (length words) (list_all (is_fit epoch) words)
        old.view.core) {
          trail = new.view.core.trail;
        }

  -- It has read the epoch and each region word, and has tried to advance the epoch exactly where it may advance.
  pub record Sweeps (old new : SeatState V) : Type 0 where
    pub epoch : ℕ
    pub words : List ℕ
    pub answer : EpochOutcome
    pub all : length words ≡ d.shape.seats
    pub walks :
        Walks fits d
        (move act.Flush (outcome.Epoch epoch)
        ∷ (scans words ++ tries (may_advance epoch words) answer))
        old new
    pub core : IsFlushing old.view.core new.view.core
    pub pending : new.view.core.pending ≡ old.view.core.pending
    pub dying : new.view.core.dying ≡ old.view.core.dying

  -- By these events it has given up the references of so many entries, and none that is left is due.
  pub record Pays (paid : List (Dated × EpochOutcome)) (old new : SeatState V) : Type 0 where
    pub walks :
        Walks fits d
        (map (λ (p : Dated × EpochOutcome). move (act.Pay p.0) p.1) paid) old new
    pub core : IsFlushing old.view.core new.view.core
    pub known : new.view.core.known ≡ old.view.core.known
    pub fewer :
        length new.view.core.pending + length paid ≤ length old.view.core.pending
    pub dying :
        length new.view.core.dying ≤ length old.view.core.dying + length paid

-- none of the entries is due
abbrev pub NoneDue : EpochView → Type 0
NoneDue v = All (λ (x : Dated). IsDue x v → ⊥) v.pending

-- the moves that read all words of the payload of s
abbrev pub seen_by : SlotId → List ℕ → List EpochMove
seen_by s payload =
    each_from 0 words_of_payload (λ i. move (act.See s i) (outcome.Word (slice_index payload i)))

module _ {P V : Type 0} (fits : List ℕ → Type 0) (d : DomainState P) where
  -- It has left field i of a slot that it ended null, and what the field held is pending.
  pub record Clears (s : SlotId) (i : ℕ) (old new : SeatState V) : Type 0 where
    pub held : Option SlotId
    pub between : SeatState V
    pub clears : Steps fits d same_view IsSameView (act.Clear s i) old between (outcome.Found held)
    pub dates : Dates fits d held between new

  -- It has destroyed the object in s: it has left both fields null, read the payload, of which `answer` is the weight,
  -- and given the slot back.
  pub record Destroys (weight : List ℕ → ℕ) (answer : ℕ) (s : SlotId) (old new : SeatState V)
      : Type 0 where
    pub first : SeatState V
    pub second : SeatState V
    pub read : SeatState V
    pub payload : List ℕ
    pub clears_first : Clears s 0 old first
    pub clears_second : Clears s 1 first second
    pub sees : Walks fits d (seen_by s payload) second read
    pub frees : Steps fits d same_view IsSameView (act.Free s) read new outcome.Plain
    pub known : payload ≡ (object_in old.view s).payload
    pub weighs : answer ≡ weight payload

  -- it has destroyed these objects in turn, with these weights
  abbrev pub DestroysEach : (List ℕ → ℕ) → List (SlotId × ℕ) → SeatState V → SeatState V → Type 0
  DestroysEach weight [] old new = new ≡ old
  DestroysEach weight (x ∷ rest) old new =
      (mid : SeatState V) × Destroys weight x.1 x.0 old mid × DestroysEach weight rest mid new

-- their weights together
abbrev pub weights : List (SlotId × ℕ) → ℕ
weights [] = 0
weights (x ∷ ended) = x.1 + weights ended

-- What a flush did, with room that was taken before: it has swept, has given up all that was due, and has destroyed all
-- that had ended. `epoch` is the one that it knows in the end, `paid` counts the entries that it gave up, and `weight`
-- adds up the weights of the objects that it destroyed, both where they are below 2^64.
pub record Flushes {P V : Type 0} (fits : List ℕ → Type 0) (d : DomainState P)
    (weighs : List ℕ → ℕ) (work : EpochWork) (old new : SeatState V) : Type 0 where
  pub ready : SeatState V
  pub swept : SeatState V
  pub given : SeatState V
  pub entries : List (Dated × EpochOutcome)
  pub ended : List (SlotId × ℕ)
  pub reserved : IsUnchanged old ready
  pub sweeps : Sweeps fits d ready swept
  pub pays : Pays fits d entries swept given
  pub none_due : NoneDue given.view.core
  pub destroys : DestroysEach fits d weighs ended given new
  pub none_dying : length new.view.core.dying ≡ 0
  pub core : IsFlushing old.view.core new.view.core
  pub epoch : work.epoch ≡ new.view.core.known
  pub paid : work.paid ≡ min (length entries) (2 ^ 64 - 1)
  pub weight : work.weight ≡ min (weights ended) (2 ^ 64 - 1)
