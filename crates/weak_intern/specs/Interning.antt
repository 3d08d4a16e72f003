-- What an intern does, and what it adds to the view of its seat.
use Rattle.std.specs.Prelude.{Bool, true, false, ◌≡◌, ◌⊎◌, ◌+◌, ◌<◌, ℕ, List, Option, Some, None, Result, Ok, Err}
use Rattle.atomic_weak.specs.plain_state.declared.slot.SlotId.{SlotId}
use Rattle.atomic_weak.specs.acquire_retire.Domains.{DomainState}
use Rattle.atomic_weak.specs.acquire_retire.Seats.{SeatState}
use Rattle.atomic_weak.specs.counted_handles.Handles.{Handle}
use Rattle.record_making.specs.directory_law.declared.view.Note.{Note}
use Rattle.record_making.specs.directory_law.declared.view.Seen.{Seen}
use Rattle.record_making.specs.directory_law.declared.view.Ran.{Ran}
use Rattle.record_making.specs.directory_law.declared.view.Led.{Led}
use Rattle.record_making.specs.directory_law.declared.view.View.{View}
use Rattle.record_making.specs.directory_law.Cells.{Area, on}
use Rattle.record_making.specs.directory_law.Law.{IsBound}
use Rattle.record_making.specs.directory_law.Making.{bound}
use Rattle.record_making.specs.directory_law.Views.{In}
use Rattle.record_making.specs.directory_law.Payloads.{Text}
use Rattle.record_making.specs.directory_law.Walks.{Walked}
use Rattle.record_making.specs.directory_protocol.Keeping.{KeepsAll}
use Rattle.record_making.specs.directory_calls.Directories.{IsRecord}
use Rattle.record_making.specs.Making.{candidate_in}
use Rattle.record_making.specs.directory_calls.Steps.{AfterStep, AtStep}

-- the walk of a text has passed some cells, and comes to cell c then
abbrev pub ComesBy : Area → View → Text → ℕ → Type 0
ComesBy z v text c = (m : ℕ) × Walked z v text m × (on z text m ≡ c)

-- where s was put into a cell, it was the live record of this text after a step, and is kept; else
-- the view is as it was
abbrev pub Binds : {P V : Type 0} → (V → View) → (V → View → V) → DomainState P → Area → Text
    → SlotId → Bool → SeatState V → SeatState V → Type 0
Binds seen with_seen d z text s true old new =
    AfterStep d (λ q. IsBound z q text s) old new
    × (new.view.client
    ≡ with_seen old.view.client (bound (candidate_in s text old) (seen old.view.client)))
Binds seen with_seen d z text s false old new = new.view.client ≡ old.view.client

-- the walk of a text has passed so many cells, fewer than all
abbrev pub HasPassed : Area → View → Text → ℕ → Type 0
HasPassed z v text passed = (passed < z.cells) × Walked z v text passed

-- s was the live record of this text before a step of the call, or after one
abbrev pub Places : {P V : Type 0} → DomainState P → Area → Text → SlotId → SeatState V
    → SeatState V → Type 0
Places d z text s old new =
    AtStep d (λ p. IsBound z p text s) old new
    ⊎ AfterStep d (λ q. IsBound z q text s) old new

-- the slot of the record that was found, or else this one
abbrev pub named_or : SlotId → Option Handle → SlotId
named_or s None = s
named_or s (Some strong) = strong.slot

-- s was the live record of these bytes before a step of the call, or after one
abbrev pub Interns : {P V : Type 0} → DomainState P → Area → List ℕ → SlotId → SeatState V
    → SeatState V → Type 0
Interns d z bytes s old new =
    AtStep d (λ p. IsRecord z p bytes s) old new ⊎ AfterStep d (λ q. IsRecord z q bytes s) old new

-- The seat has learnt more, keeps all that it kept, and has used n interns more.
pub record Grows (n : ℕ) (v w : View) : Type 0 where
  pub seen : (e : Seen) → In e v.seen → In e w.seen
  pub ended : (e : Note) → In e v.ended → In e w.ended
  pub ran : (e : Ran) → In e v.ran → In e w.ran
  pub led : (e : Led) → In e v.led → In e w.led
  pub quota : w.quota ≡ v.quota
  pub used : w.used ≡ v.used + n
  pub kept : KeepsAll v w

-- the same of a view that has the directory's as a part
pub record GrowsIn {V : Type 0} (seen : V → View) (with_seen : V → View → V) (n : ℕ) (v w : V)
    : Type 0 where
  pub part : Grows n (seen v) (seen w)
  pub rest : w ≡ with_seen v (seen w)

-- an intern is used where a record is answered
abbrev pub interned_by : {E : Type 0} → Result Handle E → ℕ
interned_by (Ok strong) = 1
interned_by (Err error) = 0

-- the record of another call that was met instead of a bind
abbrev pub placed_by : {E : Type 0} → Result (Option Handle) E → ℕ
placed_by (Ok found) = 1
placed_by (Err error) = 0
