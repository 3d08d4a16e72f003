-- A state at rest, of which seat 0 alone has anything: nothing waits in it, and what lives is referred to.
use Rattle.std.specs.Prelude.{◌≡◌, ℕ, ◌<◌, List, [], None}
use Rattle.plain_audit.specs.plain_state.declared.act.EventPlace.TheVariants.{Cell}
use Rattle.plain_audit.specs.plain_state.declared.slot.SlotId.{SlotId}
use Rattle.plain_audit.specs.plain_state.declared.slot.Stage.TheVariants.{Live}
use Rattle.plain_audit.specs.plain_state.Lists.{times}
use Rattle.plain_audit.specs.plain_state.Places.{content}
use Rattle.plain_audit.specs.plain_state.References.{strong_refs}
use Rattle.plain_audit.specs.plain_state.State.{Plain, PlainSeat, seat_at, slot_at, stage_at}
use Rattle.words_law.specs.directory_law.declared.view.View.{View as DirectoryView}
use Rattle.words_law.specs.directory_law.Payloads.{Text}
use Rattle.words_law.specs.directory_law.Views.{KeptIn}
use Rattle.words_law.specs.Views.{View, directories}

-- the seat has nothing deferred, is under no snapshot, has nothing dying, fills no slot, and owns nothing weakly
pub record IsQuiet (v : PlainSeat) : Type 0 where
  pub deferred : v.deferred ≡ []
  pub snapshots : v.snapshots ≡ []
  pub dying : v.dying ≡ []
  pub filling : v.filling ≡ None
  pub weaks : v.weaks ≡ []

-- each seat is so, and each object that lives has a strong reference
pub record Rests (p : Plain) : Type 0 where
  pub seats : (n : ℕ) → IsQuiet (seat_at p n)
  pub live : (s : SlotId) → stage_at p s ≡ Live → 0 < strong_refs p s

-- all strong cells are null
abbrev pub HasNullCells : Plain → Type 0
HasNullCells p = (i : ℕ) → content p (Cell i) ≡ None

-- seat 0 alone owns anything, and what it owns are heads: a view keeps a text for each, in the life that it is in
pub record OwnsHeads (p : Plain) (views : List DirectoryView) : Type 0 where
  pub heads : (s : SlotId) → 0 < times s (seat_at p 0).owned
      → (text : Text) × KeptIn views s (slot_at p s).life text
  pub others : (n : ℕ) → 0 < n → (seat_at p n).owned ≡ []

-- what is left of a queue and a directory once seat 0 is alone with them, the queue is shut, and all has settled
pub record IsLeft (p : Plain) (views : List View) : Type 0 where
  pub rests : Rests p
  pub cells : HasNullCells p
  pub owns : OwnsHeads p (directories views)
