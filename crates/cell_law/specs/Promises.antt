-- What the law promises, read off the plain state and the views.
use Rattle.std.specs.Prelude.{◌≡◌, ◌≢◌, ◌⊎◌, ℕ, ◌+◌, ◌<◌, ◌≤◌, List, ◌++◌, Some}
use Rattle.plain_protocol.specs.plain_state.declared.slot.Kind.TheVariants.{Strong}
use Rattle.plain_protocol.specs.plain_state.declared.slot.SlotId.{SlotId}
use Rattle.plain_protocol.specs.plain_state.declared.slot.Stage.TheVariants.{Live, Ended}
use Rattle.plain_protocol.specs.plain_state.Fits.{AllFit}
use Rattle.plain_protocol.specs.plain_state.Lists.{times, cell_times}
use Rattle.plain_protocol.specs.plain_state.References.{deferrals, over_seats, strong_refs}
use Rattle.plain_protocol.specs.plain_state.State.{Plain, slot_at, stage_at}
use Rattle.plain_protocol.specs.Owns.{own_part}
use Rattle.directory_law.specs.declared.view.Rope.{Rope}
use Rattle.directory_law.specs.Payloads.{Text, IsText}
use Rattle.directory_law.specs.Bytes.{IsPiece}
use Rattle.directory_law.specs.Views.{In, rope}
use Rattle.directory_law.specs.Chains.{Reads}
use Rattle.directory_law.specs.Cells.{Area}
use Rattle.directory_law.specs.Promises.{Reaches}
use Rattle.cell_law.specs.Views.{Sight, View, AreDistinct, BoundIn, all_bound, bound_in, texts_of, words_of, IsWord}
use Rattle.cell_law.specs.Cells.{cell, IsOnWay, IsRecord, NoRecord}
use Rattle.cell_law.specs.Walks.{payloads}
use Rattle.cell_law.specs.Lessons.{first_of}

-- what stands in cells is what views list as bound: each set cell has a record of one listed text, on that text's way;
-- each listed head stands in a cell, in its life, as the record of its text; different cells have different texts
pub record CellsAreBound (z : Area) (p : Plain) (views : List View) : Type 0 where
  pub set : (c : ℕ) (s : SlotId) → c < z.cells → cell z p c ≡ Some s
      → (text : Text) × BoundIn views s (slot_at p s).life text × IsRecord z p text s
      × IsOnWay z p text c
  pub stands : (s : SlotId) (l : ℕ) (text : Text) → BoundIn views s l text
      → (c : ℕ) × (c < z.cells) × (cell z p c ≡ Some s) × ((slot_at p s).life ≡ l)
      × IsRecord z p text s
  pub apart : (c d : ℕ) (s r : SlotId) (text : Text) → c < z.cells → d < z.cells
      → cell z p c ≡ Some s → cell z p d ≡ Some r → IsRecord z p text s → IsRecord z p text r
      → c ≡ d

-- the view of seat 0 lists all heads that were bound, no two with one text, or one word; and those that were found are
-- among them
pub record KnowsAll (views : List View) (root : View) : Type 0 where
  pub all : all_bound views ≡ bound_in root
  pub listed : (s : SlotId) (l : ℕ) (text : Text) → BoundIn views s l text
      → In (rope s l text) (bound_in root)
  pub distinct : AreDistinct (texts_of (bound_in root))
  pub words : AreDistinct (words_of (bound_in root))
  pub found : (e : Rope) → In e root.found → In e (bound_in root)

-- the record of which seat n saw these slots in a cell, and has them: the payloads begin its text, and are all of it
-- where they are a text
pub record SeenRecord (z : Area) (p : Plain) (n : ℕ) (e : Sight) : Type 0 where
  pub stands : cell z p e.cell ≡ Some (first_of e.slots)
  pub text : Text
  pub is : IsRecord z p text (first_of e.slots)
  pub rest : Text
  pub begins : text ≡ payloads (own_part p n) e.slots ++ rest
  pub whole : IsText (payloads (own_part p n) e.slots)
      → text ≡ payloads (own_part p n) e.slots

-- no cell holds a record of the text, and no view lists it
pub record IsAbsent (z : Area) (p : Plain) (views : List View) (text : Text) : Type 0 where
  pub record_of : NoRecord z p text
  pub unlisted : (s : SlotId) (l : ℕ) → ¬ (BoundIn views s l text)

-- a head that is listed has its text, as long as it lives in its life
pub record KeepsText (p : Plain) (s : SlotId) (l : ℕ) (text : Text) : Type 0 where
  pub is : IsWord text
  pub began : l ≤ (slot_at p s).life
  pub reads : (slot_at p s).life ≡ l → stage_at p s ≡ Live → Reads p s text

-- how often seats own s
abbrev pub owned_times : Plain → SlotId → ℕ
owned_times p s = over_seats (λ v. times s v.owned) p.seats

-- the references to a head are those that seats own, that of a cell, and those that are deferred: no field holds one
abbrev pub HeldByCells : Plain → SlotId → Type 0
HeldByCells p s =
    strong_refs p s
    ≡ owned_times p s + cell_times s p.cells + deferrals Strong p s

-- the state is settled: no cell holds anything, nothing is deferred, and what has ended is destroyed; what lives has a
-- reference, and all objects are heads and parts
pub record IsSettled (p : Plain) : Type 0 where
  pub fit : AllFit IsPiece p
  pub cells : (s : SlotId) → cell_times s p.cells ≡ 0
  pub deferred : (s : SlotId) → deferrals Strong p s ≡ 0
  pub ended : (s : SlotId) → stage_at p s ≢ Ended
  pub held : (s : SlotId) → stage_at p s ≡ Live → 0 < strong_refs p s

-- t lives and is owned, and s is t or stands behind it along field 1
pub record IsOwnedBehind (p : Plain) (s : SlotId) : Type 0 where
  pub head : SlotId
  pub live : stage_at p head ≡ Live
  pub owned : 0 < owned_times p head
  pub behind : (head ≡ s) ⊎ ((n : ℕ) × Reaches p head s n)
