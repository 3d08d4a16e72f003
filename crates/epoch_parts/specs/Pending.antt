-- What a seat keeps of its pending entries.
use Rattle.std.specs.Prelude.{ℕ, ◌+◌, ◌≤◌, List, [], ◌∷◌, ◌++◌, All}
use Rattle.epoch_core.specs.declared.act.Dated.{Dated}
use Rattle.epoch_core.specs.plain_state.declared.slot.Kind.TheVariants.{Strong}
use Rattle.epoch_core.specs.plain_state.Lists.{Entry}

-- some entries, and for how many more there is room
pub record Queue : Type 0 where
  pub entries : List Dated
  pub spare : ℕ

-- the lists of a seat, and for how many there is room
pub record Queues : Type 0 where
  pub queues : List Queue
  pub room : ℕ

-- the entries of all lists, one list after another
abbrev pub entries : List Queue → List Dated
entries [] = []
entries (q ∷ qs) = q.entries ++ entries qs

-- the room of the last list
abbrev pub spare : List Queue → ℕ
spare [] = 0
spare (q ∷ []) = q.spare
spare (q ∷ (p ∷ qs)) = spare (p ∷ qs)

-- no entry is dated later than one behind it
abbrev pub IsInOrder : List Dated → Type 0
IsInOrder [] = Unit {0}
IsInOrder (d ∷ ds) = All (λ (x : Dated). d.date ≤ x.date) ds × IsInOrder ds

-- a seat that knows this epoch may give up the entry
abbrev pub IsDueAt : ℕ → Dated → Type 0
IsDueAt known d = d.date + 2 ≤ known

-- a pending entry in the plain state, where it has no date: a strong decrement that is deferred
abbrev pub deferred_of : Dated → Entry
deferred_of d = (Strong, d.slot)
