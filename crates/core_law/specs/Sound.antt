-- The invariant, in the form in which each step keeps it: the laws of one slot are one law by its
-- stage, and an object lives where its strong word says so.
use Rattle.std.specs.Prelude.{ℕ, ◌≡◌, ◌+◌, ◌*◌, ◌<◌, length, List, slice_index, if◌then◌else◌}
use Rattle.core_events.specs.plain_state.declared.slot.Kind.{Kind}
use Rattle.core_events.specs.plain_state.declared.slot.Kind.TheVariants.{Strong, Weak, Disposal}
use Rattle.core_events.specs.plain_state.declared.slot.SlotId.{SlotId}
use Rattle.core_events.specs.plain_state.Lists.{times}
use Rattle.core_events.specs.declared.shape.Shape.{Shape}
use Rattle.core_events.specs.declared.view.Note.TheVariants as note
use Rattle.core_events.specs.Words.{strong_at, word_count}
use Rattle.core_events.specs.Views.{note_of}
use Rattle.core_events.specs.Runs.{Core, view_at, IsShape}
use Rattle.core_events.specs.Counts.{adds_used, places, total, guarding, is_live_word}
use Rattle.core_events.specs.Good.{SeatLaw, AreAnnounced, Room, ArePlacesInRange, TicketLaw, WordsFit}
use Rattle.core_law.specs.Slots.{numbers, SlotLaw}

-- what of the words keeps a snapshot of each kind valid: places that hold the slot, or that its object lives
abbrev pub covering : Kind → Shape → List ℕ → SlotId → ℕ
covering Strong z ws s = places Strong z ws s
covering Weak z ws s = places Weak z ws s
covering Disposal z ws s = if is_live_word (slice_index ws (strong_at z s)) then 1 else 0

-- what is under a valid note is covered by the words, or by what a seat has that no scan has passed by
abbrev pub AreGuarded : Shape → Core → Type 0
AreGuarded z c =
    (n j : ℕ) (k : Kind) (s : SlotId) → n < length c.views → j < 4
    → note_of (view_at c n) j ≡ note.Valid k s
    → 0 < covering k z c.words s + total (guarding (4 * n + j) k s) c.views

-- what is under a weak snapshot is ripe for nobody
abbrev pub AreUnripe : Core → Type 0
AreUnripe c =
    (n j : ℕ) (s : SlotId) → n < length c.views → j < 4
    → note_of (view_at c n) j ≡ note.Valid Disposal s
    → total (λ v. times s v.ripe) c.views ≡ 0

pub record Sound (z : Shape) (c : Core) : Type 0 where
  pub shape : IsShape z
  pub words : length c.words ≡ word_count z
  pub views : length c.views ≡ z.seats
  pub seats : (n : ℕ) → n < z.seats → SeatLaw z n (view_at c n)
  pub slots : (s : SlotId) → s.0 < z.slots → SlotLaw (adds_used c) (numbers z c s)
  pub announced : AreAnnounced c
  pub guarded : AreGuarded z c
  pub unripe : AreUnripe c
  pub room : Room z c
  pub range : ArePlacesInRange z c
  pub tickets : TicketLaw z c
  pub fit : WordsFit z c
