-- The views of seats: with what a seat begins, what becomes of a view where a seat leaves, and how often something is
-- noted or kept.
use Rattle.std.specs.Prelude.{◌≡◌, ◌⊎◌, ℕ, ◌+◌, Bool, ◌==◌, ◌&&◌, List, [], ◌∷◌, ◌++◌, slice_index_or, sum_by, if◌then◌else◌}
use Rattle.plain_protocol.specs.plain_state.declared.slot.SlotId.{SlotId}
use Rattle.plain_protocol.specs.plain_state.Lists.{is_slot}
use Rattle.directory_law.specs.Payloads.{Text}
pub use Rattle.directory_law.specs.declared.view.Note.{Note}
pub use Rattle.directory_law.specs.declared.view.Rope.{Rope}
pub use Rattle.directory_law.specs.declared.view.Seen.{Seen}
pub use Rattle.directory_law.specs.declared.view.Ran.{Ran}
pub use Rattle.directory_law.specs.declared.view.Led.{Led}
pub use Rattle.directory_law.specs.declared.view.View.{View}

abbrev pub note : SlotId → ℕ → Note
note s l = record { slot = s; life = l }

abbrev pub rope : SlotId → ℕ → Text → Rope
rope s l text = record { slot = s; life = l; text = text }

-- the view of a seat that has left
abbrev pub gone : View
gone = record {
  quota = 0;
  used = 0;
  noted = [];
  kept = [];
  seen = [];
  ended = [];
  ran = [];
  led = [];
}

abbrev pub view_at : List View → ℕ → View
view_at views n = slice_index_or views n gone

-- the view of seat 0 after a seat has left, from the views of the two: it takes over the interns, the notes and the
-- texts
abbrev pub joined : View → View → View
joined v w = record v {
  quota = v.quota + w.quota;
  used = v.used + w.used;
  noted = v.noted ++ w.noted;
  kept = v.kept ++ w.kept;
}

-- x stands in the list
abbrev pub In : {A : Type 0} → A → List A → Type 0
In x [] = ⊥
In x (y ∷ ys) = (x ≡ y) ⊎ In x ys

-- what holds of each member
abbrev pub Each : {A : Type 0} → (A → Type 0) → List A → Type 0
Each P [] = Unit {0}
Each P (x ∷ xs) = P x × Each P xs

-- the note is of this life of this slot
abbrev pub is_of : SlotId → ℕ → Rope → Bool
is_of s l e = is_slot s e.slot && (e.life == l)

unfoldable pub one_of : SlotId → ℕ → Rope → ℕ
one_of s l e = if is_of s l e then 1 else 0

-- how many notes are of this life of this slot
unfoldable pub times_of : SlotId → ℕ → List Rope → ℕ
times_of s l es = sum_by (one_of s l) es

-- the other notes
abbrev pub without : SlotId → ℕ → List Rope → List Rope
without s l [] = []
without s l (e ∷ es) = if is_of s l e then without s l es else e ∷ without s l es

-- a number read off each view, added up
unfoldable pub total : (View → ℕ) → List View → ℕ
total f views = sum_by f views

-- how often this life is noted as made and standing nowhere, and how often it is kept as put into a cell
abbrev pub fresh : List View → SlotId → ℕ → ℕ
fresh views s l = total (λ v. times_of s l v.noted) views

abbrev pub keeps : List View → SlotId → ℕ → ℕ
keeps views s l = total (λ v. times_of s l v.kept) views

-- a view keeps this text for this life
abbrev pub KeptIn : List View → SlotId → ℕ → Text → Type 0
KeptIn views s l text = (n : ℕ) × In (rope s l text) (view_at views n).kept
