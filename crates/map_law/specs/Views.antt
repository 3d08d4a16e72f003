-- The views of seats, what becomes of a view where a seat leaves, and how often a node is noted as raw.
use Rattle.std.specs.Prelude.{◌≡◌, ◌⊎◌, ℕ, Bool, true, false, ◌==◌, ◌&&◌, List, [], ◌∷◌, ◌++◌, slice_index_or, sum_by, if◌then◌else◌}
use Rattle.plain_protocol.specs.plain_state.declared.slot.SlotId.{SlotId}
use Rattle.plain_protocol.specs.plain_state.Lists.{is_slot}
pub use Rattle.map_law.specs.declared.view.Note.{Note}
pub use Rattle.map_law.specs.declared.view.Kid.{Kid}
pub use Rattle.map_law.specs.declared.view.Raw.{Raw}
pub use Rattle.map_law.specs.declared.view.Led.{Led}
pub use Rattle.map_law.specs.declared.view.Shown.{Shown}
pub use Rattle.map_law.specs.declared.view.View.{View}

-- the view of a seat that has left
abbrev pub gone : View
gone = record {
  number = 0;
  here = false;
  raw = [];
  solid = [];
  led = [];
  shown = [];
  entries = [];
  cleared = false;
}

-- the view with which a seat begins
abbrev pub first_view : ℕ → View
first_view n = record gone { number = n; here = true }

-- where a seat leaves, seat 0 takes over its entries, and its raw nodes
abbrev pub joined : View → View → View
joined v w = record v { raw = v.raw ++ w.raw; entries = v.entries ++ w.entries }

abbrev pub view_at : List View → ℕ → View
view_at views n = slice_index_or views n gone

-- x is one of a list, and all of a list have a property
abbrev pub In : {A : Type 0} → A → List A → Type 0
In x [] = ⊥
In x (y ∷ ys) = (x ≡ y) ⊎ In x ys

abbrev pub Each : {A : Type 0} → (A → Type 0) → List A → Type 0
Each P [] = Unit {0}
Each P (x ∷ xs) = P x × Each P xs

-- a life of a slot, and a node in a life
abbrev pub note : SlotId → ℕ → Note
note s l = record { slot = s; life = l }

abbrev pub kid : SlotId → ℕ → List ℕ → Kid
kid s l payload = record { slot = s; life = l; payload = payload }

-- the note is of this life
abbrev pub is_raw : SlotId → ℕ → Raw → Bool
is_raw s l e = is_slot s e.slot && (e.life == l)

-- how often a life is noted as raw, in one note, in one list and in all views
unfoldable pub raw_one : SlotId → ℕ → Raw → ℕ
raw_one s l e = if is_raw s l e then 1 else 0

unfoldable pub raw_times : SlotId → ℕ → List Raw → ℕ
raw_times s l es = sum_by (raw_one s l) es

unfoldable pub total : (View → ℕ) → List View → ℕ
total f views = sum_by f views

abbrev pub fresh : List View → SlotId → ℕ → ℕ
fresh views s l = total (λ v. raw_times s l v.raw) views

-- the notes of other lives
abbrev pub without : SlotId → ℕ → List Raw → List Raw
without s l [] = []
without s l (e ∷ es) = if is_raw s l e then without s l es else e ∷ without s l es
