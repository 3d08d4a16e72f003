-- The views of seats: with what a seat begins, what becomes of a view where a seat leaves, which texts are bound, and
-- how many may be.
use Rattle.std.specs.Prelude.{◌≡◌, ◌≢◌, ℕ, ◌+◌, ◌<◌, false, List, [], ◌∷◌, ◌++◌, length, map, slice_index_or, sum_by}
use Rattle.std.specs.List.{flat_map}
use Rattle.plain_protocol.specs.plain_state.declared.slot.SlotId.{SlotId}
use Rattle.directory_law.specs.declared.view.Rope.{Rope}
use Rattle.directory_law.specs.declared.view.View.{View as DirectoryView}
use Rattle.directory_law.specs.Bytes.{AreBytes, IsTextOf, text_bytes}
use Rattle.directory_law.specs.Payloads.{Text}
use Rattle.directory_law.specs.Views.{In, rope}
use Rattle.directory_law.specs.Views as directory
pub use Rattle.cell_law.specs.declared.view.Sight.{Sight}
pub use Rattle.cell_law.specs.declared.view.View.{View}

-- the view of a seat that has left
abbrev pub gone : View
gone = record {
  grant = 0;
  noted = [];
  bound = [];
  joined = [];
  seen = [];
  found = [];
  cleared = false;
}

abbrev pub view_at : List View → ℕ → View
view_at views n = slice_index_or views n gone

-- the heads that a view lists as bound: by its seat, and by seats that have left
abbrev pub bound_in : View → List Rope
bound_in v = v.bound ++ v.joined

-- the view of seat 0 after a seat has left, from the views of the two: it takes over the notes, and the heads that the
-- seat bound and found
abbrev pub joined : View → View → View
joined v w = record v {
  noted = v.noted ++ w.noted;
  joined = v.joined ++ bound_in w;
  found = v.found ++ w.found;
}

-- some view lists this head as bound, in this life and with this text
abbrev pub BoundIn : List View → SlotId → ℕ → Text → Type 0
BoundIn views s l text = (n : ℕ) × In (rope s l text) (bound_in (view_at views n))

-- all heads that views list as bound, and the texts of some heads
unfoldable pub all_bound : List View → List Rope
all_bound views = flat_map bound_in views

abbrev pub texts_of : List Rope → List Text
texts_of es = map (λ (e : Rope). e.text) es

-- no two members are the same
abbrev pub AreDistinct : {A : Type 0} → List A → Type 0
AreDistinct [] = Unit {0}
AreDistinct (x ∷ xs) = ¬ (In x xs) × AreDistinct xs

-- the text of 1 to 4,096 bytes
abbrev pub IsWord : Text → Type 0
IsWord text = (bytes : List ℕ) × AreBytes bytes × IsTextOf bytes text

abbrev pub words_of : List Rope → List (List ℕ)
words_of es = map text_bytes (texts_of es)

-- seat 0 hasn't begun to clear the cells
abbrev pub IsOpen : List View → Type 0
IsOpen views = (view_at views 0).cleared ≡ false

-- one slot, seen in a cell
abbrev pub sight : ℕ → SlotId → Sight
sight c s = record { cell = c; slots = s ∷ [] }

-- no slot was seen in cell c
abbrev pub Unseen : View → ℕ → Type 0
Unseen v c = (e : Sight) → In e v.seen → e.slots ≢ [] → e.cell ≢ c

-- the seat may put one head more into a cell
abbrev pub MayBind : View → Type 0
MayBind v = length v.bound < v.grant

-- by the view the text has no record: none was found, nor is one listed as bound
abbrev pub TellsNone : View → Text → Type 0
TellsNone v text = (e : Rope) → In e (v.found ++ bound_in v) → e.text ≢ text

-- the most heads that views may list: those that their seats may put into cells, and those of seats that have left
abbrev pub share : View → ℕ
share v = v.grant + length v.joined

unfoldable pub shares : List View → ℕ
shares views = sum_by share views

-- what a seat made and linked, as the view of a directory in which it bound nothing
abbrev pub made : View → DirectoryView
made v = record directory.gone { noted = v.noted ++ bound_in v }

abbrev pub makers : List View → List DirectoryView
makers views = map made views
