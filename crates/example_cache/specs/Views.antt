-- The views of seats: with what a seat begins, and what becomes of a view where a seat leaves.
use Rattle.std.specs.Prelude.{ℕ, List, [], ◌++◌, Contains, slice_index_or}
pub use Rattle.example_cache.specs.declared.view.View.{View}

-- it remembered nothing, and recalled nothing
abbrev pub no_view : View
no_view = record { remembered = []; recalled = [] }

-- seat 0 takes over what a seat did that leaves
abbrev pub joined : View → View → View
joined root v =
    record {
      remembered = root.remembered ++ v.remembered;
      recalled = root.recalled ++ v.recalled;
    }

abbrev pub view_at : List View → ℕ → View
view_at views n = slice_index_or views n no_view

-- some seat remembered this value; some seat recalled it
abbrev pub WasRemembered : List View → List ℕ → Type 0
WasRemembered views value = (n : ℕ) × Contains (view_at views n).remembered value

abbrev pub WasRecalled : List View → List ℕ → Type 0
WasRecalled views value = (n : ℕ) × Contains (view_at views n).recalled value
