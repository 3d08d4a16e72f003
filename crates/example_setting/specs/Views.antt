-- The views of seats: with what a seat begins, and what becomes of a view where a seat leaves.
use Rattle.std.specs.Prelude.{ℕ, List, [], ◌++◌, slice_index_or}
pub use Rattle.example_setting.specs.declared.view.View.{View}

-- it stored nothing, and read nothing
abbrev pub no_view : View
no_view = record { stored = []; read = [] }

-- seat 0 takes over what a seat did that leaves
abbrev pub joined : View → View → View
joined root v = record { stored = root.stored ++ v.stored; read = root.read ++ v.read }

abbrev pub view_at : List View → ℕ → View
view_at views n = slice_index_or views n no_view
