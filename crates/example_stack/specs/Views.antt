-- The views of seats: with what a seat begins, and what becomes of a view where a seat leaves.
use Rattle.std.specs.Prelude.{ℕ, List, [], ◌++◌, Contains, slice_index_or}
pub use Rattle.example_stack.specs.declared.view.View.{View}

-- it did nothing, and saw nothing
abbrev pub no_view : View
no_view = record { pushed = []; seen = []; popped = [] }

-- seat 0 takes over what a seat did that leaves
abbrev pub joined : View → View → View
joined root v =
    record {
      pushed = root.pushed ++ v.pushed;
      seen = root.seen ++ v.seen;
      popped = root.popped ++ v.popped;
    }

abbrev pub view_at : List View → ℕ → View
view_at views n = slice_index_or views n no_view

-- some seat pushed this value; some seat saw it in the stack; some seat popped it
abbrev pub WasPushed : List View → List ℕ → Type 0
WasPushed views value = (n : ℕ) × Contains (view_at views n).pushed value

abbrev pub WasSeen : List View → List ℕ → Type 0
WasSeen views value = (n : ℕ) × Contains (view_at views n).seen value

abbrev pub WasPopped : List View → List ℕ → Type 0
WasPopped views value = (n : ℕ) × Contains (view_at views n).popped value
