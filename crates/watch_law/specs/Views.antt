-- The views of seats: with what a seat begins, what becomes of a view where a seat leaves, and what views tell.
use Rattle.std.specs.Prelude.{ℕ, ◌==◌, true, false, List, [], ◌∷◌, ◌++◌, Contains, slice_index_or, if◌then◌else◌, Option, Some, None}
use Rattle.queue_law.specs.Words.{id}
pub use Rattle.watch_law.specs.declared.view.Made.{Made}
pub use Rattle.watch_law.specs.declared.view.Subscribed.{Subscribed}
pub use Rattle.watch_law.specs.declared.view.Address.{Address}
pub use Rattle.watch_law.specs.declared.view.View.{View}

-- no delivery that has no observer yet: no life is 0 once it began
abbrev pub no_made : Made
no_made = record { slot = id 0; life = 0 }

-- the view of a seat that has left
abbrev pub no_view : View
no_view =
    record { number = 0; here = false; made = no_made; subscribed = []; addressed = []; read = [] }

-- the view of seat n at the start
abbrev pub first_view : ℕ → View
first_view n = record no_view { number = n; here = true }

-- the view of seat 0 after a seat has left, from the views of the two: what was addressed and read is kept
abbrev pub joined : View → View → View
joined v w =
    record v { addressed = v.addressed ++ w.addressed; read = v.read ++ w.read }

-- the view of seat n; a seat that there isn't has that of one that has left
abbrev pub view_at : List View → ℕ → View
view_at views n = slice_index_or views n no_view

-- some seat gave a delivery this observer
abbrev pub IsAddressed : List View → Address → Type 0
IsAddressed views a = (n : ℕ) × Contains (view_at views n).addressed a

-- some seat found this observer in a delivery
abbrev pub WasRead : List View → Address → Type 0
WasRead views a = (n : ℕ) × Contains (view_at views n).read a

-- the observer that was put last into the cell of id c, of those that a seat put there
abbrev pub last : ℕ → List Subscribed → Option Subscribed
last c [] = None
last c (e ∷ es) = if e.id == c then Some e else last c es
