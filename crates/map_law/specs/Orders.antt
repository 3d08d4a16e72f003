-- The entries of all seats in one order.
use Rattle.std.specs.Prelude.{◌≡◌, ◌≢◌, ℕ, Bool, false, ◌==◌, List, [], ◌∷◌, sum_by, cond}
use Rattle.map_trees.specs.Trees.{Pair}
use Rattle.map_trees.specs.declared.change.Entry.{Entry}
use Rattle.map_trees.specs.Maps.{Answers, replayed}
use Rattle.map_law.specs.Views.{View, view_at, total}

-- the entries of seat n in a list of all seats' entries
unfoldable pub tagged : ℕ → List Entry → List Entry
tagged n [] = []
tagged n (t ∷ ts) = cond (t.seat == n) (t ∷ tagged n ts) (tagged n ts)

-- the seat whose view has the entries of seat n: itself, or seat 0 once it has left
abbrev pub home : List View → ℕ → ℕ
home views n = cond (view_at views n).here n 0

-- of each seat that view has what the order has of it, and no other view has any
pub record Kept (all : List Entry) (views : List View) : Type 0 where
  pub own : (n : ℕ) → tagged n (view_at views (home views n)).entries ≡ tagged n all
  pub none : (n m : ℕ) → m ≢ home views n → tagged n (view_at views m).entries ≡ []

-- all entries in one order that keeps each seat's own: each answer is that of a map of one thread at that point, and
-- the last map is this one, unless the root cell was cleared; each entry stands in the views as often as in the order
pub record Orders (views : List View) (last : List Pair) (cleared : Bool) : Type 0 where
  pub all : List Entry
  pub kept : Kept all views
  pub many : (f : Entry → ℕ) → total (λ v. sum_by f v.entries) views ≡ sum_by f all
  pub answers : Answers [] all
  pub ends : cleared ≡ false → replayed [] all ≡ last
