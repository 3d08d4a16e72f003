-- What was pushed and popped: how often each item, and in which order.
use Rattle.std.specs.Prelude.{◌≡◌, ◌≢◌, ℕ, ◌+◌, ◌<◌, ◌≤◌, Bool, true, false, cond, ◌==◌, ◌&&◌, List, [], ◌∷◌, map, drop, sum_by, slice_index_or, length}
use Rattle.queue_law.specs.Views.{Item, Taken, View, no_taken, view_at}
use Rattle.queue_law.specs.Chain.{Sent, sent}

-- pop i
abbrev pub taken : List Taken → ℕ → Taken
taken ts i = slice_index_or ts i no_taken

abbrev pub same_words : List ℕ → List ℕ → Bool
same_words [] [] = true
same_words [] (y ∷ ys) = false
same_words (x ∷ xs) [] = false
same_words (x ∷ xs) (y ∷ ys) = (x == y) && same_words xs ys

abbrev pub same_item : Item → Item → Bool
same_item x y = (x.slot == y.slot) && (x.life == y.life) && same_words x.payload y.payload

-- how often an item stands in a list
unfoldable pub item_times : Item → List Item → ℕ
item_times x ys = sum_by (λ y. cond (same_item x y) 1 0) ys

-- a sum over all views
unfoldable pub views_total : (View → ℕ) → List View → ℕ
views_total f vs = sum_by f vs

abbrev pub sent_items : List Sent → List Item
sent_items xs = map (λ (e : Sent). e.item) xs

abbrev pub taken_items : List Taken → List Item
taken_items xs = map (λ (e : Taken). e.item) xs

-- how often the item was pushed, and popped, by all seats together
abbrev pub pushed_times : Item → List View → ℕ
pushed_times x views = views_total (λ v. item_times x (taken_items v.pushed)) views

abbrev pub popped_times : Item → List View → ℕ
popped_times x views = views_total (λ v. item_times x (taken_items v.popped)) views

-- the pushes are the nodes of the history but the first, and the pops are the first of them
pub record Counted (h : List Sent) (ts : List Taken) (views : List View) : Type 0 where
  pub pushed : (x : Item) → pushed_times x views ≡ item_times x (sent_items (drop 1 h))
  pub popped : (x : Item) → popped_times x views ≡ item_times x (taken_items ts)
  pub many : length h ≤ views_total (λ v. length v.pushed) views + 1
  pub order : (i : ℕ) → i < length ts → (i + 1 < length h)
      × ((taken ts i).item ≡ (sent h (i + 1)).item)

-- the items of seat n in a list of all seats
unfoldable pub tagged : ℕ → List Taken → List Item
tagged n [] = []
tagged n (t ∷ ts) = cond (t.taker == n) (t.item ∷ tagged n ts) (tagged n ts)

-- the seat whose view has what seat n did: itself, or seat 0 once it has left
abbrev pub home : List View → ℕ → ℕ
home views n = cond (view_at views n).here n 0

-- the views have of each seat what the list has of it, in order
pub record Kept (f : View → List Taken) (all : List Taken) (views : List View) : Type 0 where
  pub own : (n : ℕ) → tagged n (f (view_at views (home views n))) ≡ tagged n all
  pub none : (n m : ℕ) → m ≢ home views n → tagged n (f (view_at views m)) ≡ []

-- the pushes of a history
abbrev pub sends : List Sent → List Taken
sends h = map (λ (e : Sent). record { item = e.item; taker = e.sender }) (drop 1 h)

-- each seat's pushes and pops stand in order in the lists of all
pub record Ordered (h : List Sent) (ts : List Taken) (views : List View) : Type 0 where
  pub pushed : Kept (λ v. v.pushed) (sends h) views
  pub popped : Kept (λ v. v.popped) ts views
