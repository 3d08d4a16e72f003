-- What a queue promises, read off the plain state and the views.
use Rattle.std.specs.Prelude.{◌≡◌, ℕ, zero, suc, ◌+◌, ◌⊎◌, List, [], ◌∷◌, ◌++◌}
use Rattle.plain_protocol.specs.plain_state.State.{Plain}
use Rattle.queue_law.specs.Words.{slot_at, cell_at}
use Rattle.queue_law.specs.Views.{Double, Item, View, Taken, no_item, view_at}
use Rattle.queue_law.specs.Chain.{Ends, Sent, HoldsItem}
use Rattle.queue_law.specs.Notes.{HasFlight}
use Rattle.queue_law.specs.Lists.{pushed_times, popped_times, item_times, taken_items, Kept}

-- the items behind slot s, along field 0 up to null
abbrev pub Follows : Plain → ℕ → List Item → Type 0
Follows p s [] = (slot_at p s).first ≡ 0
Follows p s (x ∷ xs) = (c : ℕ) × ((slot_at p s).first ≡ c + 1) × HoldsItem p c x × Follows p c xs

-- d steps along field 0 lead from a to b
abbrev pub Far : Plain → ℕ → ℕ → ℕ → Type 0
Far p zero a b = a ≡ b
Far p (suc d) a b = (c : ℕ) × ((slot_at p a).first ≡ c + 1) × Far p d c b

abbrev pub OnChain : Plain → ℕ → ℕ → Type 0
OnChain p a b = (d : ℕ) × Far p d a b

-- some view says that a push of slot s is in flight
abbrev pub InFlight : Plain → List View → ℕ → Type 0
InFlight p views s =
    (n : ℕ)
    × HasFlight (record { node = s; life = (slot_at p s).life; item = no_item; sender = 0 })
    (view_at views n)

-- one item more waits than is linked: that of the tail's slot, which isn't on the chain, while its push is in flight
pub record OneMore (u : Ends) (p : Plain) (views : List View) (first : ℕ)
    (linked waiting : List Item)
    : Type 0 where
  pub double : u.form ≡ Double
  pub last : ℕ
  pub tail : cell_at p u.tail ≡ last + 1
  pub off : ¬ (OnChain p first last)
  pub item : Item
  pub has : HoldsItem p last item
  pub more : waiting ≡ linked ++ item ∷ []
  pub flies : InFlight p views last

-- all waiting items are linked; and in a doubly linked queue the tail's slot is on the chain
pub record AllLinked (u : Ends) (p : Plain) (first : ℕ) (linked waiting : List Item) : Type 0 where
  pub same : waiting ≡ linked
  pub on : u.form ≡ Double → (last : ℕ) × (cell_at p u.tail ≡ last + 1) × OnChain p first last

-- what waits: the linked items behind the head's slot, or these and one more
pub record Waiting (u : Ends) (p : Plain) (views : List View) (waiting : List Item) : Type 0 where
  pub first : ℕ
  pub head : cell_at p u.head ≡ first + 1
  pub linked : List Item
  pub follows : Follows p first linked
  pub which : AllLinked u p first linked waiting ⊎ OneMore u p views first linked waiting

-- each item stands in all pushed lists together as often as in all popped lists and the waiting items together
pub record Conserved (u : Ends) (p : Plain) (views : List View) : Type 0 where
  pub waiting : List Item
  pub waits : Waiting u p views waiting
  pub even : (x : Item) → pushed_times x views ≡ popped_times x views + item_times x waiting

-- the list of all pushes in order, of which the first were popped, in the same order, and the others wait
pub record InOrder (u : Ends) (p : Plain) (views : List View) : Type 0 where
  pub pushes : List Taken
  pub pops : List Taken
  pub waiting : List Item
  pub waits : Waiting u p views waiting
  pub all : taken_items pushes ≡ taken_items pops ++ waiting
  pub pushed : Kept (λ v. v.pushed) pushes views
  pub popped : Kept (λ v. v.popped) pops views

-- once the queue is shut: what was left, in place of what waits
pub record LeftOver (views : List View) (left : List Item) : Type 0 where
  pub even : (x : Item) → pushed_times x views ≡ popped_times x views + item_times x left
  pub pushes : List Taken
  pub pops : List Taken
  pub all : taken_items pushes ≡ taken_items pops ++ left
  pub pushed : Kept (λ v. v.pushed) pushes views
  pub popped : Kept (λ v. v.popped) pops views

-- in a doubly linked queue: no view has a push in flight
abbrev pub NoFlights : Ends → List View → Type 0
NoFlights u views =
    u.form ≡ Double → (n : ℕ) (e : Sent) → ¬ (HasFlight e (view_at views n))
