-- What a protocol owes that has a queue as a part: which items may be pushed, and which views of the queue the rest
-- accepts.
use Rattle.std.specs.Prelude.{◌≡◌, [], ◌∷◌, ◌++◌}
use Rattle.queue_law.specs.declared.view.Item.{Item}
use Rattle.queue_law.specs.declared.view.View.{View}

-- an item that may be pushed still may be, whatever the seat did with the queue meanwhile
abbrev pub StaysPushable : {P V : Type 0} → (P → V → Item → Type 0) → (V → View → V) → Type 0
StaysPushable {P = P} {V = V} may_push with_seen =
    (it : P) (v : V) (w : View) (item : Item) → may_push it v item
    → may_push it (with_seen v w) item

-- the rest accepts a view of the queue that has pushed what it had
abbrev pub AcceptsKept : {P V : Type 0} → (V → View) → (P → V → View → Type 0) → Type 0
AcceptsKept {P = P} {V = V} seen suits =
    (it : P) (v : V) (w : View) → w.pushed ≡ (seen v).pushed → suits it v w

-- the view has pushed this item more
abbrev pub HasPushedToo : Item → View → View → Type 0
HasPushedToo item v w =
    w.pushed ≡ v.pushed ++ record { item = item; taker = v.number } ∷ []

-- and one that has pushed an item more that may be pushed
abbrev pub AcceptsPush : {P V : Type 0} → (P → V → Item → Type 0) → (V → View)
    → (P → V → View → Type 0) → Type 0
AcceptsPush {P = P} {V = V} may_push seen suits =
    (it : P) (v : V) (w : View) (item : Item) → may_push it v item → HasPushedToo item (seen v) w
    → suits it v w
