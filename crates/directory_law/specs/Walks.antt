-- How far a seat knows that it walked: the cells that a text passes.
use Rattle.std.specs.Prelude.{◌≡◌, ◌≢◌, ◌⊎◌, ℕ, ◌<◌, ◌≤◌, List, ◌∷◌, ◌++◌, None}
use Rattle.plain_protocol.specs.plain_state.State.{Plain}
use Rattle.directory_law.specs.Payloads.{Text}
use Rattle.directory_law.specs.Views.{Seen, Ran, View, In, note}
use Rattle.directory_law.specs.Cells.{Area, cell, on}
use Rattle.directory_law.specs.Law.{NoneBound}

-- the text doesn't begin with this payload, or with these
abbrev pub NotHead : List ℕ → Text → Type 0
NotHead head text = (tail : Text) → text ≢ head ∷ tail

abbrev pub NotPrefix : Text → Text → Type 0
NotPrefix before text = (rest : Text) → text ≢ before ++ rest

-- the view tells that the text isn't that of a head which it saw
abbrev pub IsOther : View → Seen → Text → Type 0
IsOther v e text =
    NotHead e.head text
    ⊎ ((r : Ran) × In r v.ran × (r.slot ≡ e.slot) × (r.life ≡ e.life) × NotPrefix r.before text)

-- the text passes cell c: it was seen set with another text, or with a record that has ended
abbrev pub Passes : View → Text → ℕ → Type 0
Passes v text c =
    (e : Seen) × In e v.seen × (e.cell ≡ c)
    × (IsOther v e text ⊎ In (note e.slot e.life) v.ended)

-- it passes the first m cells of its walk
abbrev pub Walked : Area → View → Text → ℕ → Type 0
Walked z v text m = (j : ℕ) → j < m → Passes v text (on z text j)

-- where a walk comes to a null cell, or around to its begin, the text has no live record
abbrev pub WalksTell : Area → Plain → View → Type 0
WalksTell z p v =
    (text : Text) (m : ℕ) → Walked z v text m → (cell z p (on z text m) ≡ None) ⊎ (z.cells ≤ m)
    → NoneBound z p text

-- a seat that has an intern left hasn't walked over all the cells
abbrev pub FindsRoom : Area → View → Type 0
FindsRoom z v = (text : Text) → v.used < v.quota → Walked z v text z.cells → ⊥
