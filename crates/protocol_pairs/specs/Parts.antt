-- What a protocol owes that has another one as a part.
use Rattle.std.specs.Prelude.{ℕ, ◌≡◌, ◌<◌, List, length, map, slice_index_or, slice_set}
use Rattle.plain_protocol.specs.plain_state.declared.act.PlainAct.{PlainAct}
use Rattle.plain_protocol.specs.plain_state.State.{Plain}
use Rattle.plain_protocol.specs.plain_state.Steps.{Does}
use Rattle.plain_protocol.specs.Acts.{Owned}
use Rattle.plain_protocol.specs.Laws.{Meets}
use Rattle.plain_protocol.specs.Owns.{OwnPart, own_part}
use Rattle.protocol_pairs.specs.Spared.{IsWithin}

-- the law holds with both laws of a pair, each over its own views
abbrev pub Both : {V W : Type 0} → (Plain → List V → Type 0) → (Plain → List W → Type 0)
    → Plain → List (V × W) → Type 0
Both left right p views = left p (map (λ v. v.0) views) × right p (map (λ v. v.1) views)

module _ {V W : Type 0} (law : Plain → List V → Type 0) (part : Plain → List W → Type 0)
    (seen : V → W) where
  -- where the law holds, the part's holds of what the views have of the part
  abbrev pub HasPart : Type 0
  HasPart = (p : Plain) (views : List V) → law p views → part p (map seen views)

  -- a step that is free keeps the law where it keeps the part's, if the rest accepts the seat's next view of the part
  abbrev pub KeepsRest : V → (V → W → V) → (OwnPart → PlainAct → Type 0) → (V → W → Type 0) → Type 0
  KeepsRest gone with_seen free suits =
      (p q : Plain) (views : List V) (n : ℕ) (step : PlainAct) (found : ℕ) (w : W)
      → Meets law p views → n < length views → free (own_part p n) step
      → Does p n step found q → suits (slice_index_or views n gone) w
      → part q (slice_set (map seen views) n w)
      → law q (slice_set views n (with_seen (slice_index_or views n gone) w))

-- what was put into a view as its part is read there
abbrev pub Reads : {V W : Type 0} → (V → W) → (V → W → V) → Type 0
Reads {V = V} {W = W} seen with_seen = (v : V) (w : W) → seen (with_seen v w) ≡ w

-- a view with its own part put into it is as it was
abbrev pub PutsBack : {V W : Type 0} → (V → W) → (V → W → V) → Type 0
PutsBack {V = V} seen with_seen = (v : V) → with_seen v (seen v) ≡ v

-- of two views that were put into one as its part, the later one stays
abbrev pub PutsOver : {V W : Type 0} → (V → W → V) → Type 0
PutsOver {V = V} {W = W} with_seen =
    (v : V) (w u : W) → with_seen (with_seen v w) u ≡ with_seen v u

-- each step within what the part owns is free
abbrev pub Frees : Owned → (OwnPart → PlainAct → Type 0) → Type 0
Frees owned free = (own : OwnPart) (step : PlainAct) → IsWithin owned own step → free own step

-- the part's own payloads that fit there fit the whole, and weigh the same
abbrev pub FitsWhole : (List ℕ → Type 0) → (List ℕ → Type 0) → (List ℕ → Type 0) → (List ℕ → ℕ)
    → (List ℕ → ℕ) → Type 0
FitsWhole owned fits fits_whole weight weight_whole =
    (words : List ℕ) → owned words → fits words
    → fits_whole words × (weight_whole words ≡ weight words)

-- whatever the step finds, the rest accepts the next view of the part
abbrev pub Accepts : {V W : Type 0} → (V → W → Type 0) → (OwnPart → OwnPart → W → PlainAct → ℕ → W)
    → (V → W) → OwnPart → V → PlainAct → Type 0
Accepts suits next seen own v step =
    (after : OwnPart) (found : ℕ) → suits v (next own after (seen v) step found)
