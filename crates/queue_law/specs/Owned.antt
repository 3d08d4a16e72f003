-- What a queue owns, and what its lemmas say of a deed.
use Rattle.std.specs.Prelude.{◌≡◌, ◌⊎◌, ℕ, ◌<◌, false, List, length, slice_set}
use Rattle.plain_protocol.specs.plain_state.declared.act.PlainAct.{PlainAct}
use Rattle.plain_protocol.specs.plain_state.State.{Plain, seat_at, no_payload}
use Rattle.plain_protocol.specs.plain_state.Lawful.{Lawful}
use Rattle.plain_protocol.specs.plain_state.Steps.{Does}
use Rattle.plain_protocol.specs.Owns.{OwnPart, own_part}
use Rattle.plain_protocol.specs.Acts.{Owned}
use Rattle.queue_law.specs.Views.{View, view_at}
use Rattle.queue_law.specs.Chain.{Ends}

-- its two cells, and the objects whose words are all 0
abbrev pub owns : Ends → Owned
owns u = record {
  cell = λ i. (i ≡ u.head) ⊎ (i ≡ u.tail);
  weak_cell = λ i. ⊥;
  payload = λ words. words ≡ no_payload;
  tickets = ⊥;
}

-- the seat's view is v, and a step that the deed is ready for keeps the law with the next view
abbrev pub Keeps : (Plain → List View → Type 0) → (OwnPart → View → PlainAct → Type 0)
    → (OwnPart → OwnPart → View → PlainAct → ℕ → View) → Type 0
Keeps law ready next =
    (p q : Plain) (views : List View) (n : ℕ) (v : View) (step : PlainAct) (found : ℕ)
    → Lawful p → law p views → (n < length views) × (view_at views n ≡ v)
    → (seat_at p n).left ≡ false
    → ready (own_part p n) v step → Does p n step found q
    → law q (slice_set views n (next (own_part p n) (own_part q n) v step found))
