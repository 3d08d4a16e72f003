-- What a protocol and a deed owe.
use Rattle.std.specs.Prelude.{ℕ, ◌≡◌, ◌<◌, List, length, map, slice_index_or, slice_set}
use Rattle.std.specs.List.{range_with_len}
use Rattle.plain_state.specs.declared.act.PlainAct.{PlainAct}
use Rattle.plain_state.specs.declared.act.PlainAct.TheVariants as act
use Rattle.plain_state.specs.declared.slot.SlotId.{SlotId}
use Rattle.plain_state.specs.State.{Plain, empty, slot_at}
use Rattle.plain_state.specs.Lawful.{Lawful}
use Rattle.plain_state.specs.Steps.{Does}
use Rattle.plain_state.specs.Fits.{AllFit}
use Rattle.plain_protocol.specs.Owns.{OwnPart, own_part}
use Rattle.plain_protocol.specs.Acts.{IsCalm, Owned, IsForeign}

-- the state is lawful, each seat has a view, and the law holds of the state and all views
pub record Meets {V : Type 0} (holds : Plain → List V → Type 0) (p : Plain) (views : List V)
    : Type 0 where
  pub lawful : Lawful p
  pub count : length views ≡ length p.seats
  pub law : holds p views

module _ {V : Type 0} (law : Plain → List V → Type 0) where
  -- the law holds of the state with nothing in it and the first views
  abbrev pub Starts : (ℕ → V) → Type 0
  Starts first =
      (seats slots cells weak_cells : ℕ)
      → law (empty seats slots cells weak_cells) (map first (range_with_len 0 seats))

  -- every calm step of every seat keeps the law, with the views as they were
  abbrev pub KeptByCalm : Type 0
  KeptByCalm =
      (p q : Plain) (n : ℕ) (act : PlainAct) (found : ℕ) (views : List V)
      → Meets law p views → IsCalm act → Does p n act found q → law q views

  -- so does every step that is foreign to what is owned
  abbrev pub KeptByForeign : Owned → Type 0
  KeptByForeign owned =
      (p q : Plain) (n : ℕ) (act : PlainAct) (found : ℕ) (views : List V)
      → Meets law p views → IsForeign owned p act → Does p n act found q → law q views

  -- where seat j leaves, the law is kept: its view joins seat 0's, and a gone view stays in its place
  abbrev pub KeptByLeave : (V → V → V) → V → Type 0
  KeptByLeave joined gone =
      (p q : Plain) (j found : ℕ) (views : List V)
      → Meets law p views → Does p 0 (act.Leave j) found q
      → let root = slice_index_or views 0 gone in
      let v = slice_index_or views j gone in
      law q (slice_set (slice_set views 0 (joined root v)) j gone)

  -- a step that a deed is ready for keeps the law with the seat's next view, and the deed allows it. The next view is
  -- told what the seat itself has before the step and after it
  abbrev pub Keeps : V → (OwnPart → V → PlainAct → Type 0) → (OwnPart → OwnPart → V → PlainAct → ℕ → V)
      → (Plain → Plain → ℕ → V → V → Type 0) → Type 0
  Keeps gone ready next allows =
      (p q : Plain) (views : List V) (n : ℕ) (act : PlainAct) (found : ℕ)
      → Meets law p views → n < length views
      → ready (own_part p n) (slice_index_or views n gone) act → Does p n act found q
      → let v = slice_index_or views n gone in
      let w = next (own_part p n) (own_part q n) v act found in
      law q (slice_set views n w) × allows p q n v w

-- the payloads of all objects fit after a step, where an object that it makes has one that fits
abbrev pub KeepsFitting : (List ℕ → Type 0) → Type 0
KeepsFitting fits =
    (p q : Plain) (n : ℕ) (step : PlainAct) (found : ℕ) → Does p n step found q
    → ((s : SlotId) → step ≡ act.Make s → fits (slot_at p s).payload)
    → AllFit fits p → AllFit fits q
