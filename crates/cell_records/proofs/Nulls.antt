-- Which cells of the whole state are null, as a seat that is alone knows it.
use Rattle.std.proofs.Common.{◌≡◌, ◌≢◌, ⊎_elim, ℕ, ◌+◌, ◌<◌, ◌≤◌, List, length, refl, ap, sym, ◌∙◌, subst, arith}
use Rattle.std.specs.Prelude.{IsSome, None, Option, Some, slice_index, slice_index_or}
use Rattle.std.proofs.lemmas.Bool.{cases_eq, cases_lt}
use Rattle.std.proofs.lemmas.List.{get_or_past}
use Rattle.cell_intern.specs.cell_calls.cell_law.declared.view.View.{View}
use Rattle.cell_intern.specs.cell_calls.cell_law.plain_state.Places.{content}
use Rattle.cell_intern.specs.cell_calls.cell_law.plain_state.State.{Plain}
use Rattle.cell_intern.specs.cell_calls.cell_law.plain_state.declared.act.EventPlace.TheVariants.{Cell}
use Rattle.cell_intern.specs.cell_calls.cell_law.plain_state.declared.slot.SlotId.{SlotId}
use Rattle.epoch_alone.proofs.Below.core_law_Each.{length_each}
use Rattle.epoch_alone.specs.Cells.{ClearsCell, HaveSameCells}
use Rattle.epoch_alone.specs.Lone.{KnowsBoth}
use Rattle.epoch_alone.proofs.Known.{core_known, one_state, whole_shown}
use Rattle.epoch_alone.specs.epoch_core.Shows.{shows}
use Rattle.epoch_alone.specs.epoch_core.core_events.Words.{slot_in}
use Rattle.epoch_alone.specs.epoch_core.Words.{cell_at}
use Rattle.epoch_alone.specs.epoch_core.declared.shape.EpochShape.{EpochShape}
use Rattle.cell_intern.specs.epoch_refs.epoch_domain.Seats.{SeatState}
use Rattle.cell_intern.specs.epoch_refs.epoch_rule.Views.{core_in, own_of}
use Rattle.cell_intern.specs.epoch_refs.plain_protocol.Owns.{OwnPart}
use Rattle.cell_records.specs.Clearing.{KnowsNull}

-- the first n cells are null
abbrev pub KnowsNullUpto : ℕ → SeatState View → Type 0
KnowsNullUpto n seat =
    (p : Plain) → (own_of seat.view).whole ≡ Some p → (j : ℕ) → j < n
    → content p (Cell j) ≡ None

-- the state that a seat knows has the cells of its shape
cells_many : (z : EpochShape) (seat : SeatState View) → seat.view.core.shape ≡ z → (p : Plain)
    → (own_of seat.view).whole ≡ Some p → length p.cells ≡ z.cells
cells_many z seat shape p knows =
    let known : IsSome (own_of seat.view).whole =
    subst (λ (o : Option Plain). IsSome o) (sym knows) refl in
    let k = core_known seat.view known in
    let is = one_state seat.view p (shows z (core_in k.0)) knows
    (whole_shown z seat.view k.0 shape k.1) in
    ap (λ (q : Plain). length q.cells) is
    ∙ length_each 0 z.cells (λ i. slot_in (slice_index (core_in k.0).words (cell_at z i)))

-- one cell more
pub null_more : (a b : SeatState View) (i : ℕ) → ClearsCell i a b → KnowsNullUpto i a
    → KnowsNullUpto (i + 1) b
null_more a b i clears null p knows j low =
    let c = clears.cells in
    ap (λ (q : Plain). content q (Cell j)) (one_state b.view p c.now knows c.knows)
    ∙ ⊎_elim
    (λ (same : j ≡ i). ap (λ (k : ℕ). content c.now (Cell k)) same ∙ c.then.null)
    (λ (other : j ≢ i). c.then.others j other ∙ null c.before c.knew j (omega arith))
    (cases_eq j i)

-- all of them
pub null_all : (z : EpochShape) (seat : SeatState View) → seat.view.core.shape ≡ z
    → KnowsNullUpto z.cells seat → KnowsNull seat
null_all z seat shape null p knows i = ⊎_elim
    (λ (low : i < z.cells). null p knows i low)
    (λ (past : z.cells ≤ i).
    let many = cells_many z seat shape p knows in
    get_or_past p.cells i None (omega (arith, many, past)))
    (cases_lt i z.cells)

-- where no cell changes
pub null_both : (a b : SeatState View) → KnowsBoth HaveSameCells a.view b.view → KnowsNull a
    → KnowsNull b
null_both a b both null p knows i =
    ap (λ (q : Plain). content q (Cell i)) (one_state b.view p both.now knows both.knows)
    ∙ ap (λ (cs : List (Option SlotId)). slice_index_or cs i None) both.then
    ∙ null both.before both.knew i

-- or where what the seat knows is as it was
pub null_same : (a b : SeatState View) → own_of b.view ≡ own_of a.view → KnowsNull a → KnowsNull b
null_same a b same null p knows = null p (ap (λ (o : OwnPart). o.whole) (sym same) ∙ knows)
