-- What a store of null into a cell leaves of the client's view, and what such stores leave together.
use Rattle.std.proofs.Common.{◌≡◌, ℕ, ◌+◌, ◌<◌, List, true, subst, sym, ap, ◌∙◌, arith}
use Rattle.std.specs.Prelude.{IsSome, None, Option, Some}
use Rattle.cell_intern.specs.cell_calls.cell_law.Lessons.{ClearReady, clear_next}
use Rattle.cell_intern.specs.cell_calls.cell_law.declared.view.View.{View}
use Rattle.cell_intern.specs.cell_calls.cell_law.plain_state.Lists.{times}
use Rattle.cell_intern.specs.cell_calls.cell_law.plain_state.State.{Plain}
use Rattle.cell_intern.specs.cell_calls.cell_law.directory_law.Cells.{Area}
use Rattle.cell_intern.specs.cell_calls.cell_law.plain_state.declared.act.EventPlace.TheVariants.{Cell}
use Rattle.cell_intern.specs.cell_calls.cell_law.plain_state.declared.act.PlainAct.TheVariants as plain
use Rattle.cell_intern.specs.cell_calls.cell_law.plain_state.declared.slot.SlotId.{SlotId}
use Rattle.cell_intern.specs.cell_calls.cell_protocol.declared.law.CellLaw.{CellLaw}
use Rattle.cell_intern.specs.epoch_refs.Exchanges.{Dates, IsStored}
use Rattle.cell_intern.specs.epoch_refs.Walks.{IsAtRest}
use Rattle.cell_intern.specs.epoch_refs.epoch_core.declared.act.EpochAct.TheVariants as act
use Rattle.cell_intern.specs.epoch_refs.epoch_core.declared.view.EpochView.{EpochView}
use Rattle.cell_intern.specs.epoch_refs.epoch_domain.Domains.{DomainState}
use Rattle.cell_intern.specs.epoch_refs.epoch_domain.Seats.{SeatState}
use Rattle.cell_intern.specs.epoch_refs.epoch_rule.declared.view.EpochSeatView.{EpochSeatView}
use Rattle.cell_intern.specs.epoch_refs.epoch_rule.Views.{object_in}
use Rattle.cell_intern.specs.epoch_refs.plain_protocol.Owns.{OwnPart}
use Rattle.cell_records.specs.Root.{IsRoot}
use Rattle.cell_records.proofs.Staying.{root_by}

-- when the deed that clears a cell is ready
pub clear_ready : (z : Area) (own : OwnPart) (v : View) (i : ℕ) → z.first ≡ 0 → i < z.cells
    → IsSome own.whole → ClearReady z own v (plain.Replace (Cell i) None)
clear_ready z own v i first inside some = record {
  at = i;
  inside = inside;
  act_is =
      let same : i ≡ z.first + i = omega (arith, first) in
      ap (λ (n : ℕ). plain.Replace (Cell n) None) same;
  alone = λ none.
      let wrong = subst (λ (o : Option Plain). IsSome o) none some in absurd (cc (wrong));
}

-- the view of one that has begun to clear cells
abbrev pub with_cleared : View → View
with_cleared v = record v { cleared = true }

dates_client : (fits : List ℕ → Type 0) (d : DomainState CellLaw) (held : Option SlotId)
    (a b : SeatState View) → Dates fits d held a b → b.view.client ≡ a.view.client
dates_client fits d None a b same = ap (λ (s : SeatState View). s.view.client) same
dates_client fits d (Some s) a b walk =
    ap (λ (x : SeatState View). x.view.client) walk.1.2 ∙ walk.1.1.told.client

pub clears_client : (fits : List ℕ → Type 0) (d : DomainState CellLaw)
    (allows : Plain → Plain → ℕ → View → View → Type 0) (i : ℕ) (old new : SeatState View)
    → IsStored fits d clear_next allows (act.Swap (Cell i) None) old new
    → new.view.client ≡ with_cleared old.view.client
clears_client fits d allows i old new stored =
    let t = stored.1 in
    dates_client fits d stored.0 t.between new t.dates
    ∙ t.exchange.told.client
    ∙ ap (λ (v : EpochSeatView View). with_cleared v.client) t.reserved.1

-- a seat that has what it had, but for what is pending and its trail
abbrev pub StaysBesides : EpochView → EpochView → Type 0
StaysBesides v w = w ≡ record v { pending = w.pending; trail = w.trail }

pub besides_then : (u v w : EpochView) → StaysBesides u v → StaysBesides v w → StaysBesides u w
besides_then u v w first second =
    second ∙ ap (λ (x : EpochView). record x { pending = w.pending; trail = w.trail }) first

pub root_besides : (d : DomainState CellLaw) (a b : SeatState View)
    → StaysBesides a.view.core b.view.core → IsAtRest d b → IsRoot d a → IsRoot d b
root_besides d a b core =
    root_by d a b (ap (λ (v : EpochView). v.number) core) (ap (λ (v : EpochView). v.seat) core)
    (ap (λ (v : EpochView). v.left_seats) core) (ap (λ (v : EpochView). v.shape) core)

-- what it knows of the objects that it owns
abbrev pub KnowsOwned : SeatState View → SeatState View → Type 0
KnowsOwned a b =
    (x : SlotId) → 0 < times x a.view.core.owned → object_in b.view x ≡ object_in a.view x

pub owned_then : (a b c : SeatState View) → b.view.core.owned ≡ a.view.core.owned → KnowsOwned a b
    → KnowsOwned b c → KnowsOwned a c
owned_then a b c same first second x has =
    second x (subst (λ (xs : List SlotId). 0 < times x xs) (sym same) has) ∙ first x has

pub cleared_then : (u v w : View) → with_cleared v ≡ with_cleared u → w ≡ with_cleared v
    → with_cleared w ≡ with_cleared u
cleared_then u v w first second = ap with_cleared second ∙ first

pub cleared_is : (v w : View) → with_cleared w ≡ with_cleared v → w.cleared ≡ true
    → w ≡ with_cleared v
cleared_is v w same is = (λ i. record w { cleared = is i }) ∙ same
