-- A seat that knows the whole state stores null into a cell: that cell alone changes.
use Rattle.std.proofs.Common.{◌≡◌, ℕ, ◌<◌, List, length, set, refl, ap, sym, ◌∙◌, subst, arith}
use Rattle.std.specs.Prelude.{Option, Some, None, IsSome, slice_index_or}
use Rattle.std.proofs.lemmas.List.{get_or-set_other, get_or-set_same, length-set}
use Rattle.epoch_settling.specs.epoch_core.core_events.Words.{slot_in}
use Rattle.epoch_settling.specs.epoch_core.plain_state.State.{Plain}
use Rattle.epoch_settling.specs.epoch_core.plain_state.declared.act.EventPlace.TheVariants.{Cell}
use Rattle.epoch_settling.specs.epoch_core.plain_state.declared.act.PlainAct.{PlainAct}
use Rattle.epoch_settling.specs.epoch_core.plain_state.declared.slot.SlotId.{SlotId}
use Rattle.epoch_settling.specs.epoch_core.declared.act.EpochAct.TheVariants as act
use Rattle.epoch_settling.specs.epoch_core.declared.outcome.EpochOutcome.{EpochOutcome}
use Rattle.epoch_settling.specs.epoch_core.declared.outcome.EpochOutcome.TheVariants as outcome
use Rattle.epoch_settling.specs.epoch_core.declared.shape.EpochShape.{EpochShape}
use Rattle.epoch_settling.specs.epoch_core.declared.view.EpochPhase.TheVariants as phase
use Rattle.epoch_settling.specs.epoch_core.declared.view.EpochView.{EpochView}
use Rattle.epoch_settling.specs.epoch_core.Runs.{Core, after}
use Rattle.epoch_settling.specs.epoch_core.Shows.{shows}
use Rattle.epoch_settling.specs.epoch_core.Steps.{moved, noted, took}
use Rattle.epoch_settling.proofs.Below.epoch_core_ShownExchanges.{swap_shows}
use Rattle.epoch_refs.specs.plain_protocol.Owns.{OwnPart}
use Rattle.epoch_refs.specs.Exchanges.{Dates, IsStored}
use Rattle.epoch_refs.specs.epoch_domain.Domains.{DomainState}
use Rattle.epoch_refs.specs.epoch_domain.Seats.{SeatState}
use Rattle.epoch_refs.specs.epoch_rule.declared.view.EpochSeatView.{EpochSeatView}
use Rattle.epoch_refs.specs.epoch_rule.declared.view.EpochWhole.{EpochWhole}
use Rattle.epoch_refs.specs.epoch_rule.Views.{core_in, own_of, whole_of}
use Rattle.epoch_alone.specs.Cells.{ClearsCell, HasOneCleared}
use Rattle.epoch_alone.specs.Lone.{KnowsBoth}
use Rattle.epoch_alone.proofs.CellsStay.{dates_cells}
use Rattle.epoch_alone.proofs.Known.{StepsKnown, core_known, steps_known, whole_shown}
use Rattle.epoch_alone.proofs.Objects.{LeavesObjects, SameObjects, objects_self, objects_step, objects_then}

-- THE CELLS
cleared_in : (p q : Plain) (i : ℕ) → i < length p.cells → q.cells ≡ set p.cells i None
    → HasOneCleared i p q
cleared_in p q i there is = record {
  count = ap length is ∙ length-set p.cells i None;
  there = there;
  null = ap (λ (cs : List (Option SlotId)). slice_index_or cs i None) is
      ∙ get_or-set_same p.cells i None None there;
  others = λ j other.
      ap (λ (cs : List (Option SlotId)). slice_index_or cs j None) is
      ∙ get_or-set_other p.cells i j None None other;
}

-- THE VIEW
-- what stays of the view, but for what is pending and its trail
abbrev Stays : EpochView → EpochView → Type 0
Stays v u = u ≡ record v { pending = u.pending; trail = u.trail }

module _ (z : EpochShape) (v u : EpochView) (i w : ℕ)
    (swaps : u ≡ moved z (act.Swap (Cell i) None) w v) where
  abbrev after_taking : Option SlotId → EpochView
  after_taking o = noted (act.Swap (Cell i) None) (outcome.Found (slot_in w)) (took o v)

  -- it took nothing
  null_stays : slot_in w ≡ None → Stays v u
  null_stays none =
      let s : u ≡ after_taking None = swaps ∙ ap after_taking none in
      λ k. record (s k) { pending = u.pending; trail = u.trail }

  -- what it took is dated
  dated_stays : (s : SlotId) (y : ℕ) (x : EpochView) → v.phase ≡ phase.Idle → slot_in w ≡ Some s
      → x ≡ moved z act.Date y u → Stays v x
  dated_stays s y x idle some dates =
      let e : u ≡ after_taking (Some s) = swaps ∙ ap after_taking some in
      let f : x ≡ record u { phase = phase.Idle; pending = x.pending; trail = x.trail } =
      λ k. record (dates k) { pending = x.pending; trail = x.trail } in
      f ∙ (λ k. record (e k) { phase = sym idle k; pending = x.pending; trail = x.trail })

-- OBJECTS
took_owned : (o : Option SlotId) (v : EpochView) → (took o v).owned ≡ v.owned
took_owned None v = refl
took_owned (Some s) v = refl

took_dying : (o : Option SlotId) (v : EpochView) → (took o v).dying ≡ v.dying
took_dying None v = refl
took_dying (Some s) v = refl

swap_leaves : (z : EpochShape) (i : ℕ) → LeavesObjects z (act.Swap (Cell i) None)
swap_leaves z i = record {
  owned = λ w v. took_owned (slot_in w) v;
  dying = λ w v. took_dying (slot_in w) v;
  objects = λ v s ob. refl;
}

date_leaves : (z : EpochShape) → LeavesObjects z act.Date
date_leaves z = record { owned = λ w v. refl; dying = λ w v. refl; objects = λ v s ob. refl }

found_is : (a b : Option SlotId) → ◌≡◌ {A = EpochOutcome} (outcome.Found a) (outcome.Found b) → a ≡ b
found_is a b is = cc (is)

module _ {P V : Type 0} (fits : List ℕ → Type 0) (d : DomainState P) where
  dates_objects : (held : Option SlotId) (old new : SeatState V) → Dates fits d held old new
      → SameObjects old new
  dates_objects None old new same = objects_self old new (ap (λ (s : SeatState V). s.view) same)
  dates_objects (Some s) old new walk =
      objects_then old walk.1.0 new
      (objects_step act.Date _ old walk.1.0 walk.1.1 (date_leaves d.shape))
      (objects_self walk.1.0 new (ap (λ (s : SeatState V). s.view) walk.1.2))

  -- what an exchange that took this out of a cell leaves of a view, once that is dated
  stays_dated : (i w : ℕ) (held : Option SlotId) (v : EpochView) (between new : SeatState V)
      → v.phase ≡ phase.Idle → between.view.core ≡ moved d.shape (act.Swap (Cell i) None) w v
      → held ≡ slot_in w → Dates fits d held between new → Stays v new.view.core
  stays_dated i w None v between new idle swaps is same =
      subst (λ (s : SeatState V). Stays v s.view.core) (sym same)
      (null_stays d.shape v between.view.core i w swaps (sym is))
  stays_dated i w (Some s) v between new idle swaps is walk =
      subst (λ (s : SeatState V). Stays v s.view.core) (sym walk.1.2)
      (dated_stays d.shape v between.view.core i w swaps s walk.1.1.word walk.1.0.view.core idle (sym is)
      walk.1.1.told.core)

module _ {P V : Type 0} (fits : List ℕ → Type 0) (d : DomainState P)
    (next : OwnPart → OwnPart → V → PlainAct → ℕ → V) (allows : Plain → Plain → ℕ → V → V → Type 0)
    (i : ℕ) (old new : SeatState V)
    (stored : IsStored fits d next allows (act.Swap (Cell i) None) old new)
    (all : EpochWhole) (knows : old.view.whole ≡ Some all) where
  abbrev swapped : Core
  swapped = after d.shape (core_in all) 0 (act.Swap (Cell i) None)

  abbrev ready : SeatState V
  ready = stored.1.ready

  abbrev between : SeatState V
  between = stored.1.between

  same : stored.1.ready.view ≡ old.view
  same = stored.1.reserved.1

  at_swap : StepsKnown fits d (act.Swap (Cell i) None) all stored.1.exchange.word ready between
  at_swap = steps_known fits d (act.Swap (Cell i) None) _ all ready between stored.1.exchange
      (ap (λ (v : EpochSeatView V). v.whole) same ∙ knows)

  some : 0 < d.shape.seats
  some = let s = at_swap.sound.shape.0 in omega (arith, s)

  core : Stays old.view.core new.view.core
  core =
      subst (λ (v : EpochSeatView V). Stays v.core new.view.core) same
      (stays_dated fits d i stored.1.exchange.word stored.0 ready.view.core between new
      (ap (λ (v : EpochView). v.phase) at_swap.mine ∙ at_swap.enabled.1.0.0)
      stored.1.exchange.told.core
      (found_is stored.0 (slot_in stored.1.exchange.word) stored.1.exchange.answers)
      stored.1.dates)

  objects : SameObjects old new
  objects =
      objects_then old ready new (objects_self old ready same)
      (objects_then ready between new
      (objects_step (act.Swap (Cell i) None) _ ready between stored.1.exchange (swap_leaves d.shape i))
      (dates_objects fits d stored.0 between new stored.1.dates))

  shape : old.view.core.shape ≡ d.shape
  shape = ap (λ (v : EpochSeatView V). v.core.shape) (sym same)
      ∙ (ap (λ (v : EpochView). v.shape) at_swap.mine ∙ (at_swap.sound.seats 0 some).same_shape)

  cells : KnowsBoth (HasOneCleared i) old.view new.view
  cells =
      let r = (dates_cells fits d stored.0 between new stored.1.dates).follows (whole_of swapped)
      at_swap.then in
      let does = swap_shows d.shape (core_in all) 0 at_swap.sound some (Cell i) None at_swap.enabled in
      record {
        before = shows d.shape (core_in all);
        now = shows d.shape (core_in r.0);
        knew = whole_shown d.shape old.view all shape knows;
        knows = whole_shown d.shape new.view r.0 (ap (λ (v : EpochView). v.shape) core ∙ shape) r.1;
        then = cleared_in (shows d.shape (core_in all)) (shows d.shape (core_in r.0)) i does.1.0
            (r.2 ∙ ap (λ (q : Plain). q.cells) does.1.2.2);
      }

  clears_known : ClearsCell i old new
  clears_known = record {
    cells = cells;
    core = core;
    objects = λ x has. objects.knows x (omega (arith, has));
  }

pub clears : {P V : Type 0} (fits : List ℕ → Type 0) (d : DomainState P)
    (next : OwnPart → OwnPart → V → PlainAct → ℕ → V) (allows : Plain → Plain → ℕ → V → V → Type 0)
    (i : ℕ) (old new : SeatState V)
    → IsStored fits d next allows (act.Swap (Cell i) None) old new → IsSome (own_of old.view).whole
    → ClearsCell i old new
clears fits d next allows i old new stored is =
    let k = core_known old.view is in clears_known fits d next allows i old new stored k.0 k.1
