-- Flushes of a seat that is alone leave what each cell holds.
use Rattle.std.proofs.Common.{◌≡◌, ◌≢◌, ℕ, zero, suc, ◌+◌, ◌<◌, Bool, true, false, List, [], ◌∷◌, map, set, refl, ap, ◌∙◌, arith}
use Rattle.std.specs.Prelude.{Option, Some, None, slice_index, Result, Ok, Err, OnOk, IfOk}
use Rattle.std.proofs.lemmas.List.{get_or-set_other, set-get_or}
use Rattle.core_law.proofs.Lists.{each_same}
use Rattle.epoch_settling.specs.epoch_core.core_events.Words.{each_from, slot_in}
use Rattle.epoch_settling.specs.epoch_core.plain_state.declared.slot.SlotId.{SlotId}
use Rattle.epoch_settling.specs.epoch_core.declared.act.Dated.{Dated}
use Rattle.epoch_settling.specs.epoch_core.declared.act.EpochAct.{EpochAct}
use Rattle.epoch_settling.specs.epoch_core.declared.act.EpochAct.TheVariants as act
use Rattle.epoch_settling.specs.epoch_core.declared.outcome.EpochOutcome.{EpochOutcome}
use Rattle.epoch_settling.specs.epoch_core.declared.outcome.EpochOutcome.TheVariants as outcome
use Rattle.epoch_settling.specs.epoch_core.declared.shape.EpochShape.{EpochShape}
use Rattle.epoch_settling.specs.epoch_core.Runs.{Core, after, view_at}
use Rattle.epoch_settling.specs.epoch_core.Shows.{shows}
use Rattle.epoch_settling.specs.epoch_core.Steps.{scanned_at}
use Rattle.epoch_settling.specs.epoch_core.Words.{cell_at, epoch_at}
use Rattle.epoch_refs.specs.declared.flushing.EpochWork.{EpochWork}
use Rattle.epoch_refs.specs.Exchanges.{Dates}
use Rattle.epoch_refs.specs.Flushing.{Clears, DestroysEach, Flushes, scans, tries}
use Rattle.epoch_refs.specs.Walks.{Walks, move}
use Rattle.epoch_refs.specs.epoch_domain.Calls.{IsSameView, Steps, same_view}
use Rattle.epoch_refs.specs.epoch_domain.Domains.{DomainState}
use Rattle.epoch_refs.specs.epoch_domain.Seats.{SeatState}
use Rattle.epoch_refs.specs.epoch_rule.declared.view.EpochSeatView.{EpochSeatView}
use Rattle.epoch_refs.specs.epoch_rule.declared.view.EpochWhole.{EpochWhole}
use Rattle.epoch_refs.specs.epoch_rule.Views.{core_in, whole_of}
use Rattle.epoch_settling.specs.Settling.{FlushesEach, Settles}
use Rattle.epoch_settling.proofs.Whole.{walks_split}
use Rattle.epoch_alone.specs.Cells.{HaveSameCells}
use Rattle.epoch_alone.specs.Lone.{KnowsBoth}
use Rattle.epoch_alone.proofs.Known.{steps_known, whole_shown}

-- what the cells hold, by the words
abbrev pub cells_in : EpochShape → List ℕ → List (Option SlotId)
cells_in z ws = each_from 0 z.cells (λ i. slot_in (slice_index ws (cell_at z i)))

-- an act leaves that, whatever the state
abbrev pub LeavesCells : EpochShape → EpochAct → Type 0
LeavesCells z a = (c : Core) → cells_in z (after z c 0 a).words ≡ cells_in z c.words

-- a word that is no cell's is written
cells_off : (z : EpochShape) (ws : List ℕ) (p w : ℕ) → ((i : ℕ) → i < z.cells → cell_at z i ≢ p)
    → cells_in z (set ws p w) ≡ cells_in z ws
cells_off z ws p w off =
    each_same z.cells (λ i. slot_in (slice_index ws (cell_at z i)))
    (λ i. slot_in (slice_index (set ws p w) (cell_at z i)))
    (λ i low. ap slot_in (get_or-set_other ws p (cell_at z i) w 0 (off i low)))

-- no word is written
cells_still : (z : EpochShape) (ws : List ℕ) (p : ℕ)
    → cells_in z (set ws p (slice_index ws p)) ≡ cells_in z ws
cells_still z ws p = ap (cells_in z) (set-get_or ws p 0)

flush_leaves : (z : EpochShape) → LeavesCells z act.Flush
flush_leaves z c = cells_still z c.words epoch_at

scan_leaves : (z : EpochShape) → LeavesCells z act.Scan
scan_leaves z c = cells_still z c.words (scanned_at (view_at c 0).phase)

advance_leaves : (z : EpochShape) → LeavesCells z act.Advance
advance_leaves z c = cells_off z c.words epoch_at _ (λ i low. omega arith)

pay_leaves : (z : EpochShape) (x : Dated) → LeavesCells z (act.Pay x)
pay_leaves z x c = cells_off z c.words _ _ (λ i low. omega arith)

clear_leaves : (z : EpochShape) (s : SlotId) (i : ℕ) → LeavesCells z (act.Clear s i)
clear_leaves z s i c = cells_off z c.words _ _ (λ j low. omega arith)

date_leaves : (z : EpochShape) → LeavesCells z act.Date
date_leaves z c = cells_still z c.words epoch_at

see_leaves : (z : EpochShape) (s : SlotId) (i : ℕ) → LeavesCells z (act.See s i)
see_leaves z s i c = cells_still z c.words _

free_leaves : (z : EpochShape) (s : SlotId) → LeavesCells z (act.Free s)
free_leaves z s c = cells_off z c.words _ _ (λ i low. omega arith)

module _ {P V : Type 0} (fits : List ℕ → Type 0) (d : DomainState P) where
  -- Where the seat knew the core it knows one now, with the same in its cells.
  pub record SameCells (old new : SeatState V) : Type 0 where
    pub follows :
        (all : EpochWhole) → old.view.whole ≡ Some all
        → (now : EpochWhole) × (new.view.whole ≡ Some now)
        × (cells_in d.shape now.words ≡ cells_in d.shape all.words)

  cells_view : (a b : SeatState V) → b.view ≡ a.view → SameCells a b
  cells_view a b same = record {
    follows = λ all knows. (all, ap (λ (v : EpochSeatView V). v.whole) same ∙ knows, refl);
  }

  cells_self : (a b : SeatState V) → b ≡ a → SameCells a b
  cells_self a b same = cells_view a b (ap (λ (s : SeatState V). s.view) same)

  cells_then : (a b c : SeatState V) → SameCells a b → SameCells b c → SameCells a c
  cells_then a b c first second = record {
    follows = λ all knows.
        let f = first.follows all knows in
        let s = second.follows f.0 f.1 in
        (s.0, s.1, s.2 ∙ f.2);
  }

  cells_step : (a : EpochAct) (o : EpochOutcome) (old new : SeatState V)
      → Steps fits d same_view IsSameView a old new o → LeavesCells d.shape a → SameCells old new
  cells_step a o old new step leaves = record {
    follows = λ all knows.
        let s = steps_known fits d a o all old new step knows in
        (whole_of (after d.shape (core_in all) 0 a), s.then, leaves (core_in all));
  }

  scans_cells : (words : List ℕ) (old new : SeatState V) → Walks fits d (scans words) old new
      → SameCells old new
  scans_cells [] old new walk = cells_self old new walk
  scans_cells (w ∷ words) old new walk =
      cells_then old walk.0 new (cells_step act.Scan _ old walk.0 walk.1 (scan_leaves d.shape))
      (scans_cells words walk.0 new walk.2)

  tries_cells : (b : Bool) (o : EpochOutcome) (old new : SeatState V) → Walks fits d (tries b o) old new
      → SameCells old new
  tries_cells true o old new walk =
      cells_then old walk.0 new (cells_step act.Advance o old walk.0 walk.1 (advance_leaves d.shape))
      (cells_self walk.0 new walk.2)
  tries_cells false o old new walk = cells_self old new walk

  pays_cells : (paid : List (Dated × EpochOutcome)) (old new : SeatState V)
      → Walks fits d (map (λ (p : Dated × EpochOutcome). move (act.Pay p.0) p.1) paid) old new
      → SameCells old new
  pays_cells [] old new walk = cells_self old new walk
  pays_cells (p ∷ paid) old new walk =
      cells_then old walk.0 new
      (cells_step (act.Pay p.0) p.1 old walk.0 walk.1 (pay_leaves d.shape p.0))
      (pays_cells paid walk.0 new walk.2)

  sees_cells : (k n : ℕ) (x : SlotId) (payload : List ℕ) (old new : SeatState V)
      → Walks fits d (each_from k n (λ i. move (act.See x i) (outcome.Word (slice_index payload i)))) old new
      → SameCells old new
  sees_cells k zero x payload old new walk = cells_self old new walk
  sees_cells k (suc n) x payload old new walk =
      cells_then old walk.0 new
      (cells_step (act.See x k) _ old walk.0 walk.1 (see_leaves d.shape x k))
      (sees_cells (k + 1) n x payload walk.0 new walk.2)

  pub dates_cells : (held : Option SlotId) (old new : SeatState V) → Dates fits d held old new
      → SameCells old new
  dates_cells None old new same = cells_self old new same
  dates_cells (Some s) old new walk =
      cells_then old walk.1.0 new
      (cells_step act.Date _ old walk.1.0 walk.1.1 (date_leaves d.shape))
      (cells_self walk.1.0 new walk.1.2)

  clears_cells : (x : SlotId) (i : ℕ) (old new : SeatState V) → Clears fits d x i old new
      → SameCells old new
  clears_cells x i old new c =
      cells_then old c.between new
      (cells_step (act.Clear x i) _ old c.between c.clears (clear_leaves d.shape x i))
      (dates_cells c.held c.between new c.dates)

  destroys_cells : (weight : List ℕ → ℕ) (ended : List (SlotId × ℕ)) (old new : SeatState V)
      → DestroysEach fits d weight ended old new → SameCells old new
  destroys_cells weight [] old new same = cells_self old new same
  destroys_cells weight (x ∷ ended) old new each =
      let g = each.1 in
      cells_then old g.first new (clears_cells x.0 0 old g.first g.clears_first)
      (cells_then g.first g.second new (clears_cells x.0 1 g.first g.second g.clears_second)
      (cells_then g.second g.read new (sees_cells 0 16 x.0 g.payload g.second g.read g.sees)
      (cells_then g.read each.0 new
      (cells_step (act.Free x.0) _ g.read each.0 g.frees (free_leaves d.shape x.0))
      (destroys_cells weight ended each.0 new each.2))))

  flush_cells : (weight : List ℕ → ℕ) (work : EpochWork) (old new : SeatState V)
      → Flushes fits d weight work old new → SameCells old new
  flush_cells weight work old new f =
      let walk = f.sweeps.walks in
      let parts = walks_split fits d (scans f.sweeps.words) _ walk.0 f.swept walk.2 in
      cells_then old f.ready new (cells_view old f.ready f.reserved.1)
      (cells_then f.ready walk.0 new
      (cells_step act.Flush _ f.ready walk.0 walk.1 (flush_leaves d.shape))
      (cells_then walk.0 parts.0 new (scans_cells f.sweeps.words walk.0 parts.0 parts.1)
      (cells_then parts.0 f.swept new (tries_cells _ f.sweeps.answer parts.0 f.swept parts.2)
      (cells_then f.swept f.given new (pays_cells f.entries f.swept f.given f.pays.walks)
      (destroys_cells weight f.ended f.given new f.destroys)))))

  flushes_cells : (weight : List ℕ → ℕ) (works : List EpochWork) (old new : SeatState V)
      → FlushesEach fits d weight works old new → SameCells old new
  flushes_cells weight [] old new same = cells_self old new same
  flushes_cells weight (work ∷ works) old new each =
      cells_then old each.0 new (flush_cells weight work old each.0 each.1)
      (flushes_cells weight works each.0 new each.2)

  -- what it knows of both states
  both_known : (old new : SeatState V) → old.view.core.shape ≡ d.shape
      → new.view.core.shape ≡ d.shape → (all : EpochWhole) → old.view.whole ≡ Some all
      → SameCells old new → KnowsBoth HaveSameCells old.view new.view
  both_known old new shape shape' all knows same =
      let s = same.follows all knows in
      record {
        before = shows d.shape (core_in all);
        now = shows d.shape (core_in s.0);
        knew = whole_shown d.shape old.view all shape knows;
        knows = whole_shown d.shape new.view s.0 shape' s.1;
        then = s.2;
      }

  pub settles_cells : (weight : List ℕ → ℕ) {E : Type 0} (r : Result ℕ E) (old new : SeatState V)
      → old.view.core.shape ≡ d.shape → new.view.core.shape ≡ d.shape → (all : EpochWhole)
      → old.view.whole ≡ Some all → IfOk r (λ n. Settles fits d weight n old new)
      → OnOk r (KnowsBoth HaveSameCells old.view new.view)
  settles_cells weight (Ok n) old new shape shape' all knows s =
      both_known old new shape shape' all knows (flushes_cells weight s.works old new s.flushes)
  settles_cells weight (Err e) old new shape shape' all knows s = tt
