-- References that are given up, the first one first: what the seat owns then, and that no cell changes.
use Rattle.std.proofs.Common.{◌≡◌, ◌≢◌, ℕ, ◌+◌, ◌<◌, ◌≤◌, List, [], ◌∷◌, ◌++◌, set, refl, ap, sym, ◌∙◌, arith}
use Rattle.std.specs.Prelude.{IsSome, slice_index}
use Rattle.std.proofs.lemmas.List.{get_or-set_other, map-append}
use Rattle.cell_intern.specs.cell_calls.cell_law.declared.view.View.{View}
use Rattle.cell_intern.specs.cell_calls.cell_law.plain_state.Lists.{times}
use Rattle.cell_intern.specs.cell_calls.cell_law.plain_state.declared.slot.SlotId.{SlotId}
use Rattle.cell_intern.specs.cell_calls.cell_protocol.declared.law.CellLaw.{CellLaw}
use Rattle.cell_intern.proofs.Below.cell_making_Kept.{drop_keeps}
use Rattle.epoch_alone.proofs.Below.core_law_Kit.{one_same, times_append, times_cons, times_none, times_without}
use Rattle.epoch_alone.proofs.Below.core_law_Lists.{each_same}
use Rattle.epoch_alone.specs.Cells.{HaveSameCells}
use Rattle.epoch_alone.specs.Lone.{KnowsBoth}
use Rattle.epoch_alone.proofs.CellsStay.{LeavesCells, cells_in}
use Rattle.epoch_alone.proofs.Known.{core_known, steps_known, whole_shown}
use Rattle.epoch_alone.specs.epoch_core.Runs.{after}
use Rattle.epoch_alone.specs.epoch_core.Shows.{shows}
use Rattle.epoch_alone.specs.epoch_core.Words.{cell_at}
use Rattle.epoch_alone.specs.epoch_core.core_events.Words.{slot_in}
use Rattle.epoch_alone.specs.epoch_core.declared.act.EpochAct.TheVariants as act
use Rattle.epoch_alone.specs.epoch_core.declared.outcome.EpochOutcome.{EpochOutcome}
use Rattle.epoch_alone.specs.epoch_core.declared.shape.EpochShape.{EpochShape}
use Rattle.cell_intern.specs.epoch_refs.epoch_domain.Calls.{IsSameView, Steps, same_view}
use Rattle.cell_intern.specs.epoch_refs.epoch_domain.Domains.{DomainState}
use Rattle.cell_intern.specs.epoch_refs.epoch_domain.Seats.{SeatState}
use Rattle.cell_intern.specs.epoch_refs.epoch_rule.Views.{core_in, own_of, whole_of}
use Rattle.lane_work.specs.Keeping.{slots_of}
use Rattle.lane_work.specs.counted_handles.Handles.{Handle}

-- a word that is no cell's is written
cells_off : (z : EpochShape) (ws : List ℕ) (p w : ℕ) → ((i : ℕ) → i < z.cells → cell_at z i ≢ p)
    → cells_in z (set ws p w) ≡ cells_in z ws
cells_off z ws p w off =
    each_same z.cells (λ i. slot_in (slice_index ws (cell_at z i)))
    (λ i. slot_in (slice_index (set ws p w) (cell_at z i)))
    (λ i low. ap slot_in (get_or-set_other ws p (cell_at z i) w 0 (off i low)))

drop_leaves : (z : EpochShape) (s : SlotId) → LeavesCells z (act.Drop s)
drop_leaves z s c = cells_off z c.words _ _ (λ i low. omega arith)

module _ (fits : List ℕ → Type 0) (d : DomainState CellLaw) (s : SlotId) (o : EpochOutcome)
    (old new : SeatState View) (step : Steps fits d same_view IsSameView (act.Drop s) old new o) where
  -- one that is given up changes no cell
  pub drop_cells : old.view.core.shape ≡ d.shape → new.view.core.shape ≡ d.shape
      → IsSome (own_of old.view).whole → KnowsBoth HaveSameCells old.view new.view
  drop_cells shape shape' is =
      let k = core_known old.view is in
      let c = core_in k.0 in
      let knows = steps_known fits d (act.Drop s) o k.0 old new step k.1 in
      record {
        before = shows d.shape c;
        now = shows d.shape (after d.shape c 0 (act.Drop s));
        knew = whole_shown d.shape old.view k.0 shape k.1;
        knows = whole_shown d.shape new.view (whole_of (after d.shape c 0 (act.Drop s))) shape'
            knows.then;
        then = drop_leaves d.shape s c;
      }

  -- and is owned once less
  pub drop_owns : 0 < times s old.view.core.owned → (x : SlotId)
      → times x new.view.core.owned + times x (s ∷ []) ≡ times x old.view.core.owned
  drop_owns owned x =
      let k = (drop_keeps fits d old new s o step).owns x in
      let w = times_without x s old.view.core.owned owned in
      let p = times_cons x s [] in let z = times_none x in omega (arith, k, w, p, z)

times_both : (x : SlotId) (xs ys : List Handle)
    → times x (slots_of (xs ++ ys)) ≡ times x (slots_of xs) + times x (slots_of ys)
times_both x xs ys =
    ap (times x) (map-append (λ (h : Handle). h.slot) xs ys)
    ∙ times_append x (slots_of xs) (slots_of ys)

module _ (all gone left rest : List Handle) (h : Handle) (is : gone ++ left ≡ all)
    (next : left ≡ h ∷ rest) (a b : SeatState View)
    (gives : (x : SlotId)
    → times x b.view.core.owned + times x (slots_of gone) ≡ times x a.view.core.owned)
    (own : (s : SlotId) → times s (slots_of all) ≤ times s a.view.core.owned) where
  -- the next one is owned
  pub next_owned : 0 < times h.slot b.view.core.owned
  next_owned =
      let sum = ap (λ (hs : List Handle). times h.slot (slots_of hs)) (sym is) in
      let split = times_both h.slot gone left in
      let first = ap (λ (hs : List Handle). times h.slot (slots_of hs)) next in
      let cons = times_cons h.slot h.slot (slots_of rest) in
      let one = one_same h.slot h.slot refl in
      let most = own h.slot in let had = gives h.slot in
      omega (arith, sum, split, first, cons, one, most, had)

-- one after others
pub gives_more : (gone : List Handle) (h : Handle) (a b c : SeatState View)
    → ((x : SlotId)
    → times x b.view.core.owned + times x (slots_of gone) ≡ times x a.view.core.owned)
    → ((x : SlotId)
    → times x c.view.core.owned + times x (slots_of (h ∷ [])) ≡ times x b.view.core.owned)
    → (x : SlotId)
    → times x c.view.core.owned + times x (slots_of (gone ++ h ∷ [])) ≡ times x a.view.core.owned
gives_more gone h a b c first second x =
    let p = first x in let q = second x in let r = times_both x gone (h ∷ []) in
    omega (arith, p, q, r)
