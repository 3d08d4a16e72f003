-- A head goes into a cell, or the cell was taken.
use Rattle.std.proofs.Common.{◌≡◌, ⊎_elim, inr, ℕ, zero, suc, ◌+◌, ◌-◌, ◌<◌, Bool, true, false, List, ◌∷◌, length, refl, ap, sym, ◌∙◌, subst, arith}
use Rattle.std.specs.Prelude.{◌==◌, if◌then◌else◌, Err, Option, Result, Some, None, sum}
use Rattle.std.proofs.lemmas.Bool.Decides.{nat_tests}
use Rattle.control_word.specs.counted_handles.Handles.{Handle}
use Rattle.cell_calls.specs.cell_law.plain_state.declared.slot.SlotId.{SlotId}
use Rattle.cell_calls.specs.cell_law.directory_law.Cells.{Area, on}
use Rattle.cell_calls.specs.cell_law.directory_law.Making.{first_noted}
use Rattle.cell_calls.specs.cell_law.directory_law.Views.{rope}
use Rattle.cell_calls.specs.cell_law.Making.{BindReady, BindTells, LosesCell, WinsCell, bind_next, binds, sees}
use Rattle.cell_calls.specs.cell_law.Views.{Unseen}
use Rattle.cell_calls.specs.cell_law.Walks.{last_sight}
use Rattle.cell_calls.specs.cell_law.declared.view.View.{View}
use Rattle.cell_calls.specs.cell_protocol.declared.law.CellLaw.{CellLaw}
use Rattle.cell_calls.specs.Cells.{BindsAlone, HasBind, IsOver, area_of}
use Rattle.cell_calls.specs.Keeping.{Learns}
use Rattle.epoch_refs.specs.plain_protocol.Owns.{OwnPart}
use Rattle.epoch_refs.specs.plain_protocol.plain_state.State.{Plain}
use Rattle.epoch_refs.specs.plain_protocol.plain_state.declared.act.EventPlace.{EventPlace}
use Rattle.epoch_refs.specs.plain_protocol.plain_state.declared.act.EventPlace.TheVariants.{Cell}
use Rattle.epoch_refs.specs.plain_protocol.plain_state.declared.act.PlainAct.{PlainAct}
use Rattle.epoch_refs.specs.plain_protocol.plain_state.declared.act.PlainAct.TheVariants as plain
use Rattle.epoch_refs.specs.plain_protocol.plain_state.Fits.{AllFit}
use Rattle.epoch_refs.specs.epoch_core.core_events.declared.shape.Quota.{Quota}
use Rattle.epoch_refs.specs.epoch_core.declared.act.EpochAct.{EpochAct}
use Rattle.epoch_refs.specs.epoch_core.declared.act.EpochAct.TheVariants as act
use Rattle.epoch_refs.specs.epoch_core.declared.outcome.EpochOutcome.TheVariants as outcome
use Rattle.epoch_refs.specs.epoch_core.declared.shape.EpochShape.{EpochShape}
use Rattle.epoch_refs.specs.epoch_core.declared.view.EpochView.{EpochView}
use Rattle.epoch_refs.specs.epoch_core.Runs.{after}
use Rattle.epoch_refs.specs.epoch_core.Shows.{shows}
use Rattle.epoch_refs.specs.epoch_rule.declared.view.EpochSeatView.{EpochSeatView}
use Rattle.epoch_refs.specs.epoch_rule.Told.{Happened}
use Rattle.epoch_refs.specs.epoch_rule.Views.{own_of}
use Rattle.epoch_refs.specs.epoch_domain.Domains.{DomainState}
use Rattle.epoch_refs.specs.epoch_domain.Seats.{SeatState}
use Rattle.epoch_refs.specs.declared.exchanges.ECasError.{ECasError}
use Rattle.epoch_refs.specs.declared.exchanges.ECasError.TheVariants as refused
use Rattle.epoch_refs.specs.Exchanges.{IsExchanged, IsLost, TakesOut}
use Rattle.cell_making.specs.Bindings.{CanBind, SeesHead, WinsAt}
use Rattle.cell_making.proofs.Exchanged.{dates_client, lost_some, put_none}
use Rattle.cell_making.proofs.Slots.{own_life, owned_has}

module _ (d : DomainState CellLaw) (over : IsOver d) (cell : ℕ) (s : SlotId) (seat : SeatState View)
    (may : HasBind seat) (can : CanBind d cell s seat) where
  -- the cell is one of the domain
  pub is_there : cell < d.shape.cells
  is_there =
      let at = can.at in let cells = over.cells in let some = over.some_cells in
      omega (arith, at, cells, some)

  at_first : Cell cell ≡ Cell (d.protocol.first + on (area_of d.protocol) can.text can.passed)
  at_first =
      let e : cell ≡ d.protocol.first + on (area_of d.protocol) can.text can.passed =
      let at = can.at in let first = over.first in omega (arith, at, first) in
      ap (λ (c : ℕ). Cell c) e

  -- THE DEED of a bind is ready
  pub bind_ready : BindReady (area_of d.protocol) (own_of seat.view) seat.view.client
      (plain.TryReplace (Cell cell) None (Some s))
  bind_ready = record {
    slot = s;
    text = can.text;
    passed = can.passed;
    act_is = ap (λ (p : EventPlace). plain.TryReplace p None (Some s)) at_first;
    some_cells = let cells = over.cells in let some = over.some_cells in omega (arith, cells, some);
    is_open = can.is_open;
    granted = may;
    owned = can.head.owned;
    is_word = can.head.is_word;
    walked = can.walked;
    others = can.head.others;
    noted = can.head.noted
        ∙ ap (λ (n : ℕ). rope s n can.text ∷ can.head.others)
        (sym (own_life s seat (owned_has s seat can.head.owned)));
  }

-- an exchange that lost
pub lost_of : {P V : Type 0} (fits : List ℕ → Type 0) (d : DomainState P)
    (next : OwnPart → OwnPart → V → PlainAct → ℕ → V)
    (allows : Plain → Plain → ℕ → V → V → Type 0) (place : EventPlace) (expected : Option SlotId)
    (handle back : Option Handle) (now : ℕ) (r : Result (Unit {0}) ECasError)
    (old new : SeatState V) → r ≡ Err (refused.Lost now back)
    → IsExchanged fits d next allows place expected handle r old new
    → IsLost fits d next allows place expected handle back now old new
lost_of fits d next allows place expected handle back now r old new is done =
    subst (λ (x : Result (Unit {0}) ECasError).
    IsExchanged fits d next allows place expected handle x old new) is done

-- WHAT THE VIEW IS after a bind
module _ (fits : List ℕ → Type 0) (d : DomainState CellLaw) (z : Area)
    (allows : Plain → Plain → ℕ → View → View → Type 0) (cell : ℕ) (s : SlotId)
    (old new : SeatState View) where
  pub bound : TakesOut fits d (bind_next z) allows (act.Cas (Cell cell) None (Some s)) outcome.Done
      None old new → new.view.client ≡ binds (cell - z.first) old.view.client
  bound takes =
      let step = takes.exchange in
      dates_client fits d None takes.between new takes.dates
      ∙ step.told.client
      ∙ ap (λ (b : Bool). if b then binds (cell - z.first) takes.ready.view.client
      else sees (cell - z.first) step.word takes.ready.view.client)
      (put_none step.word step.answers)
      ∙ ap (λ (v : EpochSeatView View). binds (cell - z.first) v.client) takes.reserved.1

  pub bound_there : z.first ≡ 0
      → TakesOut fits d (bind_next z) allows (act.Cas (Cell cell) None (Some s)) outcome.Done None old
      new → new.view.client ≡ binds cell old.view.client
  bound_there first takes =
      let e : cell - z.first ≡ cell = omega (arith, first) in
      bound takes ∙ ap (λ (c : ℕ). binds c old.view.client) e

  saw_one : (w : ℕ) (v : View) → (w == 0) ≡ false → z.first ≡ 0
      → (n : ℕ) × (sees (cell - z.first) w v ≡ sees cell (suc n) v)
  saw_one zero v other first = absurd (cc (other))
  saw_one (suc n) v other first =
      let e : cell - z.first ≡ cell = omega (arith, first) in
      (n, ap (λ (c : ℕ). sees c (suc n) v) e)

  lost_learns : (n : ℕ) (v w : View) → w ≡ sees cell (suc n) v → Learns v w
  lost_learns n v w is = subst (λ (x : View). Learns v x) (sym is) (record {
    saw = λ e i. inr i;
    found = λ e i. i;
    rest = refl;
  })

  pub lost_sees : (held : Option SlotId) → z.first ≡ 0
      → TakesOut fits d (bind_next z) allows (act.Cas (Cell cell) None (Some s))
      (outcome.LostTo held) None old new
      → SeesHead cell old.view.client new.view.client
  lost_sees held first takes =
      let step = takes.exchange in
      let other = lost_some step.word held step.answers in
      let saw = saw_one step.word old.view.client other first in
      let next : new.view.client ≡ sees cell (suc saw.0) old.view.client =
      dates_client fits d None takes.between new takes.dates
      ∙ step.told.client
      ∙ ap (λ (b : Bool). if b then binds (cell - z.first) takes.ready.view.client
      else sees (cell - z.first) step.word takes.ready.view.client) other
      ∙ ap (λ (v : EpochSeatView View). sees (cell - z.first) step.word v.client) takes.reserved.1
      ∙ saw.1 in
      record {
        holder = saw.0;
        next = next;
        learns = lost_learns saw.0 old.view.client new.view.client next;
      }

-- THE BOUND HEAD is the record of its text
no_longer : {A : Type 0} (x : A) (xs ys : List A) → ys ≡ x ∷ xs → ys ≡ xs → ⊥
no_longer x xs ys more same =
    let a = ap length more in
    let b = ap length same in
    omega (arith, a, b)

happened_so : (z : EpochShape) (qs : List Quota) (n : ℕ) (v : EpochView) (a : EpochAct) (w : ℕ)
    (Fact So : Plain → Plain → Type 0) → ((p q : Plain) → Fact p q → So p q)
    → Happened z qs n v a w Fact → Happened z qs n v a w So
happened_so z qs n v a w Fact So so h = record {
  shape = h.shape;
  quotas = h.quotas;
  events = h.events;
  before = h.before;
  history = h.history;
  view = h.view;
  enabled = h.enabled;
  found = h.found;
  fact = so (shows z h.before) (shows z (after z h.before n a)) h.fact;
}

none_there : (w : ℕ) → (w == 0) ≡ true → w ≡ 0
none_there w is = grind (arith, nat_tests)

module _ (fits : List ℕ → Type 0) (d : DomainState CellLaw) (cell : ℕ) (s : SlotId)
    (old new : SeatState View) where
  wins : (p q : Plain) (n c : ℕ) (v w : View) → w ≡ binds c v → BindTells (area_of d.protocol) p q n v w
      → WinsCell (area_of d.protocol) p q v w
  wins p q n c v w is tells = ⊎_elim
      (λ (won : WinsCell (area_of d.protocol) p q v w). won)
      (λ (lost : LosesCell (area_of d.protocol) p q v w).
      absurd (no_longer (first_noted v.noted) v.bound w.bound (ap (λ (x : View). x.bound) is)
      (ap (λ (x : View). x.bound) lost.next)))
      tells.1

  pub won : TakesOut fits d (bind_next (area_of d.protocol)) (BindTells (area_of d.protocol))
      (act.Cas (Cell cell) None (Some s)) outcome.Done None old new
      → WinsAt d cell s old new
  won takes =
      let ready = takes.ready in
      let step = takes.exchange in
      let same = dates_client fits d None takes.between new takes.dates in
      let is = sym same ∙ bound fits d (area_of d.protocol) (BindTells (area_of d.protocol)) cell s
      old new takes
      ∙ ap (λ (v : EpochSeatView View). binds (cell - d.protocol.first) v.client)
      (sym takes.reserved.1) in
      let there : Happened d.shape d.quotas ready.view.core.seat ready.view.core
      (act.Cas (Cell cell) None (Some s)) step.word
      (λ p q. WinsCell (area_of d.protocol) p q ready.view.client takes.between.view.client) =
      happened_so d.shape d.quotas ready.view.core.seat ready.view.core
      (act.Cas (Cell cell) None (Some s)) step.word
      (λ p q. AllFit fits p × AllFit fits q
      × BindTells (area_of d.protocol) p q ready.view.core.seat ready.view.client
      takes.between.view.client)
      (λ p q. WinsCell (area_of d.protocol) p q ready.view.client takes.between.view.client)
      (λ p q all. wins p q ready.view.core.seat (cell - d.protocol.first) ready.view.client
      takes.between.view.client is all.2)
      step.told.happened in
      subst (λ (x : ℕ × EpochSeatView View × View).
      Happened d.shape d.quotas x.1.core.seat x.1.core (act.Cas (Cell cell) None (Some s)) x.0
      (λ p q. WinsCell (area_of d.protocol) p q x.1.client x.2))
      (λ i. (
        none_there step.word (put_none step.word step.answers) i,
        takes.reserved.1 i,
        sym same
            i,
      )) there

  -- where a cell in which nothing was seen was taken, it wasn't all granted to this seat
  loses : (p q : Plain) (n holder : ℕ) (v w : View) → w ≡ sees cell (suc holder) v
      → BindTells (area_of d.protocol) p q n v w → Unseen v cell
      → v.grant < sum (area_of d.protocol).interns
  loses p q n holder v w is tells unseen = ⊎_elim
      (λ (won : WinsCell (area_of d.protocol) p q v w).
      absurd (no_longer (first_noted v.noted) v.bound w.bound (ap (λ (x : View). x.bound) won.next)
      (ap (λ (x : View). x.bound) is)))
      (λ (lost : LosesCell (area_of d.protocol) p q v w).
      let at : lost.at ≡ cell =
      ap (λ (x : View). (last_sight x.seen).cell) (sym lost.next ∙ is) in
      lost.other (λ e i some there. unseen e i some (there ∙ at)))
      tells.1

  pub anothers : (held : Option SlotId) → d.protocol.first ≡ 0
      → TakesOut fits d (bind_next (area_of d.protocol)) (BindTells (area_of d.protocol))
      (act.Cas (Cell cell) None (Some s)) (outcome.LostTo held) None old new
      → Unseen old.view.client cell → ¬ (BindsAlone d old)
  anothers held first takes unseen alone =
      let ready = takes.ready in
      let step = takes.exchange in
      let same = dates_client fits d None takes.between new takes.dates in
      let from : ready.view.client ≡ old.view.client =
      ap (λ (v : EpochSeatView View). v.client) takes.reserved.1 in
      let sees_one = lost_sees fits d (area_of d.protocol) (BindTells (area_of d.protocol)) cell s old
      new held first takes in
      let is : takes.between.view.client ≡ sees cell (suc sees_one.holder) ready.view.client =
      sym same ∙ sees_one.next
      ∙ ap (λ (v : View). sees cell (suc sees_one.holder) v) (sym from) in
      let less = loses _ _ ready.view.core.seat sees_one.holder ready.view.client
      takes.between.view.client is step.told.happened.fact.2
      (subst (λ (v : View). Unseen v cell) (sym from) unseen) in
      let grant = ap (λ (v : View). v.grant) from in
      omega (arith, less, grant, alone)
