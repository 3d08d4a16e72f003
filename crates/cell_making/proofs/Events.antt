-- How many events the calls make.
use Rattle.std.proofs.Common.{◌≡◌, ℕ, ◌+◌, ◌*◌, ◌≤◌, Bool, true, false, List, [], ◌∷◌, ◌++◌, length, length-append, refl, ap, sym, subst, arith}
use Rattle.std.specs.Prelude.{◌==◌, if◌then◌else◌, Option, Some, None}
use Rattle.std.proofs.lemmas.List.{length-map}
use Rattle.std.proofs.Math.Nat.{add-mul, mul-le-mul_right}
use Rattle.cell_calls.specs.cell_law.plain_state.declared.slot.SlotId.{SlotId}
use Rattle.epoch_refs.specs.plain_protocol.Owns.{OwnPart}
use Rattle.epoch_refs.specs.plain_protocol.plain_state.State.{Plain}
use Rattle.epoch_refs.specs.plain_protocol.plain_state.declared.act.EventPlace.{EventPlace}
use Rattle.epoch_refs.specs.plain_protocol.plain_state.declared.act.PlainAct.{PlainAct}
use Rattle.epoch_refs.specs.epoch_core.core_events.Views.{without}
use Rattle.epoch_refs.specs.epoch_core.core_events.Words.{slot_in}
use Rattle.epoch_refs.specs.epoch_core.declared.act.EpochAct.{EpochAct}
use Rattle.epoch_refs.specs.epoch_core.declared.act.EpochAct.TheVariants as act
use Rattle.epoch_refs.specs.epoch_core.declared.outcome.EpochOutcome.{EpochOutcome}
use Rattle.epoch_refs.specs.epoch_core.declared.outcome.EpochOutcome.TheVariants as outcome
use Rattle.epoch_refs.specs.epoch_core.declared.shape.EpochShape.{EpochShape}
use Rattle.epoch_refs.specs.epoch_core.declared.view.EpochMove.{EpochMove}
use Rattle.epoch_refs.specs.epoch_core.declared.view.EpochView.{EpochView}
use Rattle.epoch_refs.specs.epoch_core.Steps.{answer, changed, gave, moved, took}
use Rattle.epoch_refs.specs.epoch_rule.declared.view.EpochSeatView.{EpochSeatView}
use Rattle.epoch_refs.specs.epoch_domain.Calls.{IsSameView, Steps, same_view}
use Rattle.epoch_refs.specs.epoch_domain.Domains.{DomainState}
use Rattle.epoch_refs.specs.epoch_domain.Seats.{SeatState}
use Rattle.epoch_refs.specs.Exchanges.{Dates, IsStored, TakesOut}
use Rattle.epoch_refs.specs.Making.{Makes, begun_by, filled_by}
use Rattle.epoch_refs.specs.Searching.{IsFull, Try, taken_by}
use Rattle.epoch_refs.specs.Walks.{move}
use Rattle.cell_making.specs.Making.{IsFew}

-- SUMS
pub few_more : (n k e a b c : ℕ) → k ≡ n + 1 → b ≤ a + n * e → c ≤ b + e → c ≤ a + k * e
few_more n k e a b c is first second =
    let m = add-mul n 1 e in
    subst (λ (j : ℕ). c ≤ a + j * e) (sym is) (omega (arith, m, first, second))

pub few_less : (n k e a c : ℕ) → n ≤ k → c ≤ a + n * e → c ≤ a + k * e
few_less n k e a c low few = let m = mul-le-mul_right e low in omega (arith, m, few)

pub few_one : (k e a c : ℕ) → k ≡ 1 → c ≤ a + e → c ≤ a + k * e
few_one k e a c is few =
    subst (λ (j : ℕ). c ≤ a + j * e) (sym is) (omega (arith, few))

module _ {V : Type 0} where
  pub few_view : (n : ℕ) (old new : SeatState V) → new.view ≡ old.view → IsFew n old new
  few_view n old new is =
      let t = ap (λ (v : EpochSeatView V). length v.core.trail) is in omega (arith, t)

  pub few_same : (n : ℕ) (old new : SeatState V) → new ≡ old → IsFew n old new
  few_same n old new is = few_view n old new (ap (λ (s : SeatState V). s.view) is)

  pub few_then : (m n k : ℕ) (a b c : SeatState V) → IsFew m a b → IsFew n b c → m + n ≤ k
      → IsFew k a c
  few_then m n k a b c first second low = omega (arith, first, second, low)

-- one event that leaves the trail as it was, but that it joins it
one_event : (z : EpochShape) (a : EpochAct) (w : ℕ) (v u : EpochView) → u ≡ moved z a w v
    → (changed z a w v).trail ≡ v.trail → length u.trail ≡ length v.trail + 1
one_event z a w v u is same =
    let t = ap (λ (x : EpochView). length x.trail) is in
    let l = length-append (changed z a w v).trail (move a (answer a w v) ∷ []) in
    let k = ap (λ (ms : List EpochMove). length ms) same in
    omega (arith, t, l, k)

took_trail : (h : Option SlotId) (s : SlotId) (v : EpochView)
    → (took h (gave (Some s) v)).trail ≡ v.trail
took_trail None s v = refl
took_trail (Some x) s v = refl

cas_trail : (b : Bool) (h : Option SlotId) (s : SlotId) (v : EpochView)
    → (if b then took h (gave (Some s) v) else v).trail ≡ v.trail
cas_trail true h s v = took_trail h s v
cas_trail false h s v = refl

drop_trail : (b : Bool) (s : SlotId) (v : EpochView)
    → (if b then record v { dying = v.dying ++ s ∷ [] } else v).trail ≡ v.trail
drop_trail true s v = refl
drop_trail false s v = refl

module _ {P V : Type 0} (fits : List ℕ → Type 0) (d : DomainState P) (old new : SeatState V) where
  -- A MAKE
  begun_long : (tries : List Try) (s : SlotId) (payload : List ℕ)
      → length (begun_by tries s payload) ≡ length tries + 17
  begun_long tries s payload =
      let l = length-append (taken_by tries) (move (act.Claim s) outcome.Claimed ∷ filled_by payload)
      in
      let m = length-map tries (λ (t : Try). move (act.Claim t.slot) (outcome.Taken t.word)) in
      let sixteen : length (move (act.Claim s) outcome.Claimed ∷ filled_by payload) ≡ 17 = refl in
      omega (arith, l, m, sixteen)

  pub made_events : (next : OwnPart → OwnPart → V → PlainAct → ℕ → V)
      (allows : Plain → Plain → ℕ → V → V → Type 0) (payload : List ℕ) (s : SlotId)
      → Makes fits d next allows payload s old new → IsFew (d.shape.slots + 17) old new
  made_events next allows payload s makes =
      let tries = makes.begins.claims.tries in
      let few = makes.begins.few in
      let begun = begun_by tries s payload in
      let t = ap (λ (v : EpochView). length v.trail) makes.core in
      let l = length-append old.view.core.trail (begun ++ move act.Start outcome.Plain ∷ []) in
      let m = length-append begun (move act.Start outcome.Plain ∷ []) in
      let b = begun_long tries s payload in
      omega (arith, few, t, l, m, b)

  pub full_events : IsFull fits d old new → IsFew (d.shape.slots + 17) old new
  full_events full =
      let tries = full.misses.tries in
      let few = full.few in
      let t = ap (λ (v : EpochView). length v.trail) full.misses.goes.core in
      let l = length-append old.view.core.trail (taken_by tries) in
      let m = length-map tries (λ (t : Try). move (act.Claim t.slot) (outcome.Taken t.word)) in
      omega (arith, few, t, l, m)

  -- A REFERENCE that is given up
  pub drop_event : (s : SlotId) (o : EpochOutcome)
      → Steps fits d same_view IsSameView (act.Drop s) old new o → IsFew 1 old new
  drop_event s o step =
      let e = one_event d.shape (act.Drop s) step.word old.view.core new.view.core step.told.core
      (drop_trail (step.word == 1) s (record old.view.core {
        owned = without s old.view.core.owned;
      })) in
      omega (arith, e)

module _ {P V : Type 0} (fits : List ℕ → Type 0) (d : DomainState P) where
  date_event : (held : Option SlotId) (between new : SeatState V)
      → Dates fits d held between new → IsFew 1 between new
  date_event None between new is = few_same 1 between new is
  date_event (Some x) between new dates =
      let step = dates.1.1 in
      let e = one_event d.shape act.Date step.word between.view.core dates.1.0.view.core
      step.told.core refl in
      let same = ap (λ (s : SeatState V). length s.view.core.trail) dates.1.2 in
      omega (arith, e, same)

  module _ (next : OwnPart → OwnPart → V → PlainAct → ℕ → V)
      (allows : Plain → Plain → ℕ → V → V → Type 0) (old new : SeatState V) (p : EventPlace)
      (s : SlotId) where
    -- A STORE
    pub stored_events : IsStored fits d next allows (act.Swap p (Some s)) old new
        → IsFew 2 old new
    stored_events stored =
        let takes = stored.1 in
        let step = takes.exchange in
        let r = ap (λ (v : EpochSeatView V). length v.core.trail) takes.reserved.1 in
        let e = one_event d.shape (act.Swap p (Some s)) step.word takes.ready.view.core
        takes.between.view.core step.told.core
        (took_trail (slot_in step.word) s takes.ready.view.core) in
        let t = date_event stored.0 takes.between new takes.dates in
        omega (arith, r, e, t)

    -- AN EXCHANGE where null is expected
    pub cas_event : (o : EpochOutcome)
        → TakesOut fits d next allows (act.Cas p None (Some s)) o None old new → IsFew 1 old new
    cas_event o takes =
        let step = takes.exchange in
        let r = ap (λ (v : EpochSeatView V). length v.core.trail) takes.reserved.1 in
        let e = one_event d.shape (act.Cas p None (Some s)) step.word takes.ready.view.core
        takes.between.view.core step.told.core
        (cas_trail (step.word == 0) (slot_in step.word) s takes.ready.view.core) in
        let t = ap (λ (x : SeatState V). length x.view.core.trail) takes.dates in
        omega (arith, r, e, t)
