-- What a step finds in a place is null, or the number of a slot of the domain and one.
use Rattle.std.proofs.Common.{◌≡◌, ℕ, ◌<◌, ◌^◌, List, ap, ◌∙◌, subst, arith, refl}
use Rattle.std.specs.Prelude.{slice_index, Option}
use Rattle.atomic_table.specs.declared.shared.Seat.{Seat as TableSeat}
use Rattle.plain_state.specs.declared.act.EventPlace.{EventPlace}
use Rattle.plain_state.specs.declared.act.PlainAct.{PlainAct}
use Rattle.plain_state.specs.declared.slot.SlotId.{SlotId}
use Rattle.plain_state.specs.State.{Plain}
use Rattle.domain_rule.specs.plain_protocol.Owns.{OwnPart}
use Rattle.core_promises.specs.core_events.declared.act.Act.{Act}
use Rattle.core_promises.specs.core_events.declared.act.Act.TheVariants as act
use Rattle.core_promises.specs.core_events.declared.shape.Shape.{Shape}
use Rattle.core_promises.specs.core_events.declared.view.CoreView.{CoreView}
use Rattle.core_promises.specs.core_events.Good.{SeatLaw}
use Rattle.core_promises.specs.core_events.Runs.{AreTerms, IsShape, view_at}
use Rattle.core_promises.specs.core_events.Steps.{May, place}
use Rattle.core_promises.specs.core_events.Words.{place_at}
use Rattle.core_promises.proofs.Below.core_law_Always.{history_sound}
use Rattle.core_promises.proofs.Below.core_law_InRange.{content_in, open_in_range, put_in_range, readable_in_range}
use Rattle.core_promises.proofs.Below.core_law_Writes.{IsPlace}
use Rattle.domain_rule.specs.declared.view.SeatView.{SeatView}
use Rattle.acquire_retire.specs.Calls.{Stepped}
use Rattle.acquire_retire.specs.Domains.{DomainState, IsDomain, StoredDomain}

-- the act is on the word of this place, which is there where a seat may make the act
pub record IsOn (z : Shape) (a : Act) (q : EventPlace) : Type 0 where
  pub word : (v : CoreView) → place z a v ≡ place_at z q
  pub there : (n : ℕ) (v : CoreView) → SeatLaw z n v → May z a v → IsPlace z q

pub found_small : {P V : Type 0} {fits : List ℕ → Type 0} (d e : DomainState P) → e ≡ d → (kept : StoredDomain)
    → IsDomain e.table e.shape e.terms kept
    → (next_view : OwnPart → OwnPart → V → PlainAct → ℕ → V) (allows : Plain → Plain → ℕ → V → V → Type 0)
    (a : Act) (old new : TableSeat (Unit {0}) (SeatView V)) (w : ℕ)
    → Stepped fits d next_view allows a old w new → (q : EventPlace) → IsOn d.shape a q → w < 2 ^ 32
found_small d e same kept in_domain next_view allows a old new w step q on =
    let ranges = subst (λ (f : DomainState _). IsShape f.shape × AreTerms f.shape f.terms) same
    (in_domain.shape, in_domain.terms) in
    let h = step.told.happened in
    let z = d.shape in
    let n = old.me.0.core.seat in
    let so = history_sound z d.terms h.events h.before ranges.0 ranges.1 h.history in
    let views = so.views in
    let enabled = h.enabled in
    let there = on.there n (view_at h.before n) (so.seats n (omega arith)) enabled.1 in
    let content = content_in z h.before so q there in
    let found = h.found ∙ ap (slice_index h.before.words) (on.word (view_at h.before n)) in
    let slots = ranges.0.3 in omega arith

-- the acts that are on a place
pub look_on : (z : Shape) (q : EventPlace) → IsOn z (act.Look q) q
look_on z q = record {
  word = λ v. refl;
  there = λ n v law may. readable_in_range z n v law q may.1;
}

pub check_on : (z : Shape) (j : ℕ) (q : EventPlace) → IsOn z (act.Check j q) q
check_on z j q = record {
  word = λ v. refl;
  there = λ n v law may. readable_in_range z n v law q may.3;
}

pub swap_on : (z : Shape) (q : EventPlace) (new : Option SlotId) → IsOn z (act.Swap q new) q
swap_on z q new = record {
  word = λ v. refl;
  there = λ n v law may. put_in_range z n v law q new may;
}

pub cas_on : (z : Shape) (q : EventPlace) (old new : Option SlotId) → IsOn z (act.Cas q old new) q
cas_on z q old new = record {
  word = λ v. refl;
  there = λ n v law may. open_in_range z n v law q may.2;
}
