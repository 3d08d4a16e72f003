-- A reference that is given up, and what a refusal tells afterwards.
use Rattle.std.proofs.Common.{◌≡◌, ℕ, ◌<◌, Bool, true, false, List, ◌++◌, refl, ap, arith}
use Rattle.map_law.specs.plain_state.declared.slot.SlotId.{SlotId}
use Rattle.map_law.specs.plain_state.Lists.{times}
use Rattle.map_law.specs.declared.view.View.{View}
use Rattle.map_law.specs.Nodes.{IsNode}
use Rattle.slot_store.specs.core_events.declared.view.CoreView.{CoreView}
use Rattle.slot_store.specs.core_events.declared.view.Move.{Move}
use Rattle.slot_store.specs.core_events.Counts.{one}
use Rattle.slot_store.specs.core_events.Views.{allowed_makes}
use Rattle.slot_store.proofs.Below.core_law_Kit.{times_without}
use Rattle.slot_store.specs.acquire_retire.Collecting.{ends}
use Rattle.slot_store.specs.acquire_retire.Domains.{DomainState}
use Rattle.slot_store.specs.acquire_retire.Seats.{SeatState}
use Rattle.slot_store.specs.control_word.Calls.{DropsStrong, with_ended, without_strong}
use Rattle.slot_store.specs.control_word.Moves.{KnowsStill}
use Rattle.slot_store.specs.declared.making.MakeError.{MakeError}
use Rattle.slot_store.specs.declared.making.MakeError.TheVariants as refused
use Rattle.version_making.specs.Building.{IsWhy}
use Rattle.version_making.specs.Keeping.{GoesOn, Keeps, none}
use Rattle.version_making.proofs.Keeping.{goes_then, grows_same, keeps_core}

module _ {P : Type 0} (d : DomainState P) (s : SlotId) (a b : SeatState View)
    (owned : 0 < times s a.view.core.owned)
    (knows : KnowsStill (without_strong s a.view.core) a b)
    (client : b.view.client ≡ a.view.client) where
  dropped : (e : Bool) (ms : List Move)
      → b.view.core ≡ record (with_ended e s (without_strong s a.view.core)) {
        trail = a.view.core.trail ++ ms;
      }
      → Keeps 0 0 (λ x. one x s) none a b
  dropped true ms core =
      keeps_core 0 0 (λ x. one x s) none a b (with_ended true s (without_strong s a.view.core))
      (without_strong s a.view.core) ms core refl
      (λ x. let w = times_without x s a.view.core.owned owned in omega (arith, w))
      (omega arith, omega arith) (omega arith, omega arith) knows
      (λ x less. let w = times_without x s a.view.core.owned owned in omega (arith, w, less))
      (grows_same a.view.client b.view.client client)
  dropped false ms core =
      keeps_core 0 0 (λ x. one x s) none a b (with_ended false s (without_strong s a.view.core))
      (without_strong s a.view.core) ms core refl
      (λ x. let w = times_without x s a.view.core.owned owned in omega (arith, w))
      (omega arith, omega arith) (omega arith, omega arith) knows
      (λ x less. let w = times_without x s a.view.core.owned owned in omega (arith, w, less))
      (grows_same a.view.client b.view.client client)

  pub keeps_dropped : DropsStrong IsNode d s a b → Keeps 0 0 (λ x. one x s) none a b
  keeps_dropped drops = dropped (ends drops.0) _ drops.1.core

-- a refusal tells the same of an earlier state, and after what was made is given up
pub why_on : {P : Type 0} (d : DomainState P) (why : MakeError) (g h : SlotId → ℕ)
    (a b c e : SeatState View) → GoesOn a.view.core b.view.core → Keeps 0 0 g h c e
    → IsWhy d why b c → IsWhy d why a e
why_on d refused.MakesSpent g h a b c e goes keeps is =
    let m = keeps.makes_used in
    let same : allowed_makes e.view.core ≡ allowed_makes c.view.core =
    ap (λ (v : CoreView). allowed_makes v) keeps.same in
    omega (arith, m.0, m.1, same, is)
why_on d refused.AddsSpent g h a b c e goes keeps is =
    let m = keeps.adds_used in
    let same : e.view.core.quota.adds ≡ c.view.core.quota.adds =
    ap (λ (v : CoreView). v.quota.adds) keeps.same in
    omega (arith, m.0, m.1, same, is)
why_on d refused.Full g h a b c e goes keeps is = record {
  mid = is.mid;
  late = is.late;
  misses = is.misses;
  since = goes_then a.view.core b.view.core is.mid.view.core goes is.since;
  till = goes_then is.late.view.core c.view.core e.view.core is.till keeps.goes;
}
