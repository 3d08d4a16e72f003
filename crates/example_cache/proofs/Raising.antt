-- A weak reference is given up, after an add that counted a strong one, or found none.
use Rattle.std.proofs.Common.{◌≡◌, ◌≤◌, ◌<◌, ◌+◌, ℕ, List, [], ap, arith, refl, sym, subst, ◌∙◌, Some}
use Rattle.std.specs.Prelude.{Err, IfOk, Ok, Result}
use Rattle.std.proofs.lemmas.List.{append-nil}
use Rattle.cdrc.specs.plain_state.declared.slot.SlotId.{SlotId}
use Rattle.cdrc.specs.plain_state.Lists.{times}
use Rattle.cdrc.specs.plain_protocol.Owns.{Object}
use Rattle.cdrc.specs.core_events.declared.view.CoreView.{CoreView}
use Rattle.cdrc.specs.core_events.Views.{without}
use Rattle.cdrc.proofs.Below.core_law_Kit.{times_push, times_without}
use Rattle.cdrc.specs.counted_handles.Handles.{Handle}
use Rattle.cdrc.specs.control_word.Calls.{DropsWeak, FindsEnded, GainsStrong, without_weak}
use Rattle.cdrc.specs.control_word.Moves.{KnowsStill}
use Rattle.cdrc.specs.control_word.declared.upgrading.UpgradeError.{UpgradeError}
use Rattle.cdrc.specs.control_word.declared.upgrading.UpgradeError.TheVariants as no_raise
use Rattle.cdrc.specs.acquire_retire.Calls.{IsSameView, same_view}
use Rattle.cdrc.specs.acquire_retire.Domains.{DomainState}
use Rattle.cdrc.specs.acquire_retire.Seats.{SeatState}
use Rattle.cdrc.specs.domain_rule.Views.{object_in}
use Rattle.example_cache.specs.Views.{View}
use Rattle.example_cache.specs.Calls.{Finds, FoundEnded, GivesWeak, HasEnded, Raises, Recalls, TrailGoesOn, aside, recalled_too}
use Rattle.example_cache.proofs.Framing.{has_more, trail_then}

-- what an add leaves of a seat: what it had beside what it owns strongly
record Adds (old mid : SeatState View) : Type 0 where
  pub weaks : mid.view.core.weaks ≡ old.view.core.weaks
  pub owned : (x : SlotId) → times x old.view.core.owned ≤ times x mid.view.core.owned
  pub same : aside mid.view.core ≡ aside old.view.core
  pub adds :
      (old.view.core.adds ≤ mid.view.core.adds)
      × (mid.view.core.adds ≤ old.view.core.adds + 1)
  pub trail : TrailGoesOn old mid

module _ {P : Type 0} (kind : List ℕ → Type 0) (d : DomainState P) (s : SlotId)
    (old mid new : SeatState View) where
  counted : GainsStrong kind d same_view IsSameView s old mid → Adds old mid
  counted gains = record {
    weaks = ap (λ (v : CoreView). v.weaks) gains.core;
    owned = λ x.
        let e = ap (λ (v : CoreView). times x v.owned) gains.core in
        let more = times_push x s old.view.core.owned in omega arith;
    same = ap aside gains.core;
    adds = let e = ap (λ (v : CoreView). v.adds) gains.core in (omega arith, omega arith);
    trail = (_, ap (λ (v : CoreView). v.trail) gains.core);
  }

  found_none : FindsEnded kind d same_view IsSameView s old mid → Adds old mid
  found_none finds =
      let core = finds.becomes.core in record {
        weaks = ap (λ (v : CoreView). v.weaks) core;
        owned = λ x. let e = ap (λ (v : CoreView). times x v.owned) core in omega arith;
        same = ap aside core;
        adds = let e = ap (λ (v : CoreView). v.adds) core in (omega arith, omega arith);
        trail = (_, ap (λ (v : CoreView). v.trail) core);
      }

  not_made : mid ≡ old → Adds old mid
  not_made is =
      let core = ap (λ (z : SeatState View). z.view.core) is in record {
        weaks = ap (λ (v : CoreView). v.weaks) core;
        owned = λ x. let e = ap (λ (v : CoreView). times x v.owned) core in omega arith;
        same = ap aside core;
        adds = let e = ap (λ (v : CoreView). v.adds) core in (omega arith, omega arith);
        trail = ([], ap (λ (v : CoreView). v.trail) core ∙ sym (append-nil old.view.core.trail));
      }

  module _ (has : 0 < times s old.view.core.weaks) (first : KnowsStill old.view.core old mid)
      (drops : DropsWeak kind d s mid new)
      (second : KnowsStill (without_weak s mid.view.core) mid new) where
    gives : Adds old mid → GivesWeak s old new
    gives adds = record {
      weaks = ap (λ (v : CoreView). v.weaks) drops.1.core ∙ ap (without s) adds.weaks;
      same = ap aside drops.1.core ∙ adds.same;
      adds =
          let e = ap (λ (v : CoreView). v.adds) drops.1.core in let more = adds.adds in
          (omega arith, omega arith);
      trail = trail_then old mid new adds.trail
          (_, ap (λ (v : CoreView). v.trail) drops.1.core);
      knows = λ x it.
          let less = times_without x s old.view.core.weaks has in
          let weaks = ap (λ (ys : List SlotId). times x (without s ys)) adds.weaks in
          let owned = adds.owned x in
          second x (has_more x (without_weak s old.view.core) (without_weak s mid.view.core)
          (sym adds.same) (omega arith) (omega arith) it)
          ∙ first x (has_more x (without_weak s old.view.core) old.view.core refl (omega arith)
          (omega arith) it);
    }

    -- whatever the upgrade answered
    pub raise_gives : (r : Result Handle UpgradeError)
        → IfOk r (λ strong. (strong.slot ≡ s) × GainsStrong kind d same_view IsSameView s old mid)
        → (r ≡ Err no_raise.Ended → FindsEnded kind d same_view IsSameView s old mid)
        → (r ≡ Err no_raise.Spent → mid ≡ old) → GivesWeak s old new
    raise_gives (Ok strong) gained ended spent = gives (counted gained.1)
    raise_gives (Err no_raise.Ended) gained ended spent = gives (found_none (ended refl))
    raise_gives (Err no_raise.Spent) gained ended spent = gives (not_made (spent refl))

-- what a load found was raised
pub recalls_raised : {P : Type 0} (kind : List ℕ → Type 0) (d : DomainState P) (cell : ℕ)
    (old mid new : SeatState View) (s t : SlotId) → Finds kind d cell (Some s) old mid → t ≡ s
    → Raises kind d s mid new → 0 < times t new.view.core.owned
    → object_in new.view t ≡ object_in mid.view s → new.view.client ≡ mid.view.client
    → Recalls kind d cell (Some t) old new
recalls_raised kind d cell old mid new s t finds is raises owned known client =
    subst (λ (x : SlotId). Recalls kind d cell (Some x) old new) (sym is) (record {
      found = mid;
      loads = finds.loads;
      raises = raises;
      owns = subst (λ (x : SlotId). 0 < times x new.view.core.owned) is owned;
      value = client ∙ finds.recalls
          ∙ ap (λ (o : Object). recalled_too o.payload old.view.client)
          (sym (subst (λ (x : SlotId). object_in new.view x ≡ object_in mid.view s) is known));
    })

-- what a load found has ended
pub ended_found : {P : Type 0} (kind : List ℕ → Type 0) (d : DomainState P) (cell : ℕ)
    (old mid new : SeatState View) (s : SlotId) → Finds kind d cell (Some s) old mid
    → HasEnded kind d s mid new → FoundEnded kind d cell old new
ended_found kind d cell old mid new s finds ended =
    record { slot = s; found = mid; loads = finds.loads; ended = ended }
