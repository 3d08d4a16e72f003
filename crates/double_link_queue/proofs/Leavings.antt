-- What single calls leave of a seat that counts weak references.
use Rattle.std.proofs.Common.{◌≡◌, ◌≤◌, ℕ, List, [], ◌∷◌, ◌++◌, refl, ap, sym, ◌∙◌, subst, arith}
use Rattle.std.specs.Prelude.{Option, Some}
use Rattle.weak_part_calls.specs.plain_state.declared.act.EventPlace.{EventPlace}
use Rattle.weak_part_calls.specs.plain_state.declared.act.PlainAct.{PlainAct}
use Rattle.weak_part_calls.specs.plain_state.declared.slot.Kind.TheVariants.{Weak}
use Rattle.weak_part_calls.specs.plain_state.declared.slot.SlotId.{SlotId}
use Rattle.weak_part_calls.specs.plain_state.Lists.{times}
use Rattle.weak_part_calls.specs.plain_state.Places.{place_kind}
use Rattle.weak_part_calls.specs.plain_state.State.{Plain}
use Rattle.weak_part_calls.specs.plain_protocol.Owns.{OwnPart}
use Rattle.weak_part_calls.specs.core_events.declared.view.CoreView.{CoreView}
use Rattle.weak_part_calls.specs.core_events.declared.view.Move.{Move}
use Rattle.weak_part_calls.specs.core_events.Steps.{without_given}
use Rattle.weak_part_calls.specs.core_events.Views.{Holds, without}
use Rattle.weak_part_calls.specs.acquire_retire.Collecting.{rest_of}
use Rattle.weak_part_calls.specs.acquire_retire.Domains.{DomainState}
use Rattle.weak_part_calls.specs.acquire_retire.Seats.{SeatState}
use Rattle.weak_part_calls.specs.control_word.Calls.{DropsWeak, GainsWeak, with_weak, without_weak}
use Rattle.weak_part_calls.specs.control_word.Resting.{IsSpent}
use Rattle.weak_part_calls.specs.control_word.Moves.{KnowsStill}
use Rattle.weak_part_calls.proofs.Below.protected_loads_Telling.{holds_has}
use Rattle.weak_part_calls.specs.retiring_stores.Exchanging.{Exchanges}
use Rattle.linked_queue.proofs.Trails.{exchange_trail, trail_same}
use Rattle.double_link_queue.specs.Leaving.{LeavesBoth, apart}
use Rattle.double_link_queue.proofs.Owning.{holds_both}

module _ {V : Type 0} (old new : SeatState V) where
  -- the seat has come to have v, but for its trail, and knows what it knew by `kept`
  pub both_as : (v kept : CoreView) (ms : List Move)
      → new.view.core ≡ record v { trail = old.view.core.trail ++ ms }
      → apart v ≡ apart old.view.core → old.view.core.adds ≤ v.adds → KnowsStill kept old new
      → ((x : SlotId) → Holds old.view.core x → Holds v x → Holds kept x)
      → LeavesBoth v.owned v.weaks old new
  both_as v kept ms core same adds knows holds = record {
    owns = λ x. ap (λ (u : CoreView). times x u.owned) core;
    weakly = λ x. ap (λ (u : CoreView). times x u.weaks) core;
    same = ap apart core ∙ same;
    adds = (let is = ap (λ (u : CoreView). u.adds) core in omega arith);
    trail = (ms, ap (λ (u : CoreView). u.trail) core);
    knows = λ x was is.
        knows x (holds_has kept x (holds x was (subst (λ (u : CoreView). Holds u x) core is)));
  }

  pub both_same : new ≡ old → LeavesBoth old.view.core.owned old.view.core.weaks old new
  both_same is = subst (λ (z : SeatState V). LeavesBoth old.view.core.owned old.view.core.weaks old
      z)
      (sym is)
      (record {
        owns = λ x. refl;
        weakly = λ x. refl;
        same = refl;
        adds = omega arith;
        trail = trail_same old old refl;
        knows = λ x was is. refl;
      })

module _ {P V : Type 0} (fits : List ℕ → Type 0) (d : DomainState P) (s : SlotId)
    (old new : SeatState V) where
  -- a weak reference more
  pub weaken_leaves : GainsWeak fits d s old new → KnowsStill old.view.core old new
      → LeavesBoth old.view.core.owned (old.view.core.weaks ++ s ∷ []) old new
  weaken_leaves gains knows =
      both_as old new (with_weak s old.view.core) old.view.core _ gains.core refl (omega arith) knows
      (λ x was is. was)

  -- one fewer
  pub drop_weak_spent : DropsWeak fits d s old new → IsSpent old.view.core → IsSpent new.view.core
  drop_weak_spent drops spent = ap (λ (v : CoreView). v.adds) drops.1.core ∙ spent
      ∙ sym (ap (λ (v : CoreView). v.quota.adds) drops.1.core)

  pub drop_weak_leaves : DropsWeak fits d s old new
      → KnowsStill (without_weak s old.view.core) old new
      → LeavesBoth old.view.core.owned (without s old.view.core.weaks) old new
  drop_weak_leaves drops knows =
      both_as old new (without_weak s old.view.core) (without_weak s old.view.core) _ drops.1.core
      refl (omega arith) knows (λ x was is. is)

module _ {P V : Type 0} {fits : List ℕ → Type 0} {d : DomainState P}
    {next : OwnPart → OwnPart → V → PlainAct → ℕ → V}
    {allows : Plain → Plain → ℕ → V → V → Type 0} (place : EventPlace) (m : Move)
    (s : SlotId) (held : Option SlotId) (old new : SeatState V) where
  -- an exchange that gave a weak reference
  pub weak_exchange_leaves : place_kind place ≡ Weak
      → Exchanges fits d next allows place m (Some s) held old new
      → KnowsStill (without_given Weak (Some s) old.view.core) old new
      → LeavesBoth old.view.core.owned (without s old.view.core.weaks) old new
  weak_exchange_leaves kind puts knows =
      let v = without_given Weak (Some s) old.view.core in
      let rest : rest_of new.view.core ≡ rest_of v =
      puts.same ∙ ap (λ k. rest_of (without_given k (Some s) old.view.core)) kind in
      let same : apart new.view.core ≡ apart v =
      ap (λ (u : CoreView). record u { owned = []; weaks = []; made = []; adds = 0; makes = 0 })
      rest in
      let adds = ap (λ (u : CoreView). u.adds) rest in
      record {
        owns = λ x. ap (λ (u : CoreView). times x u.owned) rest;
        weakly = λ x. ap (λ (u : CoreView). times x u.weaks) rest;
        same = same;
        adds = omega arith;
        trail = exchange_trail place m (Some s) held old new puts;
        knows = λ x was is.
            let strong = ap (λ (u : CoreView). times x u.owned) rest in
            let weak = ap (λ (u : CoreView). times x u.weaks) rest in
            knows x (holds_has v x (holds_both x new.view.core v same (omega arith) (omega arith)
            is));
      }
