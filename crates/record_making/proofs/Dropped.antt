-- A strong reference that is given up.
use Rattle.std.proofs.Common.{◌≡◌, ℕ, List, ◌++◌, refl, ap, sym, subst, arith}
use Rattle.std.specs.Prelude.{Bool, true, false}
use Rattle.atomic_shared.specs.plain_state.declared.slot.SlotId.{SlotId}
use Rattle.slot_store.specs.core_events.declared.view.CoreView.{CoreView}
use Rattle.slot_store.specs.core_events.declared.view.Move.{Move}
use Rattle.slot_store.specs.core_events.Views.{without}
use Rattle.slot_store.specs.acquire_retire.Collecting.{ends}
use Rattle.slot_store.specs.acquire_retire.Domains.{DomainState}
use Rattle.slot_store.specs.acquire_retire.Seats.{SeatState}
use Rattle.slot_store.specs.control_word.Calls.{DropsStrong, with_ended, without_strong}
use Rattle.slot_store.specs.control_word.Moves.{KnowsStill}
use Rattle.slot_store.specs.control_word.Resting.{IsSpent}
use Rattle.atomic_shared.proofs.Below.protected_loads_Telling.{holds_has}
use Rattle.record_making.specs.Making.{AddsAsMakes}
use Rattle.slot_store.specs.Calls.{HasNoMake}
use Rattle.directory_calls.specs.Steps.{Leaves}
use Rattle.directory_calls.proofs.Going.{leaves_less}

module _ {V : Type 0} (b c : SeatState V) (s : SlotId) where
  gave_up : (e : Bool) (ms : List Move)
      → c.view.core ≡ record (with_ended e s (without_strong s b.view.core)) {
        trail = b.view.core.trail ++ ms;
      }
      → KnowsStill (without_strong s b.view.core) b c
      → Leaves (without s b.view.core.owned) b.view.core.weaks b c
  gave_up true ms core knows =
      leaves_less b c (with_ended true s (without_strong s b.view.core)) ms core refl
      (λ x is. knows x (holds_has (without_strong s b.view.core) x is))
  gave_up false ms core knows =
      leaves_less b c (without_strong s b.view.core) ms core refl
      (λ x is. knows x (holds_has (without_strong s b.view.core) x is))

  spent_if : (e : Bool) (ms : List Move)
      → c.view.core ≡ record (with_ended e s (without_strong s b.view.core)) {
        trail = b.view.core.trail ++ ms;
      }
      → IsSpent b.view.core → IsSpent c.view.core
  spent_if true ms core is = subst (λ (v : CoreView). IsSpent v) (sym core) is
  spent_if false ms core is = subst (λ (v : CoreView). IsSpent v) (sym core) is

  no_make_if : (e : Bool) (ms : List Move)
      → c.view.core ≡ record (with_ended e s (without_strong s b.view.core)) {
        trail = b.view.core.trail ++ ms;
      }
      → HasNoMake b.view.core → HasNoMake c.view.core
  no_make_if true ms core is = subst (λ (v : CoreView). HasNoMake v) (sym core) is
  no_make_if false ms core is = subst (λ (v : CoreView). HasNoMake v) (sym core) is

  makes_if : (e : Bool) (ms : List Move)
      → c.view.core ≡ record (with_ended e s (without_strong s b.view.core)) {
        trail = b.view.core.trail ++ ms;
      }
      → c.view.core.makes ≡ b.view.core.makes
  makes_if true ms core = ap (λ (v : CoreView). v.makes) core
  makes_if false ms core = ap (λ (v : CoreView). v.makes) core

  adds_if : (e : Bool) (ms : List Move)
      → c.view.core ≡ record (with_ended e s (without_strong s b.view.core)) {
        trail = b.view.core.trail ++ ms;
      }
      → c.view.core.adds ≡ b.view.core.adds
  adds_if true ms core = ap (λ (v : CoreView). v.adds) core
  adds_if false ms core = ap (λ (v : CoreView). v.adds) core

  module _ {P : Type 0} (fits : List ℕ → Type 0) (d : DomainState P)
      (drops : DropsStrong fits d s b c) where
    pub dropped : KnowsStill (without_strong s b.view.core) b c
        → Leaves (without s b.view.core.owned) b.view.core.weaks b c
    dropped knows = gave_up (ends drops.0) _ drops.1.core knows

    pub spent_still : IsSpent b.view.core → IsSpent c.view.core
    spent_still is = spent_if (ends drops.0) _ drops.1.core is

    pub no_make_still : HasNoMake b.view.core → HasNoMake c.view.core
    no_make_still is = no_make_if (ends drops.0) _ drops.1.core is

    pub makes_still : c.view.core.makes ≡ b.view.core.makes
    makes_still = makes_if (ends drops.0) _ drops.1.core

    pub adds_still : c.view.core.adds ≡ b.view.core.adds
    adds_still = adds_if (ends drops.0) _ drops.1.core

    pub used_still : AddsAsMakes b.view.core c.view.core
    used_still = let a = adds_still in let m = makes_still in omega (arith, a, m)
