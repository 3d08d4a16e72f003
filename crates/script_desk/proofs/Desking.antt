-- A place that was found by the names of a desk, and a desk whose heap has settled.
use Rattle.std.proofs.Common.{◌≡◌, ℕ, List, refl, sym, subst}
use Rattle.plain_audit.specs.plain_state.declared.act.EventPlace.{EventPlace}
use Rattle.plain_audit.specs.plain_state.Places.{IsOpen}
use Rattle.plain_audit.specs.plain_state.State.{Plain}
use Rattle.plain_settling.specs.plain_store.Settling.{IsSettled, SettlesTo}
use Rattle.plain_settling.proofs.Settling.{settles_so}
use Rattle.script_lines.specs.declared.command.TextPlace.{TextPlace}
use Rattle.script_desk.specs.Desks.{Desk, Maker, Names, Settles, scope_of}
use Rattle.script_desk.specs.Effects.{IsPlace}
use Rattle.script_desk.specs.Faults.{IsPlaceInRange, place_needs}
use Rattle.script_desk.specs.Holding.{Kept}
use Rattle.script_desk.specs.Kinds.{script_weight}
use Rattle.script_desk.specs.Places.{AreMet}
use Rattle.script_desk.proofs.Naming.{desk_of, has_there}
use Rattle.script_desk.proofs.Needs.{open_place}

module _ (p : Plain) (names : Names) (made : List Maker) (makes : ℕ) where
  pub open_found : (strong weak : ℕ) → Kept p names made strong weak → (d : Desk)
      → desk_of p names made makes ≡ d → (place : TextPlace) (found at : EventPlace)
      → IsPlaceInRange (scope_of d).sizes place → AreMet d.names (place_needs place)
      → IsPlace names place found → at ≡ found → IsOpen d.plain 0 at
  open_found strong weak k d is place found at range met placed same =
      subst (IsOpen d.plain 0) (sym same)
      (open_place d place found (has_there p names made makes strong weak k d is) range met
      (subst (λ (x : Desk). IsPlace x.names place found) is placed))

  pub settle_told : (d : Desk) → desk_of p names made makes ≡ d → (q : Plain) (freed : ℕ)
      → SettlesTo script_weight p freed q → IsSettled q → Settles d (desk_of q names made makes)
  settle_told d is q freed settles settled =
      subst (λ (x : Desk). Settles x (desk_of q names made makes)) is (
        record {
          tidies = settles_so script_weight p q freed settles;
          names = refl;
          makers = (refl, refl);
        },
        settled,
      )
