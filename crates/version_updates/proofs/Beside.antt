-- What a seat has but for its entries and for whether it has cleared the map.
use Rattle.std.proofs.Common.{◌≡◌, ℕ, false, [], refl, ap, sym, ◌∙◌, subst}
use Rattle.map_law.specs.plain_state.declared.slot.SlotId.{SlotId}
use Rattle.map_law.specs.declared.view.View.{View}
use Rattle.map_law.specs.Views.{In}
use Rattle.slot_store.specs.acquire_retire.Seats.{SeatState}
use Rattle.version_making.specs.Keeping.{Grows, Keeps}
use Rattle.version_updates.specs.Publishing.{but_for}

-- a view with the entries of another one, and its word of the clearing
abbrev pub view_but_for : View → View → View
view_but_for v w = record w { entries = v.entries; cleared = v.cleared }

-- what is known of nodes, and the seat
abbrev pub noted : View → View
noted w = record w { entries = []; cleared = false }

pub grows_but_for : (v u w : View) → Grows v u → noted w ≡ noted u → Grows v (view_but_for v w)
grows_but_for v u w grows is = record {
  number = ap (λ (x : View). x.number) is ∙ grows.number;
  here = ap (λ (x : View). x.here) is ∙ grows.here;
  entries = refl;
  cleared = refl;
  solid = λ e in'. subst (λ (x : View). In e x.solid) (sym is) (grows.solid e in');
  led = λ e in'. subst (λ (x : View). In e x.led) (sym is) (grows.led e in');
}

-- a call that leaves both leaves the same of a seat but for them
pub keeps_but_for : (m n : ℕ) (given gained : SlotId → ℕ) (v : View) (a b : SeatState View)
    → Keeps m n given gained a b → Keeps m n given gained (but_for v a) (but_for v b)
keeps_but_for m n given gained v a b keeps = record {
  owns = keeps.owns;
  makes_used = keeps.makes_used;
  adds_used = keeps.adds_used;
  same = keeps.same;
  goes = keeps.goes;
  knows = keeps.knows;
  grows = record {
    number = keeps.grows.number;
    here = keeps.grows.here;
    entries = refl;
    cleared = refl;
    solid = keeps.grows.solid;
    led = keeps.grows.led;
  };
}

pub keeps_all_but : (m n : ℕ) (given gained : SlotId → ℕ) (a b : SeatState View)
    → Keeps m n given gained a b → Keeps m n given gained a (but_for a.view.client b)
keeps_all_but m n given gained a b = keeps_but_for m n given gained a.view.client a b
