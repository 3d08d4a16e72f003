-- What is told of a place and a handle is told of them by their names in the domain.
use Rattle.std.proofs.Common.{◌≡◌, ap, refl, sym, subst, ◌∙◌}
use Rattle.std.specs.Prelude.{Option}
use Rattle.protected_loads.specs.counted_handles.declared.place.Place.{Place}
use Rattle.protected_loads.specs.counted_handles.declared.place.Place.TheVariants as place
use Rattle.protected_loads.specs.plain_state.declared.act.EventPlace.{EventPlace}
use Rattle.protected_loads.specs.plain_state.declared.slot.Kind.{Kind}
use Rattle.protected_loads.specs.plain_state.declared.slot.Kind.TheVariants.{Strong}
use Rattle.protected_loads.specs.plain_state.declared.slot.SlotId.{SlotId}
use Rattle.protected_loads.specs.plain_state.Places.{place_kind}
use Rattle.atomic_shared.specs.Places.{strong_place}

pub strong_kind : (p : Place) → place_kind (strong_place p) ≡ Strong
strong_kind (place.Cell i) = refl
strong_kind (place.Field s i) = refl

module _ (p : Place) (q : EventPlace) (is_place : q ≡ strong_place p) (given x : Option SlotId)
    (is_slot : x ≡ given) where
  pub by_names : (T : EventPlace → Option SlotId → Type 0) → T q x → T (strong_place p) given
  by_names T = subst (λ (y : EventPlace × Option SlotId). T y.0 y.1) (λ i. (is_place i, is_slot i))

  pub from_names : (T : EventPlace → Option SlotId → Type 0) → T (strong_place p) given → T q x
  from_names T =
      subst (λ (y : EventPlace × Option SlotId). T y.0 y.1)
      (λ i. (sym is_place i, sym is_slot i))

  pub of_kind : (T : Kind → Option SlotId → Type 0) → T (place_kind q) x → T Strong given
  of_kind T =
      subst (λ (y : Kind × Option SlotId). T y.0 y.1)
      (λ i. ((ap place_kind is_place ∙ strong_kind p) i, is_slot i))
