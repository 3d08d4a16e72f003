-- A seat that makes an object and gives its reference away owns what it owned.
use Rattle.std.proofs.Common.{◌≡◌, ◌+◌, ◌<◌, List, [], ◌∷◌, ◌++◌, refl, sym, ap, subst, arith, Some}
use Rattle.domain_audit.specs.plain_state.declared.act.EventPlace.{EventPlace}
use Rattle.domain_audit.specs.plain_state.declared.act.EventPlace.TheVariants.{Cell, Field, WeakCell, WeakField}
use Rattle.domain_audit.specs.plain_state.declared.slot.Kind.TheVariants.{Strong}
use Rattle.domain_audit.specs.plain_state.declared.slot.SlotId.{SlotId}
use Rattle.domain_audit.specs.plain_state.Lists.{entry_times, times}
use Rattle.domain_audit.specs.plain_state.Places.{place_kind}
use Rattle.domain_audit.specs.core_events.declared.shape.Shape.{Shape}
use Rattle.domain_audit.specs.core_events.declared.view.CoreView.{CoreView}
use Rattle.domain_audit.specs.core_events.declared.view.Move.{Move}
use Rattle.domain_audit.specs.core_events.Steps.{without_given}
use Rattle.domain_audit.specs.core_events.Views.{IsOpen, snapshots}
use Rattle.domain_audit.proofs.Below.core_law_Kit.{one_same, times_none, times_push, times_without}
use Rattle.domain_audit.specs.counted_handles.declared.place.Place.{Place}
use Rattle.domain_audit.specs.counted_handles.declared.place.Place.TheVariants as place
use Rattle.atomic_shared.specs.Places.{strong_place}
use Rattle.domain_audit.specs.slot_store.Calls.{with_made}
use Rattle.domain_audit.proofs.Below.slot_store_Turning.{nothing_in}

-- what was open is open still
pub open_made : (z : Shape) (s : SlotId) (t : List Move) (v w : CoreView) (p : EventPlace)
    → w ≡ record (with_made s v) { trail = t } → IsOpen z v p → IsOpen z w p
open_made z s t v w p made open' =
    subst (λ (u : CoreView). IsOpen z u p) (sym made) (still p open')
  where
    more : (x : SlotId) → 0 < times x v.owned + entry_times Strong x (snapshots v)
        → 0 < times x (v.owned ++ s ∷ []) + entry_times Strong x (snapshots v)
    more x some = let e = times_push x s v.owned in omega arith

    still : (q : EventPlace) → IsOpen z v q → IsOpen z (record (with_made s v) { trail = t }) q
    still (Cell i) it = it
    still (Field x i) it = (it.0, more x it.1)
    still (WeakCell i) it = it
    still (WeakField x) it = more x it

-- a strong place holds strong references
pub strong_kind : (p : Place) → place_kind (strong_place p) ≡ Strong
strong_kind (place.Cell i) = refl
strong_kind (place.Field x i) = refl

-- it owns each slot as often as before
pub gives_made : (s x : SlotId) (v : CoreView)
    → times x (without_given Strong (Some s) (with_made s v)).owned ≡ times x v.owned
gives_made s x v =
    let here = times_push s s v.owned in
    let same = one_same s s refl in
    let more = times_push x s v.owned in
    let fewer = times_without x s (v.owned ++ s ∷ []) (omega arith) in omega arith

-- and nothing where it owned nothing
pub none_owned : (xs ys : List SlotId) → ((x : SlotId) → times x ys ≡ times x xs) → xs ≡ [] → ys ≡ []
none_owned xs ys same none =
    nothing_in ys (λ x. let e = same x in let n = ap (times x) none in let z = times_none x in omega arith)
