-- What a walk came to, of the bytes of its text.
use Rattle.std.proofs.Common.{◌≡◌, List, ℕ, subst}
use Rattle.atomic_weak.specs.plain_state.declared.slot.SlotId.{SlotId}
use Rattle.atomic_weak.specs.acquire_retire.Domains.{DomainState}
use Rattle.atomic_weak.specs.acquire_retire.Seats.{SeatState}
use Rattle.record_making.specs.directory_law.declared.view.View.{View}
use Rattle.record_making.specs.directory_law.Bytes.{IsTextOf}
use Rattle.record_making.specs.directory_law.Payloads.{Text}
use Rattle.record_making.specs.directory_law.Cells.{Area}
use Rattle.record_making.specs.directory_law.Law.{IsBound, NoneBound}
use Rattle.record_making.proofs.Below.directory_law_Bytes.{one_text}
use Rattle.weak_intern.specs.declared.walking.Walk.{Walk}
use Rattle.weak_intern.specs.declared.walking.Walk.TheVariants as walk
use Rattle.record_making.specs.directory_calls.Directories.{HasNoRecord, IsRecord}
use Rattle.record_making.specs.directory_calls.Steps.{AfterStep, AtStep}
use Rattle.atomic_weak.specs.counted_handles.Handles.{Handle}
use Rattle.weak_intern.specs.Knowing.{KnowsRecord}
use Rattle.weak_intern.specs.Walking.{ComesTo}
use Rattle.record_making.proofs.Below.directory_calls_Going.{also, also_some}

module _ {P V : Type 0} (d : DomainState P) (z : Area) (bytes : List ℕ) (text : Text)
    (is : IsTextOf bytes text) (a b : SeatState V) where
  pub no_record : AtStep d (λ p. NoneBound z p text) a b
      → AtStep d (λ p. HasNoRecord z p bytes) a b
  no_record at =
      also d (λ p. NoneBound z p text) (λ p. HasNoRecord z p bytes) a b
      (λ p none t other.
      subst (λ u. NoneBound z p u) (one_text bytes text t is other) none) at

  pub is_record : (s : SlotId) → AtStep d (λ p. IsBound z p text s) a b
      → AtStep d (λ p. IsRecord z p bytes s) a b
  is_record s at =
      also d (λ p. IsBound z p text s) (λ p. IsRecord z p bytes s) a b
      (λ p bound. (text, is, bound)) at

  pub is_record_after : (s : SlotId) → AfterStep d (λ q. IsBound z q text s) a b
      → AfterStep d (λ q. IsRecord z q bytes s) a b
  is_record_after s at =
      also_some d (λ p q. IsBound z q text s) (λ p q. IsRecord z q bytes s) a b
      (λ p q bound. (text, is, bound)) at

  pub came_to_none : (seen : V → View) (found : Walk) (passed : ℕ) → found ≡ walk.Absent passed
      → ComesTo seen d z text found a b → AtStep d (λ p. HasNoRecord z p bytes) a b
  came_to_none seen found passed same comes =
      no_record (subst (λ f. ComesTo seen d z text f a b) same comes).0

  pub came_to_record : (seen : V → View) (found : Walk) (strong : Handle)
      → found ≡ walk.Record strong → ComesTo seen d z text found a b
      → AtStep d (λ p. IsRecord z p bytes strong.slot) a b × KnowsRecord seen bytes strong.slot b
  came_to_record seen found strong same comes =
      let came = subst (λ f. ComesTo seen d z text f a b) same comes in
      (is_record strong.slot came.0, (text, is, came.1))
