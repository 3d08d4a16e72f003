-- A reference that was taken and given up again: each slot is owned as often as before.
use Rattle.std.proofs.Common.{◌≡◌, ◌<◌, ℕ, List, [], ◌∷◌, ◌++◌, ap, arith, refl, sym, ◌∙◌}
use Rattle.part_calls.specs.plain_state.declared.slot.SlotId.{SlotId}
use Rattle.part_calls.specs.plain_state.Lists.{times}
use Rattle.part_calls.specs.core_events.declared.view.CoreView.{CoreView}
use Rattle.part_calls.specs.core_events.Views.{without}
use Rattle.part_calls.proofs.Below.core_law_Kit.{one_same, times_push, times_without}
use Rattle.part_calls.specs.acquire_retire.Calls.{IsSameView, same_view}
use Rattle.part_calls.specs.acquire_retire.Domains.{DomainState}
use Rattle.part_calls.specs.acquire_retire.Seats.{SeatState}
use Rattle.part_calls.specs.control_word.Calls.{DropsStrong, GainsStrong, without_strong}
use Rattle.part_calls.specs.control_word.Moves.{KnowsStill}
use Rattle.part_calls.specs.control_word.Resting.{IsUnderNone}
use Rattle.weak_intern.proofs.Below.record_making_Dropped.{dropped}
use Rattle.weak_intern.specs.text_reading.Reading.{HasTwoFree}

pub back_again : (xs ys zs : List SlotId) (s : SlotId)
    → ((x : SlotId) → times x ys ≡ times x (xs ++ s ∷ []))
    → ((x : SlotId) → times x zs ≡ times x (without s ys))
    → (x : SlotId) → times x zs ≡ times x xs
back_again xs ys zs s more less x =
    let m = more x in let l = less x in let p = times_push x s xs in
    let ms = more s in let ps = times_push s s xs in let o = one_same s s refl in
    let has : 0 < times s ys = omega arith in
    let w = times_without x s ys has in
    omega arith

pub has_one : (xs ys : List SlotId) (s : SlotId)
    → ((x : SlotId) → times x ys ≡ times x (xs ++ s ∷ [])) → 0 < times s ys
has_one xs ys s more =
    let m = more s in let p = times_push s s xs in let o = one_same s s refl in
    omega arith

-- after a call that left what was owned, and before one that does
pub one_after : (xs ys zs : List SlotId) (s : SlotId)
    → ((x : SlotId) → times x ys ≡ times x xs)
    → ((x : SlotId) → times x zs ≡ times x (ys ++ s ∷ []))
    → (x : SlotId) → times x zs ≡ times x (xs ++ s ∷ [])
one_after xs ys zs s same more x =
    let a = same x in let m = more x in let p = times_push x s xs in let q = times_push x s ys in
    omega arith

pub two_free : (v : CoreView) → IsUnderNone v → HasTwoFree v
two_free v none = (1, 2, omega arith, omega arith, omega arith, none 1, none 2)

-- so it is after a copy that was given up at once
module _ {P V : Type 0} (d : DomainState P) (old mid new : SeatState V) (s more : SlotId) where
  pub copied_back : (fits : List ℕ → Type 0) → more ≡ s
      → GainsStrong fits d same_view IsSameView s old mid → DropsStrong fits d more mid new
      → KnowsStill (without_strong more mid.view.core) mid new → (x : SlotId)
      → times x new.view.core.owned ≡ times x old.view.core.owned
  copied_back fits is gains drops knows =
      back_again old.view.core.owned mid.view.core.owned new.view.core.owned more
      (λ x. ap (λ (v : CoreView). times x v.owned) gains.core
      ∙ ap (λ (y : SlotId). times x (old.view.core.owned ++ y ∷ [])) (sym is))
      (dropped mid new more fits d drops knows).owns
