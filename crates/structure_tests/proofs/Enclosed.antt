-- A letter that a seat has, and what it owns once it has put something into that.
use Rattle.std.proofs.Common.{◌≡◌, ◌≢◌, ⊎_elim, ℕ, List, [], ◌∷◌, ◌++◌, ◌<◌, ap, sym, subst, arith, refl}
use Rattle.std.specs.Prelude.{Err, IfOk, None, Ok, Result, Some, slice_index, if◌then◌else◌}
use Rattle.std.proofs.lemmas.Bool.{cases_eq}
use Rattle.part_calls.specs.plain_state.declared.slot.SlotId.{SlotId}
use Rattle.part_calls.specs.plain_state.Lists.{times}
use Rattle.part_calls.specs.core_events.Views.{without}
use Rattle.part_calls.proofs.Below.core_law_Kit.{one_other, one_same, slot_eq, times_push, times_without}
use Rattle.part_calls.specs.domain_rule.Views.{object_in, own_of}
use Rattle.part_calls.specs.acquire_retire.Seats.{SeatState}
use Rattle.part_calls.proofs.Below.protected_loads_Telling.{holds_has}
use Rattle.part_calls.specs.protocol_pairs.Spared.{HasOneOf}
use Rattle.structure_tests.specs.Ready.{IsLetterIn, View}

pub own_letter : (s : SlotId) (seat : SeatState View) → 0 < times s seat.view.core.owned
    → IsLetterIn s seat
    → HasOneOf (λ words. slice_index words 0 ≢ 0) ((own_of seat.view).objects s)
own_letter s seat owns letter =
    subst (λ b. HasOneOf (λ words. slice_index words 0 ≢ 0)
    (if b then Some (object_in seat.view s) else None))
    (sym (holds_has seat.view.core s (omega arith))) letter

pub is_letter : (s : SlotId) (seat : SeatState View) (n m : ℕ) (ns : List ℕ)
    → (object_in seat.view s).payload ≡ 1 ∷ n ∷ m ∷ ns → IsLetterIn s seat
is_letter s seat n m ns is =
    subst (λ (words : List ℕ). slice_index words 0 ≢ 0) (sym is)
    (λ (e : 1 ≡ 0). omega arith)

-- what was owned beside a slot that was made is owned still
pub made_more : (x s : SlotId) (xs : List SlotId) → 0 < times x xs → 0 < times x (xs ++ s ∷ [])
made_more x s xs some' = let push = times_push x s xs in omega arith

-- of a slot that was made beside others one reference is left when one of the others is given
pub made_left : (x s : SlotId) (xs : List SlotId) → 0 < times x xs
    → 0 < times s (without x (xs ++ s ∷ []))
made_left x s xs some' =
    let at_s = times_push s s xs in let at_x = times_push x s xs in let one = one_same s s refl in
    let has : 0 < times x (xs ++ s ∷ []) = omega arith in
    let w = times_without s x (xs ++ s ∷ []) has in
    ⊎_elim
    (λ (same : x.0 ≡ s.0). let o = one_same s x same in
    let e = ap (λ (y : SlotId). times y xs) (slot_eq x s same) in omega arith)
    (λ (apart : x.0 ≢ s.0). let o = one_other s x apart in omega arith)
    (cases_eq x.0 s.0)

-- what follows of an answer, where the call isn't refused
pub then_ok : {A E : Type 0} (P Q : A → Type 0) (r : Result A E) → ((x : A) → P x → Q x)
    → IfOk r P → IfOk r Q
then_ok P Q (Ok x) follows is = follows x is
then_ok P Q (Err e) follows is = tt
