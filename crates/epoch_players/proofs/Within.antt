-- Lists of slots, each of which stands at most as often in one as in another.
use Rattle.std.proofs.Common.{ℕ, zero, suc, ◌<◌, List, [], ◌∷◌, ◌++◌, length, refl, arith}
use Rattle.std.specs.Prelude.{slice_index_or}
use Rattle.epoch_refs.specs.plain_protocol.plain_state.declared.slot.SlotId.{SlotId}
use Rattle.epoch_refs.specs.plain_protocol.plain_state.Lists.{times}
use Rattle.core_law.specs.core_events.Views.{without}
use Rattle.core_law.proofs.Kit.{one_same, times_cons, times_none, times_push, times_without}
use Rattle.epoch_players.specs.Plays.{IsWithin}

module _ (s : SlotId) (xs ys : List SlotId) where
  pub within_more : IsWithin xs ys → IsWithin (xs ++ s ∷ []) (ys ++ s ∷ [])
  within_more within x =
      let a = times_push x s xs in
      let b = times_push x s ys in
      let c = within x in omega arith

  pub within_some : IsWithin (xs ++ s ∷ []) ys → 0 < times s ys
  within_some within =
      let a = times_push s s xs in
      let b = one_same s s refl in
      let c = within s in omega arith

  pub within_fewer : IsWithin (xs ++ s ∷ []) ys → IsWithin xs ys
  within_fewer within x =
      let a = times_push x s xs in
      let c = within x in omega arith

  pub within_less : IsWithin (xs ++ s ∷ []) ys → IsWithin xs (without s ys)
  within_less within x =
      let a = times_push x s xs in
      let b = times_without x s ys (within_some within) in
      let c = within x in omega arith

-- an element of the one list stands in the other
stands_at : (xs : List SlotId) (i : ℕ) (d : SlotId) → i < length xs
    → 0 < times (slice_index_or xs i d) xs
stands_at [] i d low = absurd (omega arith)
stands_at (x ∷ xs) zero d low =
    let a = times_cons x x xs in
    let b = one_same x x refl in omega arith
stands_at (x ∷ xs) (suc i) d low =
    let a = times_cons (slice_index_or xs i d) x xs in
    let b = stands_at xs i d (omega arith) in omega arith

pub within_at : (xs ys : List SlotId) (i : ℕ) (d : SlotId) → IsWithin xs ys → i < length xs
    → 0 < times (slice_index_or xs i d) ys
within_at xs ys i d within low =
    let a = stands_at xs i d low in
    let b = within (slice_index_or xs i d) in omega arith

-- nothing is listed
pub within_none : (ys : List SlotId) → IsWithin [] ys
within_none ys s = let none = times_none s in omega arith
