-- A node that was opened, one of its subtrees changed, and both joined again: what the seat owns in between.
use Rattle.std.proofs.Common.{◌≡◌, ℕ, ◌+◌, ◌≤◌, subst, arith}
use Rattle.std.specs.Prelude.{Option}
use Rattle.map_law.specs.plain_state.declared.slot.SlotId.{SlotId}
use Rattle.map_law.specs.plain_state.Lists.{times}
use Rattle.map_law.specs.declared.view.Kid.{Kid}
use Rattle.map_law.specs.declared.view.View.{View}
use Rattle.map_law.specs.Patterns.{Pattern, Spells}
use Rattle.slot_store.specs.counted_handles.Handles.{Handle}
use Rattle.slot_store.specs.acquire_retire.Seats.{SeatState}
use Rattle.version_making.specs.Keeping.{Keeps, none, of_both, of_handle}
use Rattle.version_making.specs.Standing.{IsTree, kid_by}
use Rattle.version_making.proofs.Keeping.{keeps_most, keeps_then}
use Rattle.version_making.proofs.Standing.{IsKept, kid_still, tree_still}

-- THE SUBTREES of a node that was opened
module _ (given : SlotId → ℕ) (left right : Option Handle) (s0 s1 : SeatState View)
    (owned : (x : SlotId) → given x ≤ times x s0.view.core.owned)
    (k1 : Keeps 0 2 given (of_both left right) s0 s1) where
  pub owns_both : (x : SlotId) → of_both left right x ≤ times x s1.view.core.owned
  owns_both x = let o = k1.owns x in let p = owned x in omega (arith, o, p)

-- ONE IS CHANGED, and the other one stands beside it
module _ (part beside changed : Option Handle) (m n : ℕ) (s0 s1 : SeatState View)
    (owned : (x : SlotId) → of_both part beside x ≤ times x s0.view.core.owned)
    (k1 : Keeps m n (of_handle part) (of_handle changed) s0 s1) where
  kept_beside : IsKept (of_handle part) beside s0
  kept_beside x = owned x

  pub owned_part : (x : SlotId) → of_handle part x ≤ times x s0.view.core.owned
  owned_part x = let o = owned x in omega (arith, o)

  pub owned_mend : (x : SlotId) → of_both changed beside x ≤ times x s1.view.core.owned
  owned_mend x = let o = owned x in let p = k1.owns x in omega (arith, o, p)

  pub owned_beside : (x : SlotId) → of_handle beside x ≤ times x s1.view.core.owned
  owned_beside x = let o = owned x in let p = k1.owns x in omega (arith, o, p)

  pub beside_tree : IsTree beside s0 → IsTree beside s1
  beside_tree = tree_still m n (of_handle part) (of_handle changed) s0 s1 k1 beside kept_beside

  -- what notes spell of the one beside later they spell of it from the first state on
  pub beside_spells : (v : View) (p : Pattern) → Spells v (kid_by beside s1) p
      → Spells v (kid_by beside s0) p
  beside_spells v p =
      subst (λ (k : Option Kid). Spells v k p)
      (kid_still m n (of_handle part) (of_handle changed) s0 s1 k1 beside kept_beside)

  -- whatever comes then
  pub both_keeps : (m' n' : ℕ) (gained given : SlotId → ℕ) (s2 : SeatState View)
      → Keeps m' n' (of_both changed beside) gained s1 s2
      → ((x : SlotId) → given x ≡ of_both part beside x) → Keeps (m + m') (n + n') given gained s0 s2
  both_keeps m' n' gained given s2 k2 same =
      keeps_then m n m' n' (of_handle part) (of_handle changed) (of_both changed beside) gained
      given gained s0 s1 s2 k1 k2
      (λ x. let e = same x in (omega (arith, e), omega arith, omega (arith, e)))

-- a refusal, after which the one beside is given up
pub part_refused : (part beside : Option Handle) (m n : ℕ) (given : SlotId → ℕ)
    (s0 s1 s2 : SeatState View) → Keeps m n (of_handle part) none s0 s1
    → Keeps 0 0 (of_handle beside) none s1 s2
    → ((x : SlotId) → given x ≡ of_both part beside x)
    → Keeps (m + 0) (n + 0) given none s0 s2
part_refused part beside m n given s0 s1 s2 k1 k2 same =
    keeps_then m n 0 0 (of_handle part) none (of_handle beside) none given none s0 s1 s2 k1 k2
    (λ x. let e = same x in (omega (arith, e), omega arith, omega (arith, e)))

pub beside_owned : (part beside : Option Handle) (m n : ℕ) (s0 s1 : SeatState View)
    → ((x : SlotId) → of_both part beside x ≤ times x s0.view.core.owned)
    → Keeps m n (of_handle part) none s0 s1
    → (x : SlotId) → of_handle beside x ≤ times x s1.view.core.owned
beside_owned part beside m n s0 s1 owned k1 x =
    let o = owned x in let p = k1.owns x in omega (arith, o, p)

-- after the node was opened
pub node_keeps : (m n m' n' : ℕ) (given gained : SlotId → ℕ) (left right : Option Handle)
    (s0 s1 s2 : SeatState View) → Keeps 0 2 given (of_both left right) s0 s1
    → Keeps m n (of_both left right) gained s1 s2 → m ≤ m' → 2 + n ≤ n'
    → Keeps m' n' given gained s0 s2
node_keeps m n m' n' given gained left right s0 s1 s2 k1 k2 le le' =
    keeps_most (0 + m) (2 + n) m' n' given gained s0 s2 (omega (arith, le)) le'
    (keeps_then 0 2 m n given (of_both left right) (of_both left right) gained given gained s0 s1 s2
    k1 k2 (λ x. (omega arith, omega arith, omega arith)))
