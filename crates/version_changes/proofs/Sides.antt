-- A node is opened and one side of it changed: what the seat owns, how much it has used, and what a refusal tells.
use Rattle.std.proofs.Common.{◌≡◌, ◌≢◌, ℕ, ◌+◌, ◌*◌, ◌-◌, ◌<◌, ◌≤◌, sym, subst, arith}
use Rattle.std.specs.Prelude.{IfErr, IfOk, Option, Result, Some, None}
use Rattle.map_law.specs.plain_state.declared.slot.SlotId.{SlotId}
use Rattle.map_law.specs.plain_state.Lists.{times}
use Rattle.map_trees.specs.declared.change.Change.{Change}
use Rattle.map_law.specs.declared.view.View.{View}
use Rattle.slot_store.specs.counted_handles.Handles.{Handle}
use Rattle.slot_store.specs.acquire_retire.Domains.{DomainState}
use Rattle.slot_store.specs.acquire_retire.Seats.{SeatState}
use Rattle.version_making.specs.Keeping.{Keeps, OwnsBoth, none, of_both, of_handle, of_slot}
use Rattle.version_making.specs.Opening.{IsTaken}
use Rattle.version_making.specs.Standing.{IsTree}
use Rattle.version_making.proofs.Keeping.{keeps_most}
use Rattle.version_making.proofs.Own.{handle_owned}
use Rattle.version_making.proofs.Taken.{one_owned}
use Rattle.version_changes.specs.Changing.{IsChanged, IsChangedHere, IsRefusal}
use Rattle.version_changes.specs.Keeping.{of_changed}
use Rattle.version_changes.specs.Showing.{IsLonger}
use Rattle.version_changes.specs.declared.outcome.ChangeError.{ChangeError}
use Rattle.version_changes.specs.declared.outcome.Changed.{Changed}
use Rattle.version_changes.proofs.Refused.{left_refused, null_refused, right_refused, too_long}
use Rattle.version_changes.proofs.Results.{if_err, if_ok}
use Rattle.version_changes.proofs.Steps.{both_keeps, node_keeps, owns_both, part_refused}
use Rattle.version_changes.proofs.Subtrees.{node_changed}

-- NULL
pub null_why : {P : Type 0} (d : DomainState P) (tree : Option Handle) (levels : ℕ)
    (s0 s1 : SeatState View) (r : Result Changed ChangeError) → tree ≡ None
    → IfErr r (λ why. IsRefusal d why None 0 s0 s1) → IfErr r (λ why. IsRefusal d why tree levels s0 s1)
null_why d tree levels s0 s1 r is =
    if_err r (λ why. IsRefusal d why None 0 s0 s1) (λ why. IsRefusal d why tree levels s0 s1)
    (λ why refusal. subst (λ (k : Option Handle). IsRefusal d why k levels s0 s1) (sym is)
    (null_refused d why levels s0 s1 refusal))

-- A NODE
module _ (tree : Option Handle) (node : Handle) (is : tree ≡ Some node) (s0 : SeatState View) where
  pub node_owned : ((x : SlotId) → of_handle tree x ≤ times x s0.view.core.owned)
      → 0 < times node.slot s0.view.core.owned
  node_owned owned = handle_owned node.slot s0
      (λ x. subst (λ (k : Option Handle). of_handle k x ≤ times x s0.view.core.owned) is (owned x))

  pub node_long : (levels : ℕ) (s1 : SeatState View) → levels ≡ 0
      → Keeps 0 0 (of_handle (Some node)) none s0 s1 → IsTree tree s0 → IsLonger tree levels s0 s1
  node_long levels s1 end keeps stands =
      subst (λ (k : Option Handle). IsLonger k levels s0 s1) (sym is)
      (subst (λ (n : ℕ). IsLonger (Some node) n s0 s1) (sym end)
      (too_long node s0 s1 (of_handle (Some node)) none keeps
      (subst (λ (k : Option Handle). IsTree k s0) is stands)))

  module _ (key value height : ℕ) (left right : Option Handle) (s1 s2 : SeatState View) (levels : ℕ)
      (some : levels ≢ 0) (taken : IsTaken node key value height left right s0 s1)
      (k1 : Keeps 0 2 (of_slot node.slot) (of_both left right) s0 s1) (r : Result Changed ChangeError)
      (k2 : Keeps ((levels - 1) * 3 + 4) ((levels - 1) * 15 + 14) (of_both left right) (of_changed r)
      s1 s2) where
    pub sides_keep : Keeps (levels * 3 + 1) (levels * 15 + 1) (of_handle tree) (of_changed r) s0 s2
    sides_keep =
        subst (λ (k : Option Handle). Keeps (levels * 3 + 1) (levels * 15 + 1) (of_handle k)
        (of_changed r) s0 s2) (sym is)
        (node_keeps ((levels - 1) * 3 + 4) ((levels - 1) * 15 + 14) (levels * 3 + 1)
        (levels * 15 + 1) (of_handle (Some node)) (of_changed r) left right s0 s1 s2 k1 k2
        (omega (arith, some)) (omega (arith, some)))

    pub sides_changed : (sought : ℕ) (change : Change)
        → IfOk r (λ changed. IsChangedHere key value left right changed.tree sought change
        changed.answer s1 s2)
        → IfOk r (λ changed. IsChanged tree changed.tree sought change changed.answer s0 s2)
    sides_changed sought change =
        if_ok r
        (λ changed. IsChangedHere key value left right changed.tree sought change changed.answer s1 s2)
        (λ changed. IsChanged tree changed.tree sought change changed.answer s0 s2)
        (λ changed here. subst (λ (k : Option Handle). IsChanged k changed.tree sought change
        changed.answer s0 s2) (sym is)
        (node_changed node key value height left right changed.tree sought change changed.answer
        s0 s1 s2 taken k2.grows here))

    pub left_why : {P : Type 0} (d : DomainState P)
        → IfErr r (λ why. IsRefusal d why left (levels - 1) s1 s2)
        → IfErr r (λ why. IsRefusal d why tree levels s0 s2)
    left_why d =
        if_err r (λ why. IsRefusal d why left (levels - 1) s1 s2)
        (λ why. IsRefusal d why tree levels s0 s2)
        (λ why refusal. subst (λ (k : Option Handle). IsRefusal d why k levels s0 s2) (sym is)
        (left_refused node key value height left right s0 s1 s2 taken k1.goes k2.grows levels
        (levels - 1) (omega (arith, some)) d why refusal))

    pub right_why : {P : Type 0} (d : DomainState P)
        → IfErr r (λ why. IsRefusal d why right (levels - 1) s1 s2)
        → IfErr r (λ why. IsRefusal d why tree levels s0 s2)
    right_why d =
        if_err r (λ why. IsRefusal d why right (levels - 1) s1 s2)
        (λ why. IsRefusal d why tree levels s0 s2)
        (λ why refusal. subst (λ (k : Option Handle). IsRefusal d why k levels s0 s2) (sym is)
        (right_refused node key value height left right s0 s1 s2 taken k1.goes k2.grows levels
        (levels - 1) (omega (arith, some)) d why refusal))

  pub kids_owned : (left right : Option Handle) (s1 : SeatState View)
      → 0 < times node.slot s0.view.core.owned
      → Keeps 0 2 (of_slot node.slot) (of_both left right) s0 s1 → OwnsBoth left right s1
  kids_owned left right s1 owned k1 =
      owns_both (of_slot node.slot) left right s0 s1 (one_owned node.slot s0 owned) k1

-- ONE SIDE of it
module _ (part beside changed : Option Handle) (levels : ℕ) (given : SlotId → ℕ)
    (s0 s1 s2 : SeatState View) (same : (x : SlotId) → given x ≡ of_both part beside x)
    (owned : (x : SlotId) → of_both part beside x ≤ times x s0.view.core.owned) where
  pub side_keeps : Keeps (levels * 3 + 1) (levels * 15 + 1) (of_handle part) (of_handle changed) s0 s1
      → (gained : SlotId → ℕ) → Keeps 3 13 (of_both changed beside) gained s1 s2
      → Keeps (levels * 3 + 4) (levels * 15 + 14) given gained s0 s2
  side_keeps k1 gained k2 =
      keeps_most (levels * 3 + 1 + 3) (levels * 15 + 1 + 13) (levels * 3 + 4) (levels * 15 + 14) given
      gained s0 s2 (omega arith) (omega arith)
      (both_keeps part beside changed (levels * 3 + 1) (levels * 15 + 1) s0 s1 owned k1 3 13 gained
      given s2 k2 same)

  pub side_refused : Keeps (levels * 3 + 1) (levels * 15 + 1) (of_handle part) none s0 s1
      → Keeps 0 0 (of_handle beside) none s1 s2
      → Keeps (levels * 3 + 4) (levels * 15 + 14) given none s0 s2
  side_refused k1 k2 =
      keeps_most (levels * 3 + 1 + 0) (levels * 15 + 1 + 0) (levels * 3 + 4) (levels * 15 + 14) given
      none s0 s2 (omega arith) (omega arith)
      (part_refused part beside (levels * 3 + 1) (levels * 15 + 1) given s0 s1 s2 k1 k2 same)

-- the sides the other way round
pub owns_turned : (left right : Option Handle) (seat : SeatState View) → OwnsBoth left right seat
    → OwnsBoth right left seat
owns_turned left right seat owns x = let o = owns x in omega (arith, o)

pub same_turned : (left right : Option Handle) (x : SlotId)
    → of_both left right x ≡ of_both right left x
same_turned left right x = omega arith
