-- The least pair is taken out of a node's subtree: what the seat owns, and how much it has used.
use Rattle.std.proofs.Common.{◌≡◌, ◌≢◌, ℕ, suc, ◌+◌, ◌*◌, ◌-◌, ◌<◌, ◌≤◌, ap, sym, subst, arith}
use Rattle.std.specs.Prelude.{Option, Some}
use Rattle.map_law.specs.plain_state.declared.slot.SlotId.{SlotId}
use Rattle.map_law.specs.plain_state.Lists.{times}
use Rattle.map_law.specs.declared.view.View.{View}
use Rattle.slot_store.specs.counted_handles.Handles.{Handle}
use Rattle.slot_store.specs.acquire_retire.Domains.{DomainState}
use Rattle.slot_store.specs.acquire_retire.Seats.{SeatState}
use Rattle.slot_store.specs.declared.making.MakeError.{MakeError}
use Rattle.version_making.specs.Building.{IsWhy}
use Rattle.version_making.specs.Keeping.{Keeps, none, of_both, of_handle, of_slot}
use Rattle.version_making.specs.Opening.{IsTaken}
use Rattle.version_making.specs.Standing.{IsSolid, IsTree}
use Rattle.version_making.proofs.Keeping.{goes_then, grows_then}
use Rattle.version_making.proofs.Own.{handle_owned}
use Rattle.version_making.proofs.Taken.{one_owned}
use Rattle.version_changes.specs.Changing.{IsRefusal}
use Rattle.version_changes.specs.declared.outcome.ChangeError.{ChangeError}
use Rattle.version_changes.proofs.Refused.{left_refused, refusal_on, why_before}
use Rattle.version_changes.proofs.Steps.{beside_owned, beside_tree, both_keeps, node_keeps, owned_mend, owns_both, part_refused}

-- no level is left, or one less
pub less_one : (n : ℕ) → n ≢ 0 → (n - 1 < n) × (suc (n - 1) ≡ n)
less_one n some = (omega (arith, some), omega (arith, some))

module _ (node : Handle) (left right : Option Handle) (levels : ℕ) (s0 s1 : SeatState View)
    (some : levels ≢ 0) (owned : 0 < times node.slot s0.view.core.owned)
    (k1 : Keeps 0 2 (of_slot node.slot) (of_both left right) s0 s1) where
  pub owns_kids : (x : SlotId) → of_both left right x ≤ times x s1.view.core.owned
  owns_kids = owns_both (of_slot node.slot) left right s0 s1 (one_owned node.slot s0 owned) k1

  module _ (first : Handle) (is : left ≡ Some first) where
    pub owns_first : (x : SlotId) → of_both (Some first) right x ≤ times x s1.view.core.owned
    owns_first x = subst (λ (k : Option Handle). of_both k right x ≤ times x s1.view.core.owned) is
        (owns_kids x)

    pub first_owned : 0 < times first.slot s1.view.core.owned
    first_owned = handle_owned first.slot s1 (λ x. let o = owns_first x in omega (arith, o))

    pub first_solid : IsTree left s1 → IsSolid first.slot s1
    first_solid = subst (λ (k : Option Handle). IsTree k s1) is

    same : (x : SlotId) → of_both left right x ≡ of_both (Some first) right x
    same x = ap (λ (k : Option Handle). of_both k right x) is

    module _ (rest : Option Handle) (s2 s3 : SeatState View)
        (k2 : Keeps ((levels - 1) * 3) ((levels - 1) * 15) (of_handle (Some first)) (of_handle rest)
        s1 s2) where
      pub owns_mend : (x : SlotId) → of_both rest right x ≤ times x s2.view.core.owned
      owns_mend = owned_mend (Some first) right rest ((levels - 1) * 3) ((levels - 1) * 15) s1 s2
          owns_first k2

      pub right_tree : IsTree right s1 → IsTree right s2
      right_tree = beside_tree (Some first) right rest ((levels - 1) * 3) ((levels - 1) * 15) s1 s2
          owns_first k2

      pub level_keeps : (gained : SlotId → ℕ) → Keeps 3 13 (of_both rest right) gained s2 s3
          → Keeps (levels * 3) (levels * 15) (of_slot node.slot) gained s0 s3
      level_keeps gained k3 =
          node_keeps ((levels - 1) * 3 + 3) ((levels - 1) * 15 + 13) (levels * 3) (levels * 15)
          (of_slot node.slot) gained left right s0 s1 s3 k1
          (both_keeps (Some first) right rest ((levels - 1) * 3) ((levels - 1) * 15) s1 s2 owns_first
          k2 3 13 gained (of_both left right) s3 k3 same) (omega (arith, some)) (omega (arith, some))

      pub mend_why : {P : Type 0} (d : DomainState P) (why : MakeError) → IsWhy d why s2 s3
          → IsWhy d why s0 s3
      mend_why d why =
          why_before d why s0 s2 s3
          (goes_then s0.view.core s1.view.core s2.view.core k1.goes k2.goes)

    module _ (s2 s3 : SeatState View)
        (k2 : Keeps ((levels - 1) * 3) ((levels - 1) * 15) (of_handle (Some first)) none s1 s2) where
      pub owns_right : (x : SlotId) → of_handle right x ≤ times x s2.view.core.owned
      owns_right = beside_owned (Some first) right ((levels - 1) * 3) ((levels - 1) * 15) s1 s2
          owns_first k2

      pub level_refused : Keeps 0 0 (of_handle right) none s2 s3
          → Keeps (levels * 3) (levels * 15) (of_slot node.slot) none s0 s3
      level_refused k3 =
          node_keeps ((levels - 1) * 3 + 0) ((levels - 1) * 15 + 0) (levels * 3) (levels * 15)
          (of_slot node.slot) none left right s0 s1 s3 k1
          (part_refused (Some first) right ((levels - 1) * 3) ((levels - 1) * 15) (of_both left right)
          s1 s2 s3 k2 k3 same) (omega (arith, some)) (omega (arith, some))

      pub level_why : {P : Type 0} (d : DomainState P) (why : ChangeError) (key value height : ℕ)
          → IsTaken node key value height left right s0 s1 → Keeps 0 0 (of_handle right) none s2 s3
          → IsRefusal d why (Some first) (levels - 1) s1 s2
          → IsRefusal d why (Some node) levels s0 s3
      level_why d why key value height taken k3 refusal =
          left_refused node key value height left right s0 s1 s3 taken k1.goes
          (grows_then s1.view.client s2.view.client s3.view.client k2.grows k3.grows) levels
          (levels - 1) (omega (arith, some)) d why
          (subst (λ (k : Option Handle). IsRefusal d why k (levels - 1) s1 s3) (sym is)
          (refusal_on d why (Some first) (levels - 1) (of_handle right) none s1 s2 s3 k3 refusal))
