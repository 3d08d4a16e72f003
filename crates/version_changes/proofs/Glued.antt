-- Two subtrees become one: what the seat owns, and how much it has used.
use Rattle.std.proofs.Common.{◌≡◌, ℕ, ◌+◌, ◌*◌, ◌<◌, ◌≤◌, ap, sym, ◌∙◌, subst, arith}
use Rattle.std.specs.Prelude.{Option, Some}
use Rattle.map_law.specs.plain_state.declared.slot.SlotId.{SlotId}
use Rattle.map_law.specs.plain_state.Lists.{times}
use Rattle.map_law.specs.declared.view.View.{View}
use Rattle.slot_store.specs.counted_handles.Handles.{Handle}
use Rattle.slot_store.specs.acquire_retire.Domains.{DomainState}
use Rattle.slot_store.specs.acquire_retire.Seats.{SeatState}
use Rattle.version_making.specs.Keeping.{Keeps, OwnsBoth, none, of_both, of_handle}
use Rattle.version_making.specs.Standing.{IsTree}
use Rattle.version_making.proofs.Keeping.{keeps_most}
use Rattle.version_making.proofs.Own.{handle_owned}
use Rattle.version_changes.specs.Changing.{IsRefusal}
use Rattle.version_changes.specs.declared.outcome.ChangeError.{ChangeError}
use Rattle.version_changes.proofs.Refused.{refusal_on}
use Rattle.version_changes.proofs.Steps.{beside_owned, beside_tree, both_keeps, owned_mend, part_refused}

module _ (first : Handle) (left right : Option Handle) (levels : ℕ) (s0 : SeatState View)
    (is : right ≡ Some first) (owns : OwnsBoth left right s0) where
  pub owns_turned : (x : SlotId) → of_both (Some first) left x ≤ times x s0.view.core.owned
  owns_turned x =
      let o = subst (λ (k : Option Handle). of_both left k x ≤ times x s0.view.core.owned) is (owns x) in
      omega (arith, o)

  pub first_owned : 0 < times first.slot s0.view.core.owned
  first_owned = handle_owned first.slot s0 (λ x. let o = owns_turned x in omega (arith, o))

  same : (x : SlotId) → of_both left right x ≡ of_both (Some first) left x
  same x = ap (λ (k : Option Handle). of_both left k x) is ∙ (omega arith)

  module _ (rest : Option Handle) (s1 s2 : SeatState View)
      (k1 : Keeps (levels * 3) (levels * 15) (of_handle (Some first)) (of_handle rest) s0 s1) where
    pub owns_mend : (x : SlotId) → of_both rest left x ≤ times x s1.view.core.owned
    owns_mend = owned_mend (Some first) left rest (levels * 3) (levels * 15) s0 s1 owns_turned k1

    pub left_tree : IsTree left s0 → IsTree left s1
    left_tree = beside_tree (Some first) left rest (levels * 3) (levels * 15) s0 s1 owns_turned k1

    pub glue_keeps : (gained : SlotId → ℕ) → Keeps 3 13 (of_both rest left) gained s1 s2
        → Keeps (levels * 3 + 3) (levels * 15 + 13) (of_both left right) gained s0 s2
    glue_keeps gained k2 =
        both_keeps (Some first) left rest (levels * 3) (levels * 15) s0 s1 owns_turned k1 3 13 gained
        (of_both left right) s2 k2 same

  module _ (s1 s2 : SeatState View)
      (k1 : Keeps (levels * 3) (levels * 15) (of_handle (Some first)) none s0 s1) where
    pub owns_left : (x : SlotId) → of_handle left x ≤ times x s1.view.core.owned
    owns_left = beside_owned (Some first) left (levels * 3) (levels * 15) s0 s1 owns_turned k1

    pub glue_refused : Keeps 0 0 (of_handle left) none s1 s2
        → Keeps (levels * 3 + 3) (levels * 15 + 13) (of_both left right) none s0 s2
    glue_refused k2 =
        keeps_most (levels * 3 + 0) (levels * 15 + 0) (levels * 3 + 3) (levels * 15 + 13)
        (of_both left right) none s0 s2 (omega arith) (omega arith)
        (part_refused (Some first) left (levels * 3) (levels * 15) (of_both left right) s0 s1 s2 k1 k2
        same)

    pub glue_why : {P : Type 0} (d : DomainState P) (why : ChangeError)
        → Keeps 0 0 (of_handle left) none s1 s2 → IsRefusal d why (Some first) levels s0 s1
        → IsRefusal d why right levels s0 s2
    glue_why d why k2 refusal =
        subst (λ (k : Option Handle). IsRefusal d why k levels s0 s2) (sym is)
        (refusal_on d why (Some first) levels (of_handle left) none s0 s1 s2 k2 refusal)
