-- A subtree that is higher by 2 or more is opened, and its parts are put over the one beside it.
use Rattle.std.proofs.Common.{◌≡◌, ⊎_elim, ℕ, ◌+◌, ◌≤◌, refl, ap, sym, ◌∙◌, subst, arith}
use Rattle.std.specs.Prelude.{IfOk, Ok, Err, Option, Result, Some}
use Rattle.map_law.specs.plain_state.declared.slot.SlotId.{SlotId}
use Rattle.map_law.specs.plain_state.Lists.{times}
use Rattle.map_law.specs.declared.view.View.{View}
use Rattle.map_law.specs.Patterns.{Pattern, branch}
use Rattle.map_law.specs.Plans.{tilt_left, tilt_right}
use Rattle.map_law.proofs.Kit.{none_some}
use Rattle.slot_store.specs.core_events.Counts.{one}
use Rattle.slot_store.specs.counted_handles.Handles.{Handle}
use Rattle.slot_store.specs.acquire_retire.Seats.{SeatState}
use Rattle.version_making.specs.Joining.{IsLow, IsTilted, Unfolds}
use Rattle.version_making.specs.Keeping.{Keeps, none, of_answer, of_both, of_handle}
use Rattle.version_making.specs.Opening.{IsTaken}
use Rattle.version_making.specs.Standing.{IsTree, Stands, kid_by}
use Rattle.version_making.proofs.Keeping.{keeps_most, keeps_then}
use Rattle.version_making.proofs.Low.{unfolds_self}
use Rattle.version_making.proofs.Standing.{spells_on, stands_still, tree_still}

module _ (high : Handle) (side : Option Handle) (s0 s1 : SeatState View)
    (owned : (x : SlotId) → one x high.slot + of_handle side x ≤ times x s0.view.core.owned) where
  abbrev given : SlotId → ℕ
  given x = one x high.slot

  pub refused_lean : (s2 : SeatState View) → Keeps 0 2 given none s0 s1
      → Keeps 0 0 (of_handle side) none s1 s2
      → Keeps 3 7 (λ x. one x high.slot + of_handle side x) none s0 s2
  refused_lean s2 k1 k2 =
      keeps_most 0 2 3 7 (λ x. one x high.slot + of_handle side x) none s0 s2 (omega arith)
      (omega arith)
      (keeps_then 0 2 0 0 given none (of_handle side) none
      (λ x. one x high.slot + of_handle side x) none s0 s1 s2 k1 k2
      (λ x. (omega arith, omega arith, omega arith)))

  module _ (left right : Option Handle) (k1 : Keeps 0 2 given (of_both left right) s0 s1) where
    pub owned_left : (x : SlotId)
        → of_both left right x + of_handle side x ≤ times x s1.view.core.owned
    owned_left x = let o = owned x in let p = k1.owns x in omega (arith, o, p)

    pub owned_right : (x : SlotId)
        → of_both right left x + of_handle side x ≤ times x s1.view.core.owned
    owned_right x = let o = owned x in let p = k1.owns x in omega (arith, o, p)

    pub side_tree : IsTree side s0 → IsTree side s1
    side_tree = tree_still 0 2 given (of_both left right) s0 s1 k1 side owned

    side_stands : (d : Pattern) → Stands side d s0 → Stands side d s1
    side_stands d = stands_still 0 2 given (of_both left right) s0 s1 k1 side d owned

    module _ {E : Type 0} (s2 : SeatState View) (r : Result Handle E) (parts : SlotId → ℕ)
        (sum : (x : SlotId) → parts x ≡ of_both left right x)
        (k2 : Keeps 3 5 (λ x. parts x + of_handle side x) (of_answer r) s1 s2) where
      pub lean_keeps : Keeps 3 7 (λ x. one x high.slot + of_handle side x) (of_answer r) s0 s2
      lean_keeps =
          keeps_then 0 2 3 5 given (of_both left right) (λ x. parts x + of_handle side x)
          (of_answer r) (λ x. one x high.slot + of_handle side x) (of_answer r) s0 s1 s2 k1 k2
          (λ x. let e = sum x in (omega arith, omega arith, omega (arith, e)))

      module _ (item_key item_value key value height : ℕ)
          (taken : IsTaken high key value height left right s0 s1) where
        pub left_ok : IfOk r (λ node. (h : ℕ) (a m d : Pattern) → Stands left a s1
            → Stands right m s1 → Stands side d s1 → IsTilted
            (λ p. tilt_left item_key item_value (branch key value h a p) d)
            (IsLow a × IsLow d) node right s1 s2 m)
            → IfOk r (λ node. (l d : Pattern) → Stands (Some high) l s0 → Stands side d s0
            → IsTilted (λ p. tilt_left item_key item_value p d) (IsLow d) node (Some high) s0 s2
            l)
        left_ok tilted = go r tilted
          where
            go : (o : Result Handle E)
                → IfOk o (λ node. (h : ℕ) (a m d : Pattern) → Stands left a s1
                → Stands right m s1 → Stands side d s1 → IsTilted
                (λ p. tilt_left item_key item_value (branch key value h a p) d)
                (IsLow a × IsLow d) node right s1 s2 m)
                → IfOk o (λ node. (l d : Pattern) → Stands (Some high) l s0 → Stands side d s0
                → IsTilted (λ p. tilt_left item_key item_value p d) (IsLow d) node (Some high) s0
                s2 l)
            go (Ok node) tilted = λ l d sl sd.
                let t = taken.stands l sl in
                let u = tilted height t.0 t.1 d t.2 t.3 (side_stands d sd) in record {
                  opened = branch key value height t.0 u.opened;
                  tilted = u.tilted;
                  spells = taken.over s2.view.client k2.grows t.0 u.opened
                      (spells_on s1.view.client s2.view.client k2.grows (kid_by left s1) t.0
                      t.2.spells)
                      u.spells;
                  unfolds = ⊎_elim
                      (λ (e : branch key value height t.0 t.1 ≡ l).
                      subst (λ (z : Pattern). Unfolds z (branch key value height t.0 u.opened)) e
                      (t.0, u.opened, refl, unfolds_self t.0, u.unfolds))
                      (λ h. subst (λ (z : Pattern).
                      Unfolds z (branch key value height t.0 u.opened)) (sym h.1) refl)
                      t.5;
                  planned = λ low lowd. u.planned low.2 (low.1, lowd);
                  stands = u.stands;
                  enough = λ q e. ⊎_elim
                      (λ (same : branch key value height t.0 t.1 ≡ l).
                      ap (branch key value height t.0)
                      (u.enough q (ap (λ (z : Pattern). tilt_left item_key item_value z d) same ∙ e))
                      ∙ same)
                      (λ h. absurd (none_some q
                      (ap (λ (z : Pattern). tilt_left item_key item_value z d) (sym h.1) ∙ e)))
                      t.5;
                }
            go (Err e) tilted = tt

        pub right_ok : IfOk r (λ node. (h : ℕ) (a m d : Pattern) → Stands right a s1
            → Stands left m s1 → Stands side d s1 → IsTilted
            (λ p. tilt_right item_key item_value d (branch key value h p a))
            (IsLow a × IsLow d) node left s1 s2 m)
            → IfOk r (λ node. (l d : Pattern) → Stands (Some high) l s0 → Stands side d s0
            → IsTilted (λ p. tilt_right item_key item_value d p) (IsLow d) node (Some high) s0 s2
            l)
        right_ok tilted = go r tilted
          where
            go : (o : Result Handle E)
                → IfOk o (λ node. (h : ℕ) (a m d : Pattern) → Stands right a s1
                → Stands left m s1 → Stands side d s1 → IsTilted
                (λ p. tilt_right item_key item_value d (branch key value h p a))
                (IsLow a × IsLow d) node left s1 s2 m)
                → IfOk o (λ node. (l d : Pattern) → Stands (Some high) l s0 → Stands side d s0
                → IsTilted (λ p. tilt_right item_key item_value d p) (IsLow d) node (Some high)
                s0 s2 l)
            go (Ok node) tilted = λ l d sl sd.
                let t = taken.stands l sl in
                let u = tilted height t.1 t.0 d t.3 t.2 (side_stands d sd) in record {
                  opened = branch key value height u.opened t.1;
                  tilted = u.tilted;
                  spells = taken.over s2.view.client k2.grows u.opened t.1 u.spells
                      (spells_on s1.view.client s2.view.client k2.grows (kid_by right s1) t.1
                      t.3.spells);
                  unfolds = ⊎_elim
                      (λ (e : branch key value height t.0 t.1 ≡ l).
                      subst (λ (z : Pattern). Unfolds z (branch key value height u.opened t.1)) e
                      (u.opened, t.1, refl, u.unfolds, unfolds_self t.1))
                      (λ h. subst (λ (z : Pattern).
                      Unfolds z (branch key value height u.opened t.1)) (sym h.1) refl)
                      t.5;
                  planned = λ low lowd. u.planned low.1 (low.2, lowd);
                  stands = u.stands;
                  enough = λ q e. ⊎_elim
                      (λ (same : branch key value height t.0 t.1 ≡ l).
                      ap (λ (z : Pattern). branch key value height z t.1)
                      (u.enough q (ap (λ (z : Pattern). tilt_right item_key item_value d z) same
                      ∙ e))
                      ∙ same)
                      (λ h. absurd (none_some q
                      (ap (λ (z : Pattern). tilt_right item_key item_value d z) (sym h.1) ∙ e)))
                      t.5;
                }
            go (Err e) tilted = tt
