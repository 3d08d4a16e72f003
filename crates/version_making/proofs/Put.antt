-- A node that is made over two subtrees, call by call.
use Rattle.std.proofs.Common.{◌≡◌, ℕ, suc, refl, sym, ◌∙◌, subst, arith}
use Rattle.std.specs.Prelude.{Option, Some, None, max}
use Rattle.map_law.specs.plain_state.declared.slot.SlotId.{SlotId}
use Rattle.map_law.specs.declared.view.Kid.{Kid}
use Rattle.map_law.specs.declared.view.Raw.{Raw}
use Rattle.map_law.specs.declared.view.View.{View}
use Rattle.map_law.specs.Nodes.{words}
use Rattle.map_law.specs.Patterns.{Pattern, Spells, branch}
use Rattle.map_law.specs.Plans.{height_of}
use Rattle.slot_store.specs.core_events.Counts.{one}
use Rattle.slot_store.specs.counted_handles.Handles.{Handle}
use Rattle.slot_store.specs.domain_rule.Views.{object_in}
use Rattle.slot_store.specs.acquire_retire.Seats.{SeatState}
use Rattle.version_making.specs.Building.{IsMaking, capped, height_by, put_over, raw_of, with_tree}
use Rattle.version_making.specs.Keeping.{Grows, Keeps, OwnsBoth, none, of_both, of_handle}
use Rattle.version_making.specs.Standing.{IsSolid, IsTree, Stands, kid_by, node_in}
use Rattle.version_making.proofs.Keeping.{grows_then, keeps_then}
use Rattle.version_making.proofs.Standing.{IsKept, height_still, object_still, spells_on, stands_height, stands_still, tree_still}

-- what both fields get
sides : (a b : Option Kid) (e : Raw) → e.first ≡ None → e.second ≡ None
    → ((with_tree 1 b (with_tree 0 a e)).first ≡ a) × ((with_tree 1 b (with_tree 0 a e)).second ≡ b)
    × ((with_tree 1 b (with_tree 0 a e)).payload ≡ e.payload)
    × ((with_tree 1 b (with_tree 0 a e)).slot ≡ e.slot)
    × ((with_tree 0 a e).slot ≡ e.slot)
sides None None e f s = (f, s, refl, refl, refl)
sides None (Some b) e f s = (f, refl, refl, refl, refl)
sides (Some a) None e f s = (refl, s, refl, refl, refl)
sides (Some a) (Some b) e f s = (refl, refl, refl, refl, refl)

-- THE HEIGHTS are read, and then the node is made
module _ (left right : Option Handle) (s0 s1 s2 : SeatState View) (owns : OwnsBoth left right s0)
    (k1 : Keeps 0 0 none none s0 s1) (k2 : Keeps 0 0 none none s1 s2) where
  pub kept_left : IsKept none left s0
  kept_left x = let o = owns x in omega (arith, o)

  pub kept_right : IsKept none right s0
  kept_right x = let o = owns x in omega (arith, o)

  pub right_height : height_by right s1 ≡ height_by right s0
  right_height = height_still 0 0 none none s0 s1 k1 right kept_right

  pub both : Keeps 0 0 none none s0 s2
  both = keeps_then 0 0 0 0 none none none none none none s0 s1 s2 k1 k2
      (λ x. (omega arith, omega arith, refl))

  pub refused_keeps : (s3 s4 s5 : SeatState View) → Keeps 1 1 none none s2 s3
      → Keeps 0 0 (of_handle left) none s3 s4 → Keeps 0 0 (of_handle right) none s4 s5
      → Keeps 1 1 (of_both left right) none s0 s5
  refused_keeps s3 s4 s5 k3 k4 k5 =
      keeps_then 1 1 0 0 (of_handle left) none (of_handle right) none (of_both left right) none
      s0 s4 s5
      (keeps_then 1 1 0 0 none none (of_handle left) none (of_handle left) none s0 s3 s4
      (keeps_then 0 0 1 1 none none none none none none s0 s2 s3 both k3
      (λ x. (omega arith, omega arith, refl)))
      k4 (λ x. (omega arith, omega arith, omega arith)))
      k5 (λ x. (omega arith, omega arith, omega arith))

  module _ (t : SlotId) (s3 : SeatState View) (k3 : Keeps 1 1 none (λ x. one x t) s2 s3) where
    pub made : Keeps 1 1 none (λ x. one x t) s0 s3
    made = keeps_then 0 0 1 1 none none none (λ x. one x t) none (λ x. one x t) s0 s2 s3 both k3
        (λ x. (omega arith, omega arith, omega arith))

    pub left_tree : IsTree left s0 → IsTree left s3
    left_tree tree = tree_still 1 1 none (λ x. one x t) s0 s3 made left kept_left tree

    -- THE FIELDS are set
    module _ (s4 : SeatState View) (k4 : Keeps 0 0 (of_handle left) none s3 s4) where
      kept_after : IsKept (of_handle left) right s3
      kept_after x = let o = owns x in let p = made.owns x in omega (arith, o, p)

      kept_node : IsKept (of_handle left) (Some (record { slot = t })) s3
      kept_node x = let o = owns x in let p = made.owns x in omega (arith, o, p)

      pub right_tree : IsTree right s0 → IsTree right s4
      right_tree tree =
          tree_still 0 0 (of_handle left) none s3 s4 k4 right kept_after
          (tree_still 1 1 none (λ x. one x t) s0 s3 made right kept_right tree)

      module _ (s5 : SeatState View) (k5 : Keeps 0 0 (of_handle right) none s4 s5) where
        kept_last : IsKept (of_handle right) (Some (record { slot = t })) s4
        kept_last x = let o = owns x in let p = made.owns x in let q = k4.owns x in
            omega (arith, o, p, q)

        pub object_last : object_in s5.view t ≡ object_in s3.view t
        object_last =
            object_still 0 0 (of_handle right) none s4 s5 k5 t kept_last
            ∙ object_still 0 0 (of_handle left) none s3 s4 k4 t kept_node

        module _ (s6 : SeatState View) (k6 : Keeps 0 0 none none s5 s6) where
          pub put_keeps : Keeps 1 1 (of_both left right) (λ x. one x t) s0 s6
          put_keeps =
              keeps_then 1 1 0 0 (of_both left right) (λ x. one x t) none none (of_both left right)
              (λ x. one x t) s0 s5 s6
              (keeps_then 1 1 0 0 (of_handle left) (λ x. one x t) (of_handle right) none
              (of_both left right) (λ x. one x t) s0 s4 s5
              (keeps_then 1 1 0 0 none (λ x. one x t) (of_handle left) none (of_handle left)
              (λ x. one x t) s0 s3 s4 made k4 (λ x. (omega arith, omega arith, omega arith)))
              k5 (λ x. (omega arith, omega arith, omega arith)))
              k6 (λ x. (omega arith, omega arith, omega arith))

          -- FROM THE NODE ON the notes spell a node over both
          pub put_stands : (key value height : ℕ)
              → height ≡ capped (suc (max (height_by left s0) (height_by right s1)))
              → (object_in s3.view t).payload ≡ words key value height
              → IsMaking (raw_of t s3) s3
              → ((e : Raw) → e.slot ≡ t → IsMaking e s3
              → IsMaking (with_tree 0 (kid_by left s3) e) s4)
              → ((e : Raw) → e.slot ≡ t → IsMaking e s4
              → IsMaking (with_tree 1 (kid_by right s4) e) s5)
              → ((e : Raw) → e.slot ≡ t → IsMaking e s5 → (l r : Pattern)
              → Spells s5.view.client e.first l → Spells s5.view.client e.second r
              → (key value height : ℕ) → e.payload ≡ words key value height
              → Spells s6.view.client (Some (node_in t s6)) (branch key value height l r))
              → IsSolid t s6 → (l r : Pattern) → Stands left l s0 → Stands right r s0
              → Stands (Some (record { slot = t })) (put_over key value l r) s6
          put_stands key value height high payload first set_left set_right ends solid l r sl sr =
              let e0 = raw_of t s3 in
              let a = kid_by left s3 in
              let b = kid_by right s4 in
              let two = sides a b e0 refl refl in
              let m4 = set_left e0 refl first in
              let m5 = set_right (with_tree 0 a e0) two.4 m4 in
              let left3 = stands_still 1 1 none (λ x. one x t) s0 s3 made left l kept_left sl in
              let right3 = stands_still 1 1 none (λ x. one x t) s0 s3 made right r kept_right sr in
              let right4 = stands_still 0 0 (of_handle left) none s3 s4 k4 right r kept_after right3 in
              let grown : Grows s3.view.client s5.view.client =
              grows_then s3.view.client s4.view.client s5.view.client k4.grows k5.grows in
              let spell = ends (with_tree 1 b (with_tree 0 a e0)) two.3 m5 l r
              (subst (λ (x : Option Kid). Spells s5.view.client x l) (sym two.0)
              (spells_on s3.view.client s5.view.client grown a l left3.spells))
              (subst (λ (x : Option Kid). Spells s5.view.client x r) (sym two.1)
              (spells_on s4.view.client s5.view.client k5.grows b r right4.spells))
              key value height (two.2 ∙ payload) in
              let hl = stands_height left l s0 sl in
              let hr = right_height ∙ stands_height right r s0 sr in
              let is : height ≡ capped (suc (max (height_of l) (height_of r))) =
              high ∙ (λ i. capped (suc (max (hl i) (hr i)))) in
              record {
                tree = solid;
                spells = subst (λ (h : ℕ). Spells s6.view.client (Some (node_in t s6))
                    (branch key value h l r)) is spell;
              }
