-- A node that was opened, field by field.
use Rattle.std.proofs.Common.{◌≡◌, inl, inr, ℕ, ◌<◌, List, refl, ap, sym, ◌∙◌, subst, arith}
use Rattle.std.specs.Prelude.{Option, Some, None, slice_index}
use Rattle.map_law.specs.plain_state.declared.slot.SlotId.{SlotId}
use Rattle.map_law.specs.plain_state.Lists.{times}
use Rattle.map_law.specs.plain_protocol.Owns.{Object}
use Rattle.map_law.specs.declared.view.Kid.{Kid}
use Rattle.map_law.specs.declared.view.View.{View}
use Rattle.map_law.specs.Nodes.{words}
use Rattle.map_law.specs.Patterns.{Notes, Pattern, Spells, branch, hole, null}
use Rattle.map_law.proofs.Growing.{notes_more}
use Rattle.map_law.proofs.Kit.{none_some, some_same}
use Rattle.slot_store.specs.counted_handles.Handles.{Handle}
use Rattle.slot_store.specs.domain_rule.Views.{object_in}
use Rattle.slot_store.specs.acquire_retire.Seats.{SeatState}
use Rattle.slot_store.proofs.Below.core_law_Kit.{times_without}
use Rattle.version_making.specs.Building.{height_by}
use Rattle.version_making.specs.Keeping.{Keeps, none, of_both, of_handle}
use Rattle.version_making.specs.Opening.{IsOpened, IsSide, Opens}
use Rattle.version_making.specs.Standing.{HasSide, IsSolid, IsTree, Stands, kid_by, node_in}
use Rattle.version_making.proofs.Keeping.{keeps_then}
use Rattle.version_making.proofs.Standing.{IsKept, kid_still, object_still, solid_still, spells_on, stands_still, tree_still}

-- of a subtree that wasn't read the slot and the height are known
abbrev pub rough : Option Handle → SeatState View → Pattern
rough None seat = null
rough (Some h) seat = hole h.slot (height_by (Some h) seat)

pub rough_stands : (k : Option Handle) (seat : SeatState View) → IsTree k seat → Stands k (rough k seat) seat
rough_stands None seat tree = record { tree = tt; spells = refl }
rough_stands (Some h) seat tree =
    let n = tree.node in record {
      tree = tree;
      spells = (
        node_in h.slot seat,
        refl,
        refl,
        (
          n.0,
          n.1,
          n.3 ∙ ap (λ (d : ℕ). words n.0 n.1 d) (sym (ap (λ (x : List ℕ). slice_index x 3) n.3)),
        ),
      );
    }

-- what was noted of a field that was read is what it holds
side_is : (s : SlotId) (i : ℕ) (h : Option Handle) (seat : SeatState View) → IsSide s i h seat
    → (a : Option Kid) → Notes seat.view.client s (object_in seat.view s).life i a
    → a ≡ kid_by h seat
side_is s i h seat side a n = sym n.5 ∙ side.only n.0 n.1 n.2 n.3 n.4

-- what a field holds it holds later
side_still : (m n : ℕ) (gained : SlotId → ℕ) (s : SlotId) (i : ℕ) (k : Option Handle) (a b : SeatState View)
    → Keeps m n none gained a b → IsKept none (Some (record { slot = s })) a → IsKept none k a
    → HasSide s i k a → HasSide s i k b
side_still m n gained s i k a b keeps node kept has =
    let lives = ap (λ (x : Object). x.life) (object_still m n none gained a b keeps s node) in
    subst (λ (x : Option Kid). Notes b.view.client s (object_in b.view s).life i x)
    (sym (kid_still m n none gained a b keeps k kept))
    (subst (λ (l : ℕ). Notes b.view.client s l i (kid_by k a)) (sym lives)
    (notes_more a.view.client b.view.client keeps.grows.led s (object_in a.view s).life i (kid_by k a)
    has))

-- the node after the first load
pub kept_one : (s : SlotId) (left : Option Handle) (s0 s1 : SeatState View)
    → 0 < times s s0.view.core.owned → IsSolid s s0 → Keeps 0 1 none (of_handle left) s0 s1
    → IsSolid s s1
kept_one s left s0 s1 owned solid k1 =
    solid_still 0 1 none (of_handle left) s0 s1 k1 s
    (λ x. let w = times_without x s s0.view.core.owned owned in omega (arith, w)) solid

module _ (s : SlotId) (left right : Option Handle) (s0 s1 s2 s3 s4 s5 : SeatState View)
    (owned : 0 < times s s0.view.core.owned) (solid : IsSolid s s0)
    (k1 : Keeps 0 1 none (of_handle left) s0 s1) (k2 : Keeps 0 1 none (of_handle right) s1 s2)
    (k3 : Keeps 0 0 none none s2 s3) (k4 : Keeps 0 0 none none s3 s4)
    (k5 : Keeps 0 0 none none s4 s5) where
  abbrev node : Option Handle
  node = Some (record { slot = s })

  kept : (a : SeatState View) → 0 < times s a.view.core.owned → IsKept none node a
  kept a o x = let w = times_without x s a.view.core.owned o in omega (arith, w)

  pub owned_one : 0 < times s s1.view.core.owned
  owned_one = let o = k1.owns s in omega (arith, o, owned)

  pub owned_two : 0 < times s s2.view.core.owned
  owned_two = let o = owned_one in let p = k2.owns s in omega (arith, o, p)

  pub owned_three : 0 < times s s3.view.core.owned
  owned_three = let o = owned_two in let p = k3.owns s in omega (arith, o, p)

  pub owned_four : 0 < times s s4.view.core.owned
  owned_four = let o = owned_three in let p = k4.owns s in omega (arith, o, p)

  keeps_two : Keeps 0 2 none (of_both left right) s0 s2
  keeps_two =
      keeps_then 0 1 0 1 none (of_handle left) none (of_handle right) none (of_both left right)
      s0 s1 s2 k1 k2 (λ x. (omega arith, omega arith, omega arith))

  reads : Keeps 0 0 none none s2 s5
  reads =
      keeps_then 0 0 0 0 none none none none none none s2 s4 s5
      (keeps_then 0 0 0 0 none none none none none none s2 s3 s4 k3 k4
      (λ x. (omega arith, omega arith, refl)))
      k5 (λ x. (omega arith, omega arith, refl))

  pub keeps_opened : Keeps 0 2 none (of_both left right) s0 s5
  keeps_opened =
      keeps_then 0 2 0 0 none (of_both left right) none none none (of_both left right)
      s0 s2 s5 keeps_two reads (λ x. (omega arith, omega arith, omega arith))

  later : Keeps 0 1 none (of_handle right) s1 s5
  later =
      keeps_then 0 1 0 0 none (of_handle right) none none none (of_handle right) s1 s2 s5 k2 reads
      (λ x. (omega arith, omega arith, omega arith))

  kept_left : IsKept none left s1
  kept_left x = let o = k1.owns x in omega (arith, o)

  kept_right : IsKept none right s2
  kept_right x = let o = k2.owns x in omega (arith, o)

  same_two : object_in s2.view s ≡ object_in s0.view s
  same_two = object_still 0 2 none (of_both left right) s0 s2 keeps_two s (kept s0 owned)

  same_three : object_in s3.view s ≡ object_in s0.view s
  same_three = object_still 0 0 none none s2 s3 k3 s (kept s2 owned_two) ∙ same_two

  same_four : object_in s4.view s ≡ object_in s0.view s
  same_four = object_still 0 0 none none s3 s4 k4 s (kept s3 owned_three) ∙ same_three

  same_five : object_in s5.view s ≡ object_in s0.view s
  same_five = object_still 0 2 none (of_both left right) s0 s5 keeps_opened s (kept s0 owned)

  module _ (first : IsSide s 0 left s1) (second : IsSide s 1 right s2) (key value height : ℕ)
      (key_is : key ≡ slice_index (object_in s2.view s).payload 1)
      (value_is : value ≡ slice_index (object_in s3.view s).payload 2)
      (height_is : height ≡ slice_index (object_in s4.view s).payload 3) where
    payload_is : (object_in s0.view s).payload ≡ words key value height
    payload_is =
        let n = solid.node in
        n.3 ∙ (λ i. words (sym (key_is ∙ (ap (λ (x : Object). slice_index x.payload 1) same_two
        ∙ ap (λ (x : List ℕ). slice_index x 1) n.3)) i)
        (sym (value_is ∙ (ap (λ (x : Object). slice_index x.payload 2) same_three
        ∙ ap (λ (x : List ℕ). slice_index x 2) n.3)) i)
        (sym (height_is ∙ (ap (λ (x : Object). slice_index x.payload 3) same_four
        ∙ ap (λ (x : List ℕ). slice_index x 3) n.3)) i))

    tree_left : IsTree left s5
    tree_left = tree_still 0 1 none (of_handle right) s1 s5 later left kept_left first.tree

    tree_right : IsTree right s5
    tree_right = tree_still 0 0 none none s2 s5 reads right kept_right second.tree

    has_left : HasSide s 0 left s5
    has_left = side_still 0 1 (of_handle right) s 0 left s1 s5 later (kept s1 owned_one) kept_left
        first.has

    has_right : HasSide s 1 right s5
    has_right = side_still 0 0 none s 1 right s2 s5 reads (kept s2 owned_two) kept_right second.has

    over : (l r : Pattern) → Stands left l s5 → Stands right r s5
        → Stands node (branch key value height l r) s5
    over l r sl sr = record {
      tree = solid_still 0 2 none (of_both left right) s0 s5 keeps_opened s (kept s0 owned) solid;
      spells = (
        node_in s s5,
        refl,
        ap (λ (x : Object). x.payload) same_five ∙ payload_is,
        (kid_by left s5, has_left, sl.spells),
        (kid_by right s5, has_right, sr.spells),
      );
    }

    -- the notes of one side, as they were
    noted : (i : ℕ) (k : Option Handle) (m n : ℕ) (gained : SlotId → ℕ) (b : SeatState View)
        → Keeps m n none gained s0 b → IsSide s i k b → (a : Option Kid) (pat : Pattern)
        → Notes s0.view.client s (object_in s0.view s).life i a → Spells s0.view.client a pat
        → Stands k pat b
    noted i k m n gained b keeps side a pat has spells =
        let lives = ap (λ (x : Object). x.life)
        (object_still m n none gained s0 b keeps s (kept s0 owned)) in
        let at = side_is s i k b side a
        (subst (λ (l : ℕ). Notes b.view.client s l i a) (sym lives)
        (notes_more s0.view.client b.view.client keeps.grows.led s (object_in s0.view s).life i a has)) in
        record {
          tree = side.tree;
          spells = subst (λ (x : Option Kid). Spells b.view.client x pat) at
              (spells_on s0.view.client b.view.client keeps.grows a pat spells);
        }

    stands : (pat : Pattern) → Stands node pat s0
        → (l : Pattern) × (r : Pattern) × Stands left l s5 × Stands right r s5
        × Stands node (branch key value height l r) s5 × Opens pat (branch key value height l r)
    stands null st = absurd (none_some (node_in s s0) (sym st.spells))
    stands (hole t h) st =
        let x = some_same (node_in s s0) st.spells.0 st.spells.1 in
        let word = sym payload_is ∙ (ap (λ (z : Kid). z.payload) x ∙ st.spells.3.2) in
        let high : h ≡ height = sym (ap (λ (z : List ℕ). slice_index z 3) word) in
        let l = rough_stands left s5 tree_left in
        let r = rough_stands right s5 tree_right in (
          rough left s5,
          rough right s5,
          l,
          r,
          over (rough left s5) (rough right s5) l r,
          inr (t, ap (hole t) high),
        )
    stands (branch k v h l r) st =
        let sp = st.spells in
        let x = sym (some_same (node_in s s0) sp.0 sp.1) in
        let word = sym payload_is ∙ (ap (λ (z : Kid). z.payload) (sym x) ∙ sp.2) in
        let a = subst (λ (z : Kid). Notes s0.view.client z.slot z.life 0 sp.3.0) x sp.3.1 in
        let b = subst (λ (z : Kid). Notes s0.view.client z.slot z.life 1 sp.4.0) x sp.4.1 in
        let sl = stands_still 0 1 none (of_handle right) s1 s5 later left l kept_left
        (noted 0 left 0 1 (of_handle left) s1 k1 first sp.3.0 l a sp.3.2) in
        let sr = stands_still 0 0 none none s2 s5 reads right r kept_right
        (noted 1 right 0 2 (of_both left right) s2 keeps_two second sp.4.0 r b sp.4.2) in (
          l,
          r,
          sl,
          sr,
          over l r sl sr,
          inl (λ i. branch (ap (λ (z : List ℕ). slice_index z 1) word i)
              (ap (λ (z : List ℕ). slice_index z 2) word i)
              (ap (λ (z : List ℕ). slice_index z 3) word i) l r),
        )

    pub is_opened : IsOpened (record { slot = s }) key value height left right s0 s5
    is_opened = record {
      payload = payload_is;
      left_tree = tree_left;
      right_tree = tree_right;
      stands = stands;
      over = λ w grows a b sa sb.
          let lives = ap (λ (x : Object). x.life) same_five in (
            node_in s s0,
            refl,
            payload_is,
            (
              kid_by left s5,
              subst (λ (l : ℕ). Notes w s l 0 (kid_by left s5)) lives
                  (notes_more s5.view.client w grows.led s (object_in s5.view s).life 0
                  (kid_by left s5) has_left),
              sa,
            ),
            (
              kid_by right s5,
              subst (λ (l : ℕ). Notes w s l 1 (kid_by right s5)) lives
                  (notes_more s5.view.client w grows.led s (object_in s5.view s).life 1
                  (kid_by right s5) has_right),
              sb,
            ),
          );
    }
