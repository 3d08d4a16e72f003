-- Two subtrees that are joined, by which of them is higher.
use Rattle.std.proofs.Common.{◌≡◌, ℕ, suc, ◌≤◌, Bool, true, false, refl, ap, sym, ◌∙◌, subst, arith}
use Rattle.std.specs.Prelude.{IfOk, Ok, Err, Option, Result, Some, nat_lt, if◌then◌else◌}
use Rattle.map_law.specs.plain_state.declared.slot.SlotId.{SlotId}
use Rattle.map_law.specs.plain_state.Lists.{times}
use Rattle.map_law.specs.declared.view.Kid.{Kid}
use Rattle.map_law.specs.declared.view.View.{View}
use Rattle.map_law.specs.Patterns.{Pattern, Spells}
use Rattle.map_law.specs.Plans.{height_of, joins, over_both, tilt_left, tilt_right}
use Rattle.slot_store.specs.counted_handles.Handles.{Handle}
use Rattle.slot_store.specs.acquire_retire.Seats.{SeatState}
use Rattle.version_making.specs.Building.{IsPut, height_by, put_over}
use Rattle.version_making.specs.Joining.{IsJoined, IsLow, IsTilted}
use Rattle.version_making.specs.Keeping.{Keeps, OwnsBoth, none, of_answer, of_both, of_handle}
use Rattle.version_making.specs.Standing.{IsTree, Stands, kid_by}
use Rattle.version_making.proofs.Keeping.{keeps_most, keeps_then}
use Rattle.version_making.proofs.Low.{low_height, put_is, unfolds_height, unfolds_self}
use Rattle.version_making.proofs.Standing.{IsKept, height_still, kid_still, spells_on, stands_height, stands_still, tree_still}

-- THE PLANS
module _ (k v : ℕ) (l r : Pattern) where
  on_left : nat_lt (suc (height_of r)) (height_of l) ≡ true → joins k v l r ≡ tilt_left k v l r
  on_left up = ap (λ (z : Bool). if z then tilt_left k v l r
      else (if nat_lt (suc (height_of l)) (height_of r) then tilt_right k v l r
      else Some (over_both k v l r))) up

  on_right : nat_lt (suc (height_of r)) (height_of l) ≡ false
      → nat_lt (suc (height_of l)) (height_of r) ≡ true → joins k v l r ≡ tilt_right k v l r
  on_right flat up =
      ap (λ (z : Bool). if z then tilt_left k v l r
      else (if nat_lt (suc (height_of l)) (height_of r) then tilt_right k v l r
      else Some (over_both k v l r))) flat
      ∙ ap (λ (z : Bool). if z then tilt_right k v l r else Some (over_both k v l r)) up

  on_none : nat_lt (suc (height_of r)) (height_of l) ≡ false
      → nat_lt (suc (height_of l)) (height_of r) ≡ false → joins k v l r ≡ Some (over_both k v l r)
  on_none flat other =
      ap (λ (z : Bool). if z then tilt_left k v l r
      else (if nat_lt (suc (height_of l)) (height_of r) then tilt_right k v l r
      else Some (over_both k v l r))) flat
      ∙ ap (λ (z : Bool). if z then tilt_right k v l r else Some (over_both k v l r)) other

module _ (left right : Option Handle) (s0 s1 s2 : SeatState View) (owns : OwnsBoth left right s0)
    (k1 : Keeps 0 0 none none s0 s1) (k2 : Keeps 0 0 none none s1 s2) where
  both : Keeps 0 0 none none s0 s2
  both = keeps_then 0 0 0 0 none none none none none none s0 s1 s2 k1 k2
      (λ x. (omega arith, omega arith, refl))

  kept_left : IsKept none left s0
  kept_left x = let o = owns x in omega (arith, o)

  kept_right : IsKept none right s0
  kept_right x = let o = owns x in omega (arith, o)

  pub owned_right : (x : SlotId) → of_handle right x ≤ times x s1.view.core.owned
  owned_right x = let o = owns x in let p = k1.owns x in omega (arith, o, p)

  pub owned_both : OwnsBoth left right s2
  owned_both x = let o = owns x in let p = both.owns x in omega (arith, o, p)

  pub trees_both : IsTree left s0 × IsTree right s0 → IsTree left s2 × IsTree right s2
  trees_both t = (
    tree_still 0 0 none none s0 s2 both left kept_left t.0,
    tree_still 0 0 none none s0 s2 both right kept_right t.1,
  )

  left_stands : (l : Pattern) → Stands left l s0 → Stands left l s2
  left_stands l = stands_still 0 0 none none s0 s2 both left l kept_left

  right_stands : (r : Pattern) → Stands right r s0 → Stands right r s2
  right_stands r = stands_still 0 0 none none s0 s2 both right r kept_right

  pub join_keeps : {E : Type 0} (m n : ℕ) (r : Result Handle E) (s3 : SeatState View) (given : SlotId → ℕ)
      → m ≤ 3 → n ≤ 7 → ((x : SlotId) → given x ≡ of_both left right x)
      → Keeps m n given (of_answer r) s2 s3
      → Keeps 3 7 (of_both left right) (of_answer r) s0 s3
  join_keeps m n r s3 given lm ln sum k3 =
      keeps_then 0 0 3 7 none none given (of_answer r) (of_both left right) (of_answer r) s0 s2 s3
      both (keeps_most m n 3 7 given (of_answer r) s2 s3 lm ln k3)
      (λ x. let e = sum x in (omega arith, omega arith, omega (arith, e)))

  module _ (high low : ℕ) (high_is : high ≡ height_by left s0) (low_is : low ≡ height_by right s1)
      (key value : ℕ) {E : Type 0} (res : Result Handle E) (s3 : SeatState View)
      (k3 : Keeps 3 7 (of_both left right) (of_answer res) s0 s3) where
    on_heights : (f : ℕ → ℕ → Bool) (b : Bool) → f low high ≡ b → (l r : Pattern)
        → Stands left l s0 → Stands right r s0 → f (height_of r) (height_of l) ≡ b
    on_heights f b is l r sl sr =
        let hl = high_is ∙ stands_height left l s0 sl in
        let hr = low_is ∙ (height_still 0 0 none none s0 s1 k1 right kept_right
        ∙ stands_height right r s0 sr) in
        (λ i. f (sym hr i) (sym hl i)) ∙ is

    spells_later : (k : Option Kid) (p : Pattern) → Spells s0.view.client k p
        → Spells s3.view.client k p
    spells_later = spells_on s0.view.client s3.view.client k3.grows

    -- LEFT is higher
    pub join_left : nat_lt (suc low) high ≡ true → (node : Handle) → left ≡ Some node
        → IfOk res (λ n. (l d : Pattern) → Stands (Some node) l s2 → Stands right d s2
        → IsTilted (λ p. tilt_left key value p d) (IsLow d) n (Some node) s2 s3 l)
        → IfOk res (λ n. (l r : Pattern) → Stands left l s0 → Stands right r s0
        → IsJoined n key value left right s0 s3 l r)
    join_left up node is tilted = go res tilted
      where
        go : (o : Result Handle E)
            → IfOk o (λ n. (l d : Pattern) → Stands (Some node) l s2 → Stands right d s2
            → IsTilted (λ p. tilt_left key value p d) (IsLow d) n (Some node) s2 s3 l)
            → IfOk o (λ n. (l r : Pattern) → Stands left l s0 → Stands right r s0
            → IsJoined n key value left right s0 s3 l r)
        go (Ok n) tilted = λ l r sl sr.
            let t = tilted l r
            (subst (λ (k : Option Handle). Stands k l s2) is (left_stands l sl)) (right_stands r sr) in
            let at = on_heights (λ a b. nat_lt (suc a) b) true up l r sl sr in
            let same = unfolds_height l t.opened t.unfolds in record {
              left_opened = t.opened;
              right_opened = r;
              joined = t.tilted;
              left_spells = subst (λ (k : Option Kid). Spells s3.view.client k t.opened)
                  (ap (λ (h : Option Handle). kid_by h s2) (sym is)
                  ∙ kid_still 0 0 none none s0 s2 both left kept_left) t.spells;
              right_spells = spells_later (kid_by right s0) r sr.spells;
              left_unfolds = t.unfolds;
              right_unfolds = unfolds_self r;
              planned = λ ll lr.
                  on_left key value t.opened r
                  (ap (λ (h : ℕ). nat_lt (suc (height_of r)) h) same ∙ at)
                  ∙ t.planned ll lr;
              stands = t.stands;
              enough = λ q e. (t.enough q (sym (on_left key value l r at) ∙ e), refl);
            }
        go (Err e) tilted = tt

    -- RIGHT is higher
    pub join_right : nat_lt (suc low) high ≡ false → nat_lt (suc high) low ≡ true
        → (node : Handle) → right ≡ Some node
        → IfOk res (λ n. (r d : Pattern) → Stands (Some node) r s2 → Stands left d s2
        → IsTilted (λ p. tilt_right key value d p) (IsLow d) n (Some node) s2 s3 r)
        → IfOk res (λ n. (l r : Pattern) → Stands left l s0 → Stands right r s0
        → IsJoined n key value left right s0 s3 l r)
    join_right flat up node is tilted = go res tilted
      where
        go : (o : Result Handle E)
            → IfOk o (λ n. (r d : Pattern) → Stands (Some node) r s2 → Stands left d s2
            → IsTilted (λ p. tilt_right key value d p) (IsLow d) n (Some node) s2 s3 r)
            → IfOk o (λ n. (l r : Pattern) → Stands left l s0 → Stands right r s0
            → IsJoined n key value left right s0 s3 l r)
        go (Ok n) tilted = λ l r sl sr.
            let t = tilted r l
            (subst (λ (k : Option Handle). Stands k r s2) is (right_stands r sr)) (left_stands l sl) in
            let no = on_heights (λ a b. nat_lt (suc a) b) false flat l r sl sr in
            let at = on_heights (λ a b. nat_lt (suc b) a) true up l r sl sr in
            let same = unfolds_height r t.opened t.unfolds in record {
              left_opened = l;
              right_opened = t.opened;
              joined = t.tilted;
              left_spells = spells_later (kid_by left s0) l sl.spells;
              right_spells = subst (λ (k : Option Kid). Spells s3.view.client k t.opened)
                  (ap (λ (h : Option Handle). kid_by h s2) (sym is)
                  ∙ kid_still 0 0 none none s0 s2 both right kept_right) t.spells;
              left_unfolds = unfolds_self l;
              right_unfolds = t.unfolds;
              planned = λ ll lr.
                  on_right key value l t.opened
                  (ap (λ (h : ℕ). nat_lt (suc h) (height_of l)) same ∙ no)
                  (ap (λ (h : ℕ). nat_lt (suc (height_of l)) h) same ∙ at)
                  ∙ t.planned lr ll;
              stands = t.stands;
              enough = λ q e. (refl, t.enough q (sym (on_right key value l r no at) ∙ e));
            }
        go (Err e) tilted = tt

    -- NEITHER is higher by 2
    pub join_plain : nat_lt (suc low) high ≡ false → nat_lt (suc high) low ≡ false
        → IfOk res (λ n. IsPut n key value left right s2 s3)
        → IfOk res (λ n. (l r : Pattern) → Stands left l s0 → Stands right r s0
        → IsJoined n key value left right s0 s3 l r)
    join_plain flat other put = go res put
      where
        go : (o : Result Handle E) → IfOk o (λ n. IsPut n key value left right s2 s3)
            → IfOk o (λ n. (l r : Pattern) → Stands left l s0 → Stands right r s0
            → IsJoined n key value left right s0 s3 l r)
        go (Ok n) put = λ l r sl sr.
            let no = on_heights (λ a b. nat_lt (suc a) b) false flat l r sl sr in
            let nor = on_heights (λ a b. nat_lt (suc b) a) false other l r sl sr in record {
              left_opened = l;
              right_opened = r;
              joined = put_over key value l r;
              left_spells = spells_later (kid_by left s0) l sl.spells;
              right_spells = spells_later (kid_by right s0) r sr.spells;
              left_unfolds = unfolds_self l;
              right_unfolds = unfolds_self r;
              planned = λ ll lr.
                  let hl = low_height l ll in let hr = low_height r lr in
                  on_none key value l r no nor
                  ∙ ap (λ (z : Pattern). Some z)
                  (sym (put_is key value l r (omega (arith, hl)) (omega (arith, hr))));
              stands = put l r (left_stands l sl) (right_stands r sr);
              enough = λ q e. (refl, refl);
            }
        go (Err e) put = tt
