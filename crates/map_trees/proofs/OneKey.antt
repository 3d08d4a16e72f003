-- A change changes what its key has, and nothing else.
use Rattle.std.proofs.Common.{◌≡◌, ◌≢◌, ℕ, List, [], ◌∷◌, refl, ap, ◌∙◌, subst}
use Rattle.std.specs.Prelude.{if◌then◌else◌, ◌==◌, Option, Some}
use Rattle.map_trees.specs.Trees.{Pair}
use Rattle.map_trees.specs.Maps.{get, put, changed}
use Rattle.map_trees.specs.declared.change.Change.{Change}
use Rattle.map_trees.proofs.Lists.{Way, left, here, right, way, eq_true, eq_false}
use Rattle.std.proofs.Common.{Bool, true, false, sym}
use Rattle.std.specs.Prelude.{None}
use Rattle.map_trees.specs.Trees.{AllAbove, Ascends}
use Rattle.map_trees.specs.Maps.{take, bumped}
use Rattle.map_trees.specs.declared.change.Change.TheVariants as change
use Rattle.map_trees.proofs.Lists.{get_none, put_ascends, take_ascends}
use Rattle.std.proofs.lemmas.Bool.{eqb-true}

pub get_put_same : (k v : ℕ) (m : List Pair) → get k (put k v m) ≡ Some v
get_put_same k v [] = let a = eq_true k k refl in rw a refl
get_put_same k v (x ∷ m) = go (way k x.key) (get_put_same k v m)
  where
    go : Way k x.key → get k (put k v m) ≡ Some v → get k (put k v (x ∷ m)) ≡ Some v
    go (left a b c) i = let d = eq_true k k refl in rw b (rw d refl)
    go (here a b c) i = let d = eq_true k k refl in rw b (rw c (rw d refl))
    go (right a b c) i = rw b (rw c (rw c i))

pub get_put_other : (k v j : ℕ) (m : List Pair) → k ≢ j → get j (put k v m) ≡ get j m
get_put_other k v j [] ne = let a = eq_false k j ne in rw a refl
get_put_other k v j (x ∷ m) ne = go (way k x.key) (get_put_other k v j m ne)
  where
    go : Way k x.key → get j (put k v m) ≡ get j m → get j (put k v (x ∷ m)) ≡ get j (x ∷ m)
    go (left a b c) i = let d = eq_false k j ne in rw b (rw d refl)
    go (here a b c) i = let d = eq_false k j ne in let f = eq_false x.key j (λ e. ne (a ∙ e)) in
        rw b (rw c (rw d (rw f refl)))
    go (right a b c) i = rw b (rw c (ap (λ (z : Option ℕ). if x.key == j then Some x.value else z) i))

pub get_take_same : (k : ℕ) (m : List Pair) → Ascends m → get k (take k m) ≡ None
get_take_same k [] up = refl
get_take_same k (x ∷ m) up = go (x.key == k) refl (get_take_same k m up.1)
  where
    go : (b : Bool) → (x.key == k) ≡ b → get k (take k m) ≡ None → get k (take k (x ∷ m)) ≡ None
    go true e i = rw e (get_none k m (subst (λ (z : ℕ). AllAbove z m) (eqb-true x.key k e) up.0))
    go false e i = rw e (rw e i)

pub get_take_other : (k j : ℕ) (m : List Pair) → k ≢ j → get j (take k m) ≡ get j m
get_take_other k j [] ne = refl
get_take_other k j (x ∷ m) ne = go (x.key == k) refl (get_take_other k j m ne)
  where
    go : (b : Bool) → (x.key == k) ≡ b → get j (take k m) ≡ get j m → get j (take k (x ∷ m)) ≡ get j (x ∷ m)
    go true e i = let f = eq_false x.key j (λ h. ne (sym (eqb-true x.key k e) ∙ h)) in rw e (rw f refl)
    go false e i = rw e (ap (λ (z : Option ℕ). if x.key == j then Some x.value else z) i)

pub others_stay : (k j : ℕ) (change : Change) (m : List Pair) → k ≢ j → get j (changed k change m) ≡ get j m
others_stay k j (change.Put v) m ne = get_put_other k v j m ne
others_stay k j (change.Bump d) m ne = get_put_other k (bumped d (get k m)) j m ne
others_stay k j change.Take m ne = get_take_other k j m ne

pub changed_ascends : (k : ℕ) (change : Change) (m : List Pair) → Ascends m → Ascends (changed k change m)
changed_ascends k (change.Put v) m up = put_ascends k v m up
changed_ascends k (change.Bump d) m up = put_ascends k (bumped d (get k m)) m up
changed_ascends k change.Take m up = take_ascends k m up
