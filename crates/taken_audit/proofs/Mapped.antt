-- What is found among some slots, along a relation, is found among those to which a function takes them.
use Rattle.std.proofs.Common.{◌≡◌, ◌≢◌, ℕ, zero, suc, ◌+◌, ◌<◌, ◌≤◌, List, [], ◌∷◌, ◌++◌, length, get_or, map, reverse, All, refl, ap, sym, ◌∙◌, subst, arith, inl, inr}
use Rattle.std.specs.List.{AllPairs}
use Rattle.std.proofs.lemmas.List.{get_or-map, length-map, map-append, reverse-append}
use Rattle.std.proofs.lemmas.List.Elements.{All-map}
use Rattle.plain_audit.specs.plain_state.declared.slot.SlotId.{SlotId}
use Rattle.plain_audit.specs.heap_audit.Heaps.{slot}
use Rattle.plain_audit.specs.heap_audit.Paths.{LeadsTo, Path}
use Rattle.plain_audit.specs.heap_audit.Walks.{BeginsLeast, GoesRound, GoesTo, IsFoundAmong, IsLeast, IsTurned, rank_of}
use Rattle.taken_audit.proofs.Named.{Every}

map_reverse : {A B : Type 0} (f : A → B) (xs : List A) → map f (reverse xs) ≡ reverse (map f xs)
map_reverse f [] = refl
map_reverse f (x ∷ xs) =
    ap (map f) (reverse-append (x ∷ []) xs)
    ∙ (map-append f (reverse xs) (x ∷ [])
    ∙ (ap (λ ys. ys ++ f x ∷ []) (map_reverse f xs) ∙ sym (reverse-append (f x ∷ []) (map f xs))))

every_at : {A : Type 0} (P : A → Type 0) (xs : List A) (i : ℕ) (d : A) → i < length xs → Every P xs
    → P (get_or xs i d)
every_at P [] i d lt each = absurd (omega (arith, lt))
every_at P (x ∷ xs) zero d lt each = each.0
every_at P (x ∷ xs) (suc i) d lt each = every_at P xs i d (omega (arith, lt)) each.1

module _ (R S : SlotId → SlotId → Type 0) (f : SlotId → SlotId)
    (along : (a b : SlotId) → R a b → S (f a) (f b)) where
  pub path_mapped : (x : SlotId) (ys : List SlotId) (z : SlotId) → Path R x ys z
      → Path S (f x) (map f ys) (f z)
  path_mapped x [] z p = along x z p
  path_mapped x (y ∷ ys) z p = (along x y p.0, path_mapped y ys z p.1)

  pub leads_mapped : (x z : SlotId) → LeadsTo R x z → LeadsTo S (f x) (f z)
  leads_mapped x z l = elim l [
    | inl e ↦ inl (ap f e)
    | inr p ↦ inr (map f p.0, path_mapped x p.0 z p.1)
  ]

  pub round_mapped : (walk : List SlotId) → GoesRound R walk → GoesRound S (map f walk)
  round_mapped [] w = w
  round_mapped (x ∷ xs) w = path_mapped x xs x w

-- what each step begins with, and what it ends with
module _ (R : SlotId → SlotId → Type 0) (In : SlotId → Type 0) where
  begins_inside : ((a b : SlotId) → R a b → In a) → (x : SlotId) (ys : List SlotId) (z : SlotId)
      → Path R x ys z → Every In (x ∷ ys)
  begins_inside begin x [] z p = (begin x z p, tt)
  begins_inside begin x (y ∷ ys) z p = (begin x y p.0, begins_inside begin y ys z p.1)

  round_inside : ((a b : SlotId) → R a b → In a) → (walk : List SlotId) → GoesRound R walk
      → Every In walk
  round_inside begin [] w = tt
  round_inside begin (x ∷ xs) w = begins_inside begin x xs x w

  ends_inside : ((a b : SlotId) → R a b → In b) → (x : SlotId) (ys : List SlotId) (z : SlotId)
      → Path R x ys z → Every In ys
  ends_inside end x [] z p = tt
  ends_inside end x (y ∷ ys) z p = (end x y p.0, ends_inside end y ys z p.1)

module _ (In : SlotId → Type 0) (f : SlotId → SlotId) (P Q : SlotId → Type 0)
    (R S : SlotId → SlotId → Type 0) (places ranks : List ℕ)
    (p_in : (a : SlotId) → P a → In a)
    (r_begin : (a b : SlotId) → R a b → In a) (r_end : (a b : SlotId) → R a b → In b)
    (to : (a : SlotId) → P a → Q (f a))
    (onto : (t : SlotId) → Q t → (a : SlotId) × P a × (f a ≡ t))
    (along : (a b : SlotId) → R a b → S (f a) (f b))
    (back : (a b : SlotId) → In a → In b → S (f a) (f b) → R a b)
    (rank : (a : SlotId) → In a → rank_of places a ≡ rank_of ranks (f a))
    (once : (a b : SlotId) → In a → In b → f a ≡ f b → a ≡ b) where
  ranks_so : (a : SlotId) (t : SlotId) (b : SlotId) → In a → In b → f b ≡ t
      → rank_of places a ≤ rank_of places b → rank_of ranks (f a) ≤ rank_of ranks t
  ranks_so a t b ha hb same le =
      let one = rank a ha in let two = rank b hb in
      let e = ap (rank_of ranks) same in omega (arith, one, two, e, le)

  goes_mapped : (s t : SlotId) → GoesTo P R places s t → GoesTo Q S ranks (f s) (f t)
  goes_mapped s t l = (
    (to t l.0.0, along t s l.0.1),
    λ u q.
        let o = onto u q.0 in
        let has = p_in o.0 o.1 in
        let holds : R o.0 s = back o.0 s has (r_end t s l.0.1)
        (subst (λ (x : SlotId). S x (f s)) (sym o.2) q.1) in
        ranks_so t u o.0 (p_in t l.0.0) has o.2 (l.1 o.0 (o.1, holds)),
  )

  least_mapped : (s : SlotId) → IsLeast places P s → IsLeast ranks Q (f s)
  least_mapped s l = (
    to s l.0,
    λ u q.
        let o = onto u q in ranks_so s u o.0 (p_in s l.0) (p_in o.0 o.1) o.2 (l.1 o.0 o.1),
  )

  pairs_mapped : (xs : List SlotId) → Every In xs → AllPairs (λ (a b : SlotId). a ≢ b) xs
      → AllPairs (λ (a b : SlotId). a ≢ b) (map f xs)
  pairs_mapped xs each pairs i j d lt below same =
      let count = length-map xs f in
      let hj : j < length xs = omega (arith, below, count) in
      let hi : i < length xs = omega (arith, lt, hj) in
      let first = get_or-map f xs i (slot 0) d hi in
      let second = get_or-map f xs j (slot 0) d hj in
      pairs i j (slot 0) lt hj
      (once (get_or xs i (slot 0)) (get_or xs j (slot 0)) (every_at In xs i (slot 0) hi each)
      (every_at In xs j (slot 0) hj each) (sym first ∙ (same ∙ second)))

  begins_mapped : (walk : List SlotId) → Every In walk → BeginsLeast places walk
      → BeginsLeast ranks (map f walk)
  begins_mapped [] each begins = begins
  begins_mapped (x ∷ xs) each begins =
      All-map (λ s. rank_of ranks (f x) ≤ rank_of ranks s) f xs
      (λ k d lt. ranks_so x (f (get_or xs k d)) (get_or xs k d) each.0
      (every_at In xs k d lt each.1) refl (begins k d lt))

  turned_mapped : (walk ys : List SlotId) → IsTurned walk ys → IsTurned (map f walk) (map f ys)
  turned_mapped walk ys t = (
    map f t.0,
    map f t.1,
    ap (map f) t.2 ∙ map-append f t.0 t.1,
    ap (map f) t.3 ∙ map-append f t.1 t.0,
  )

  pub found_mapped : (walk : List SlotId) → IsFoundAmong P R places walk → GoesRound R walk
      → IsFoundAmong Q S ranks (map f walk)
  found_mapped walk found round = record {
    start = f found.start;
    least = least_mapped found.start found.least;
    rest = map f found.rest;
    again = f found.again;
    goes = path_mapped (GoesTo P R places) (GoesTo Q S ranks) f goes_mapped found.start found.rest
        found.again found.goes;
    once = pairs_mapped (found.start ∷ found.rest) (
      p_in found.start found.least.0,
      ends_inside (GoesTo P R places) In (λ s t l. p_in t l.0.0) found.start found.rest
          found.again found.goes,
    )
        found.once;
    earlier = map f found.earlier;
    between = map f found.between;
    came = ap (map f) found.came ∙ map-append f found.earlier (found.again ∷ found.between);
    turned = subst (IsTurned (map f walk)) (map_reverse f (found.again ∷ found.between))
        (turned_mapped walk (reverse (found.again ∷ found.between)) found.turned);
    begins = begins_mapped walk (round_inside R In r_begin walk round) found.begins;
  }
