-- What is found among slots with one property, along one relation, is found among those that have another one alike.
use Rattle.std.proofs.Common.{◌≡◌, ℕ, zero, suc, List, [], ◌∷◌, sym, ap, ◌∙◌, inl, inr}
use Rattle.deleter.specs.plain_state.declared.slot.SlotId.{SlotId}
use Rattle.heap_audit.specs.Paths.{Path, LeadsTo}
use Rattle.heap_audit.specs.Reached.{HowMany}
use Rattle.heap_audit.specs.Walks.{GoesTo, GoesRound, IsFoundAmong}
use Rattle.heap_audit.proofs.Going.{path_map}

module _ (R S : SlotId → SlotId → Type 0) (along : (a b : SlotId) → R a b → S a b) where
  path_along : (x : SlotId) (ys : List SlotId) (z : SlotId) → Path R x ys z → Path S x ys z
  path_along x ys z p = path_map (λ (s : SlotId). Unit {0}) R S (λ a b _ r. (along a b r, tt)) x ys z tt p

  pub leads_alike : (x z : SlotId) → LeadsTo R x z → LeadsTo S x z
  leads_alike x z l = elim l [ inl e ↦ inl e | inr p ↦ inr (p.0, path_along x p.0 z p.1) ]

  pub round_alike : (walk : List SlotId) → GoesRound R walk → GoesRound S walk
  round_alike [] w = w
  round_alike (x ∷ xs) w = path_along x xs x w

module _ (P Q : SlotId → Type 0) (R S : SlotId → SlotId → Type 0) (ranks : List ℕ)
    (to : (s : SlotId) → P s → Q s) (from : (s : SlotId) → Q s → P s)
    (along : (a b : SlotId) → R a b → S a b) (back : (a b : SlotId) → S a b → R a b) where
  goes_alike : (s t : SlotId) → GoesTo P R ranks s t → GoesTo Q S ranks s t
  goes_alike s t l = ((to t l.0.0, along t s l.0.1), λ u q. l.1 u (from u q.0, back u s q.1))

  pub found_alike : (walk : List SlotId) → IsFoundAmong P R ranks walk → IsFoundAmong Q S ranks walk
  found_alike walk f = record {
    start = f.start;
    least = (to f.start f.least.0, λ t q. f.least.1 t (from t q));
    rest = f.rest;
    again = f.again;
    goes = path_along (GoesTo P R ranks) (GoesTo Q S ranks) goes_alike f.start f.rest f.again f.goes;
    once = f.once;
    earlier = f.earlier;
    between = f.between;
    came = f.came;
    turned = f.turned;
    begins = f.begins;
  }

module _ (P Q : ℕ → Type 0) (to : (k : ℕ) → P k → Q k) (from : (k : ℕ) → Q k → P k) where
  pub many_alike : (n many : ℕ) → HowMany P n many → HowMany Q n many
  many_alike zero many h = h
  many_alike (suc n) many h =
      elim h [
        | inl one ↦ inl (one.0, to n one.1, many_alike n one.0 one.2, one.3)
        | inr other ↦ inr (λ q. other.0 (from n q), many_alike n many other.1)
      ]

-- there is one such number
pub many_once : (P : ℕ → Type 0) (n many more : ℕ) → HowMany P n many → HowMany P n more → many ≡ more
many_once P zero many more h k = h ∙ sym k
many_once P (suc n) many more h k =
    elim h [
      | inl one ↦ elim k [
        | inl two ↦ one.3 ∙ (ap suc (many_once P n one.0 two.0 one.2 two.2) ∙ sym two.3)
        | inr other ↦ absurd (other.0 one.1)
      ]
      | inr other ↦ elim k [ inl two ↦ absurd (other.0 two.1) | inr none ↦ many_once P n many more other.1 none.1 ]
    ]
