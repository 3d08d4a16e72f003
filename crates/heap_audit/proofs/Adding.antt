-- One slot more of a pass that adds up the Live slots.
use Rattle.std.proofs.Common.{◌≡◌, ℕ, ◌+◌, ◌*◌, ◌<◌, ◌≤◌, ◌^◌, List, length, get_or, take, sum_by, inl, inr, ap, subst, arith}
use Rattle.std.specs.Prelude.{Option, Some, count_by}
use Rattle.std.proofs.lemmas.Bool.{cases_lt, le-ltb, lt-ltb}
use Rattle.std.proofs.lemmas.List.Sums.{count_by_more_no, count_by_more_yes}
use Rattle.deleter.specs.plain_state.declared.image.Heap.{Heap}
use Rattle.deleter.specs.plain_state.declared.image.SlotImage.{SlotImage}
use Rattle.deleter.specs.plain_state.declared.slot.SlotId.{SlotId}
use Rattle.heap_audit.specs.Heaps.{has_no_zero, slot, weight_of}
use Rattle.heap_audit.specs.Reached.{HowMany, IsUnreached}
use Rattle.heap_audit.specs.Tables.{IsLeastIfAny, lower_of}
use Rattle.heap_audit.proofs.Leasts.{best_more, best_same, many_no, many_yes}
use Rattle.heap_audit.proofs.Weights.{weigh_more_live, weigh_more_other}

-- how many of the first i slots are Live, and what these weigh
pub record IsWeighed (weight : List ℕ → ℕ) (xs : List SlotImage) (i live bytes : ℕ) : Type 0 where
  pub living : live ≡ count_by has_no_zero (take i xs)
  pub few : live ≤ i
  pub weigh : bytes ≡ sum_by (weight_of weight) (take i xs)
  pub bound : bytes ≤ i * 2 ^ 32

module _ (weight : List ℕ → ℕ) (xs : List SlotImage) (i : ℕ) (d : SlotImage) (live bytes : ℕ)
    (is : IsWeighed weight xs i live bytes) (there : i < length xs) where
  pub one_live : (get_or xs i d).strong < 2 ^ 63 → weight (get_or xs i d).payload ≤ 2 ^ 32
      → IsWeighed weight xs (i + 1) (live + 1) (bytes + weight (get_or xs i d).payload)
  one_live lives most =
      let one = count_by_more_yes has_no_zero xs i d there
      (lt-ltb (get_or xs i d).strong (2 ^ 63) lives) in
      let more = weigh_more_live weight xs i d there lives in
      record {
        living = omega (arith, one, is.living);
        few = omega (arith, is.few);
        weigh = omega (arith, more, is.weigh);
        bound = omega (arith, most, is.bound);
      }

  pub one_other : 2 ^ 63 ≤ (get_or xs i d).strong → IsWeighed weight xs (i + 1) live bytes
  one_other other =
      let none = count_by_more_no has_no_zero xs i d there
      (le-ltb (get_or xs i d).strong (2 ^ 63) other) in
      let same = weigh_more_other weight xs i d there other in
      record {
        living = omega (arith, none, is.living);
        few = omega (arith, is.few);
        weigh = omega (arith, same, is.weigh);
        bound = omega (arith, is.bound);
      }

-- how many of the first i slots are unreached, and which of these has the least rank
pub record IsCounted (heap : Heap) (ranks : List ℕ) (i many : ℕ) (least : Option SlotId)
    : Type 0 where
  pub unreached : HowMany (λ n. IsUnreached heap (slot n)) i many
  pub few : many ≤ i
  pub lowest : IsLeastIfAny ranks (λ u. (u.0 < i) × IsUnreached heap u) least

module _ (heap : Heap) (ranks : List ℕ) (i many : ℕ) (least : Option SlotId)
    (is : IsCounted heap ranks i many least) where
  abbrev Before : SlotId → Type 0
  Before u = (u.0 < i) × IsUnreached heap u

  abbrev After : SlotId → Type 0
  After u = (u.0 < i + 1) × IsUnreached heap u

  pub one_unreached : IsUnreached heap (slot i)
      → IsCounted heap ranks (i + 1) (many + 1) (Some (lower_of ranks least (slot i)))
  one_unreached un = record {
    unreached = many_yes (λ n. IsUnreached heap (slot n)) i many is.unreached un;
    few = omega (arith, is.few);
    lowest =
        best_more ranks Before After least (slot i) is.lowest (omega arith, un)
        (λ u p. (omega (arith, p.0), p.1))
        (λ u q. elim (cases_lt u.0 i) [
          | inl below ↦ inl (below, q.1)
          | inr here ↦ inr (ap slot (omega (arith, q.0, here)))
        ]);
  }

  pub one_reached : (IsUnreached heap (slot i) → ⊥) → IsCounted heap ranks (i + 1) many least
  one_reached not = record {
    unreached = many_no (λ n. IsUnreached heap (slot n)) i many is.unreached not;
    few = omega (arith, is.few);
    lowest =
        best_same ranks Before After least is.lowest (λ u p. (omega (arith, p.0), p.1))
        (λ u q. (
          elim (cases_lt u.0 i) [
            | inl below ↦ below
            | inr here ↦
                absurd (not (let same : u ≡ slot i = ap slot (omega (arith, q.0, here)) in
                subst (IsUnreached heap) same q.1))
          ],
          q.1,
        ));
  }
