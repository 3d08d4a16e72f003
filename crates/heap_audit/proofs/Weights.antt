-- What Live slots weigh, one slot at a time.
use Rattle.std.proofs.Common.{Bool, false, ⊎_elim}
use Rattle.std.specs.Prelude.{◌↔◌, IsTrue}
use Rattle.std.proofs.lemmas.Bool.{cases_lt}
use Rattle.std.proofs.Common.{◌≡◌, ℕ, ◌+◌, ◌<◌, ◌≤◌, ◌^◌, List, length, get_or, take, sum_by, ap, ◌∙◌, add-zero}
use Rattle.std.proofs.lemmas.Bool.{cond-true, cond-false, lt-ltb, le-ltb}
use Rattle.std.proofs.lemmas.List.Sums.{sum_by_more}
use Rattle.deleter.specs.plain_state.declared.image.SlotImage.{SlotImage}
use Rattle.heap_audit.specs.Heaps.{weight_of}

module _ (weight : List ℕ → ℕ) (xs : List SlotImage) (i : ℕ) (d : SlotImage) where
  abbrev pub so_far : ℕ → ℕ
  so_far n = sum_by (weight_of weight) (take n xs)

  pub weigh_more_live : i < length xs → (get_or xs i d).strong < 2 ^ 63 → so_far (i + 1) ≡ so_far i + weight (get_or xs i d).payload
  unfolding weight_of
  weigh_more_live h live =
      sum_by_more (weight_of weight) xs i d h
      ∙ ap (λ n. so_far i + n) (cond-true _ (weight (get_or xs i d).payload) 0 (lt-ltb (get_or xs i d).strong (2 ^ 63) live))

  pub weigh_more_other : i < length xs → 2 ^ 63 ≤ (get_or xs i d).strong → so_far (i + 1) ≡ so_far i
  unfolding weight_of
  weigh_more_other h other =
      sum_by_more (weight_of weight) xs i d h
      ∙ (ap (λ n. so_far i + n) (cond-false _ (weight (get_or xs i d).payload) 0 (le-ltb (get_or xs i d).strong (2 ^ 63) other))
      ∙ add-zero (so_far i))

-- a word that isn't live has the zero flag
pub not_live : (b : Bool) (word : ℕ) → IsTrue b ↔ (word < 2 ^ 63) → b ≡ false → 2 ^ 63 ≤ word
not_live b word is e = ⊎_elim (λ lt. absurd (cc (is.1 lt))) (λ ge. ge) (cases_lt word (2 ^ 63))
