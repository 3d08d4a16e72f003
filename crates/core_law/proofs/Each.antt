-- Lists that are read off numbers.
use Rattle.std.proofs.Common.{◌≡◌, ℕ, zero, suc, ◌+◌, ◌<◌, length, get_or, refl, ap, ◌∙◌, arith}
use Rattle.core_events.specs.Words.{each_from}

module _ {A : Type 0} where
  pub length_each : (i n : ℕ) (f : ℕ → A) → length (each_from i n f) ≡ n
  length_each i zero f = refl
  length_each i (suc n) f = ap suc (length_each (i + 1) n f)

  pub get_each : (i n k : ℕ) (f : ℕ → A) (d : A) → k < n → get_or (each_from i n f) k d ≡ f (i + k)
  get_each i zero k f d h = absurd (omega arith)
  get_each i (suc n) zero f d h = let e : i ≡ i + 0 = omega arith in ap f e
  get_each i (suc n) (suc k) f d h =
      let e : i + 1 + k ≡ i + suc k = omega arith in get_each (i + 1) n k f d (omega arith) ∙ ap f e
