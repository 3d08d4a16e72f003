-- What joining equal neighbours leaves of entries: their words, and what each word's entries add up to.
use Rattle.std.proofs.Common.{◌≡◌, ℕ, ◌+◌, Bool, true, false, List, [], ◌∷◌, refl, sym, ap, ◌∙◌, arith}
use Rattle.std.specs.Prelude.{if◌then◌else◌}
use Rattle.std.specs.List.{dedup, dedup_from}
use Rattle.std.specs.Map.{keys_of}
use Rattle.std.specs.Cmp.Lexicographic.{bytes_decides}
use Rattle.std.specs.Str.{bytes_eq}
use Rattle.std.proofs.lemmas.Bool.{cond-true, cond-false}
use Rattle.std.proofs.lemmas.List.Sums.{sum_by-cons}
use Rattle.tally_sums.specs.Sums.{added_to, added_up, sum_for}

abbrev pub Entry : Type 0
Entry = List ℕ × ℕ

module _ (w : List ℕ) where
  -- what an entry adds for w
  abbrev pub part : Entry → ℕ
  part e = if bytes_eq w e.0 then e.1 else 0

  part_both : (k : List ℕ) (m n : ℕ) → part (k, m + n) ≡ part (k, m) + part (k, n)
  part_both k m n = both (bytes_eq w k)
    where
      both : (b : Bool) → (if b then m + n else 0) ≡ (if b then m else 0) + (if b then n else 0)
      both true = refl
      both false = refl

  pub sum_to : (last : Entry) (es : List Entry) → sum_for w (added_to last es) ≡ sum_for w (last ∷ es)
  sum_to last [] = refl
  sum_to last (e ∷ es) =
      by_test (bytes_eq e.0 last.0) refl (sum_to (last.0, last.1 + e.1) es) (sum_to e es)
    where
      by_test : (b : Bool) → bytes_eq e.0 last.0 ≡ b
          → sum_for w (added_to (last.0, last.1 + e.1) es) ≡ sum_for w ((last.0, last.1 + e.1) ∷ es)
          → sum_for w (added_to e es) ≡ sum_for w (e ∷ es)
          → sum_for w (added_to last (e ∷ es)) ≡ sum_for w (last ∷ e ∷ es)
      by_test true is joined apart =
          let here = ap (sum_for w) (cond-true _ _ _ is) in
          let both = part_both last.0 last.1 e.1 in
          let moved : part (last.0, e.1) ≡ part e =
          ap (λ k. part (k, e.1)) (sym ((bytes_decides e.0 last.0).0 is)) in
          let a = sum_by-cons part (last.0, last.1 + e.1) es in
          let b = sum_by-cons part last (e ∷ es) in
          let c = sum_by-cons part e es in
          here ∙ omega (arith, joined, both, moved, a, b, c)
      by_test false is joined apart =
          let here = ap (sum_for w) (cond-false _ _ _ is) in
          let a = sum_by-cons part last (added_to e es) in
          let b = sum_by-cons part last (e ∷ es) in
          here ∙ omega (arith, apart, a, b)

  pub sum_up : (es : List Entry) → sum_for w (added_up es) ≡ sum_for w es
  sum_up [] = refl
  sum_up (e ∷ es) = sum_to e es

keys_to : (last : Entry) (es : List Entry)
    → keys_of (added_to last es) ≡ dedup_from bytes_eq last.0 (keys_of es)
keys_to last [] = refl
keys_to last (e ∷ es) =
    by_test (bytes_eq e.0 last.0) refl (keys_to (last.0, last.1 + e.1) es) (keys_to e es)
  where
    by_test : (b : Bool) → bytes_eq e.0 last.0 ≡ b
        → keys_of (added_to (last.0, last.1 + e.1) es) ≡ dedup_from bytes_eq last.0 (keys_of es)
        → keys_of (added_to e es) ≡ dedup_from bytes_eq e.0 (keys_of es)
        → keys_of (added_to last (e ∷ es)) ≡ dedup_from bytes_eq last.0 (keys_of (e ∷ es))
    by_test true is joined apart =
        ap (λ xs. keys_of xs) (cond-true _ _ _ is) ∙ joined ∙ sym (cond-true _ _ _ is)
    by_test false is joined apart =
        ap (λ xs. keys_of xs) (cond-false _ _ _ is) ∙ ap (λ ks. last.0 ∷ ks) apart
        ∙ sym (cond-false _ _ _ is)

pub keys_up : (es : List Entry) → keys_of (added_up es) ≡ dedup bytes_eq (keys_of es)
keys_up [] = refl
keys_up (e ∷ es) = keys_to e es
