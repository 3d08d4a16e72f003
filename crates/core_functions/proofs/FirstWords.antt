-- The words of free slots, and of their bits.
use Rattle.std.proofs.Common.{◌≡◌, ◌∙◌, List, ℕ, zero, suc, ◌+◌, ◌∷◌, [], ◌++◌, refl, ap, sym, append_assoc, add-one, add-zero, arith}
use Rattle.core_events.specs.Words.{all_free, each_from, free_words}

more : (n : ℕ) → all_free (suc n) ≡ all_free n ++ free_words
more zero = refl
more (suc n) = ap (λ ws. free_words ++ ws) (more n) ∙ sym (append_assoc free_words (all_free n) free_words)

-- one more free slot comes last
pub more_free : (n : ℕ) → all_free (n + 1) ≡ all_free n ++ free_words
more_free n = rw (add-one n) (more n)

-- a list of words behind a prefix, of which the last slot has just been added
pub one_more : (new words front : List ℕ) (n : ℕ) → new ≡ words ++ free_words
    → words ≡ front ++ all_free n → new ≡ front ++ all_free (n + 1)
one_more new words front n added before =
    added ∙ (ap (λ ws. ws ++ free_words) before
    ∙ (append_assoc front (all_free n) free_words ∙ ap (λ ws. front ++ ws) (sym (more_free n))))

each_next : (i n : ℕ) (f : ℕ → ℕ) → each_from i (suc n) f ≡ each_from i n f ++ f (i + n) ∷ []
each_next i zero f = rw (add-zero i) refl
each_next i (suc n) f =
    let e : i + 1 + n ≡ i + suc n = omega arith in
    let r = each_next (i + 1) n f in ap (λ ws. f i ∷ ws) (rw e at r)

-- one more word comes last
pub each_more : (n : ℕ) (f : ℕ → ℕ) → each_from 0 (n + 1) f ≡ each_from 0 n f ++ f n ∷ []
each_more n f = let e : 0 + n ≡ n = omega arith in rw (add-one n) (rw e at (each_next 0 n f))

-- the same behind a prefix
pub bits_more : (new words front : List ℕ) (w n : ℕ) (f : ℕ → ℕ) → new ≡ words ++ w ∷ []
    → w ≡ f n → words ≡ front ++ each_from 0 n f → new ≡ front ++ each_from 0 (n + 1) f
bits_more new words front w n f added is before =
    added ∙ (ap (λ ws. ws ++ w ∷ []) before
    ∙ (append_assoc front (each_from 0 n f) (w ∷ [])
    ∙ ap (λ ws. front ++ ws) (ap (λ x. each_from 0 n f ++ x ∷ []) is ∙ sym (each_more n f))))
