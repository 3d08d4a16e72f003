-- The words of free slots.
use Rattle.std.proofs.Common.{◌≡◌, ◌∙◌, List, ℕ, zero, suc, ◌+◌, ◌++◌, refl, ap, sym, append_assoc, add-one}
use Rattle.epoch_core.specs.Words.{all_free, free_words}

more : (n : ℕ) → all_free (suc n) ≡ all_free n ++ free_words
more zero = refl
more (suc n) = ap (λ ws. free_words ++ ws) (more n) ∙ sym (append_assoc free_words (all_free n) free_words)

-- one more free slot comes last
pub more_free : (n : ℕ) → all_free (n + 1) ≡ all_free n ++ free_words
more_free n = rw (add-one n) (more n)

-- a list of words behind a prefix, of which the last slot has just been added
pub one_more : (new words front : List ℕ) (n : ℕ) → new ≡ words ++ free_words
    → words ≡ front ++ all_free n → new ≡ front ++ all_free (n + 1)
one_more new words front n added before =
    added ∙ (ap (λ ws. ws ++ free_words) before
    ∙ (append_assoc front (all_free n) free_words ∙ ap (λ ws. front ++ ws) (sym (more_free n))))
