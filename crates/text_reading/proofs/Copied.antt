-- Bytes of words that were copied so far, and those that are left.
use Rattle.std.proofs.Common.{◌≡◌, ℕ, zero, suc, ◌+◌, ◌-◌, ◌<◌, List, [], ◌∷◌, ◌++◌, length, set, take, refl, ap, sym, ◌∙◌, arith, append_assoc}
use Rattle.std.specs.Prelude.{◌%◌, ◌/◌, min}
use Rattle.std.proofs.lemmas.List.{take_more_set}
use Rattle.directory_calls.specs.directory_law.Bytes.{low_bytes, piece_bytes}

-- BYTES OF A WORD. One more of them
low_more : (n word : ℕ) → 0 < n → low_bytes n word ≡ word % 256 ∷ low_bytes (n - 1) (word / 256)
low_more zero word some' = absurd (omega (arith, some'))
low_more (suc n) word some' = let e : suc n - 1 ≡ n = omega arith in rw e refl

pub byte_put : (out : List ℕ) (from index count word : ℕ) (all : List ℕ)
    → from + index < length out → index < count
    → take (from + index) out ++ low_bytes (count - index) word ≡ all
    → take (from + (index + 1)) (set out (from + index) (word % 256))
    ++ low_bytes (count - (index + 1)) (word / 256) ≡ all
byte_put out from index count word all there some' is =
    let at = from + index in
    let next : from + (index + 1) ≡ at + 1 = omega arith in
    let less : count - (index + 1) ≡ count - index - 1 = omega arith in
    ap (λ (n : ℕ). take n (set out at (word % 256)) ++ low_bytes (count - (index + 1)) (word / 256))
    next
    ∙ (ap (λ (n : ℕ). take (at + 1) (set out at (word % 256)) ++ low_bytes n (word / 256)) less
    ∙ (ap (λ (x : List ℕ). x ++ low_bytes (count - index - 1) (word / 256))
    (take_more_set out at (word % 256) there)
    ∙ (append_assoc (take at out) (word % 256 ∷ []) (low_bytes (count - index - 1) (word / 256))
    ∙ (ap (λ (x : List ℕ). take at out ++ x)
    (sym (low_more (count - index) word (omega (arith, some')))) ∙ is))))

-- BYTES that were put behind others
pub head_put : (n m : ℕ) (out old words payload : List ℕ) → m ≡ min n 120 → words ≡ payload
    → take (0 + m) out ≡ take 0 old ++ piece_bytes m words
    → take (min n 120) out ≡ piece_bytes (min n 120) payload
head_put n m out old words payload few is put =
    let e : min n 120 ≡ 0 + m = omega (arith, few) in
    ap (λ (k : ℕ). take k out) e
    ∙ (put ∙ (λ i. piece_bytes (few i) (is i)))

pub part_put : (n done m next : ℕ) (out new words : List ℕ) → done < n → m ≡ min (n - done) 120
    → next ≡ done + 120 → take (done + m) new ≡ take done out ++ piece_bytes m words
    → take (min n next) new ≡ take (min n done) out ++ piece_bytes (min (n - done) 120) words
part_put n done m next out new words less few after put =
    let a : min n next ≡ done + m = grind arith in
    let b : min n done ≡ done = grind arith in
    ap (λ (k : ℕ). take k new) a
    ∙ (put ∙ (λ i. take (sym b i) out ++ piece_bytes (few i) words))
