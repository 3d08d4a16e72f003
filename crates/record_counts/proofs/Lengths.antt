-- How many slots a text has, and what they weigh: by the number of its bytes.
use Rattle.std.specs.Prelude.{min, sum_by}
use Rattle.std.specs.Int.{div_ceil}
use Rattle.std.proofs.Common.{◌≡◌, ⊎_elim, ℕ, zero, suc, ◌+◌, ◌-◌, ◌*◌, ◌/◌, ◌<◌, ◌≤◌, List, [], ◌∷◌, length, drop, refl, ap, sym, ◌∙◌, arith, length-append, length-drop}
use Rattle.std.proofs.lemmas.Bool.{cases_lt}
use Rattle.std.proofs.lemmas.Bool.Decides.{nat_tests}
use Rattle.std.proofs.lemmas.List.Sums.{sum_by-cons}
use Rattle.directory_law.specs.Bytes.{bytes_of_words, low_bytes, part_bytes, piece_bytes, piece_weight, text_bytes}
use Rattle.directory_law.specs.Payloads.{IsOwn, IsRest, IsText, Text, size}
use Rattle.directory_law.specs.Views.{Each}
use Rattle.cdrc_text.specs.Text.{slots_of_word}

low_length : (n word : ℕ) → length (low_bytes n word) ≡ n
low_length zero word = refl
low_length (suc n) word = let rest = low_length n (word / 256) in omega arith

words_length : (n : ℕ) (words : List ℕ) → n ≤ 8 * length words
    → length (bytes_of_words n words) ≡ n
words_length n [] most = omega arith
words_length n (w ∷ ws) most =
    let first = low_length (min 8 n) w in
    let rest = words_length (n - 8) ws (omega arith) in
    let both = length-append (low_bytes (min 8 n) w) (bytes_of_words (n - 8) ws) in omega arith

piece_length : (n : ℕ) (payload : List ℕ) → length payload ≡ 16 → n ≤ 120
    → length (piece_bytes n payload) ≡ n
piece_length n payload words most =
    let left = length-drop 1 payload in words_length n (drop 1 payload) (omega arith)

part_weighs : (t : List ℕ) (k : ℕ) → size t ≡ 65536 + k → 0 < k → piece_weight t ≡ k
part_weighs t k is some = grind (arith, nat_tests)

head_weighs : (t : List ℕ) → size t ≤ 4096 → piece_weight t ≡ min 120 (size t)
head_weighs t most = grind (arith, nat_tests)

-- so many bytes take one slot, and those that are left of them the others
ceil_full : (n : ℕ) → div_ceil (n + 120) 120 ≡ suc (div_ceil n 120)
ceil_full n = omega arith

ceil_last : (n : ℕ) → 0 < n → n ≤ 120 → div_ceil n 120 ≡ 1
ceil_last n some most = omega arith

ceil_more : (n k : ℕ) → 0 < k → k ≤ 120 → k ≤ n → (k < 120 → k ≡ n)
    → div_ceil n 120 ≡ suc (div_ceil (n - k) 120)
ceil_more n k some most within full = ⊎_elim
    (λ (less : k < 120).
    let all = full less in
    let last = ceil_last n (omega arith) (omega arith) in
    let none : n - k ≡ 0 = omega arith in
    last ∙ sym (ap (λ m. suc (div_ceil m 120)) none))
    (λ more.
    let same : n - k + 120 ≡ n = omega arith in
    sym (ap (λ m. div_ceil m 120) same) ∙ ceil_full (n - k))
    (cases_lt k 120)

-- the payload of a head or a part has sixteen words, the first of which isn't 0
abbrev pub IsFull : List ℕ → Type 0
IsFull payload = (length payload ≡ 16) × IsOwn payload

-- parts with n bytes: these are so many, and so much they weigh
record Measures (n : ℕ) (bytes : List ℕ) (ts : Text) : Type 0 where
  pub many : length bytes ≡ n
  pub weighs : sum_by piece_weight ts ≡ n
  pub slots : length ts ≡ div_ceil n 120

parts_measure : (n : ℕ) (ts : Text) → IsRest n ts → Each IsFull ts
    → Measures n (part_bytes ts) ts
parts_measure n [] none full = record {
  many = sym none;
  weighs = sym none;
  slots = sym (ap (λ m. div_ceil m 120) none);
}
parts_measure n (t ∷ ts) cut full =
    let k = cut.0 in
    let c = cut.1 in
    let size_is = c.0 in
    let some = c.1 in
    let most = c.2 in
    let within = c.3 in
    let rest = parts_measure (n - k) ts cut.2 full.1 in
    let rest_bytes = rest.many in
    let rest_weighs = rest.weighs in
    let rest_slots = rest.slots in
    let here = piece_length (size t - 65536) t full.0.0 (omega arith) in
    let both = length-append (piece_bytes (size t - 65536) t) (part_bytes ts) in
    let weight = part_weighs t k size_is some in
    let sum = sum_by-cons piece_weight t ts in
    let ceil = ceil_more n k some most within c.4 in record {
      many = omega arith;
      weighs = omega arith;
      slots = omega arith;
    }

text_measures : (text : Text) → IsText text → Each IsFull text
    → Measures (length (text_bytes text)) (text_bytes text) text
text_measures [] is full = absurd is
text_measures (t ∷ ts) is full =
    let n = size t in
    let some = is.0.0 in
    let most = is.0.1 in
    let rest = parts_measure (n - 120) ts is.1 full.1 in
    let rest_bytes = rest.many in
    let rest_weighs = rest.weighs in
    let rest_slots = rest.slots in
    let here = piece_length (min 120 n) t full.0.0 (omega arith) in
    let both = length-append (piece_bytes (min 120 n) t) (part_bytes ts) in
    let weight = head_weighs t most in
    let sum = sum_by-cons piece_weight t ts in
    let ceil = ceil_more n (min 120 n) (omega arith) (omega arith) (omega arith)
    (λ less. omega arith) in
    let left : n - min 120 n ≡ n - 120 = omega arith in
    let ceil_left = ap (λ m. div_ceil m 120) left in
    let all : length (text_bytes (t ∷ ts)) ≡ n = omega arith in record {
      many = refl;
      weighs = omega arith;
      slots =
          let slots : length (t ∷ ts) ≡ div_ceil n 120 = omega arith in
          slots ∙ sym (ap (λ m. div_ceil m 120) all);
    }

pub text_slots : (text : Text) → IsText text → Each IsFull text
    → sum_by (λ (t : List ℕ). 1) text ≡ slots_of_word (text_bytes text)
text_slots text is full = ones text ∙ (text_measures text is full).slots
  where
    ones : (ts : Text) → sum_by (λ (t : List ℕ). 1) ts ≡ length ts
    ones [] = refl
    ones (t ∷ ts) =
        let rest = ones ts in let all = sum_by-cons (λ (u : List ℕ). 1) t ts in omega arith

pub text_many : (text : Text) → IsText text → Each IsFull text
    → length text ≡ slots_of_word (text_bytes text)
text_many text is full = (text_measures text is full).slots

pub text_weighs : (text : Text) → IsText text → Each IsFull text
    → sum_by piece_weight text ≡ length (text_bytes text)
text_weighs text is full = (text_measures text is full).weighs
