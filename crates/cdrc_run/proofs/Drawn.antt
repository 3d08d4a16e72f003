-- Texts that are drawn are short.
use Rattle.std.proofs.Common.{◌≡◌, ℕ, suc, ◌+◌, ◌*◌, ◌/◌, ◌%◌, ◌^◌, ◌<◌, ◌≤◌, ◌==◌, ◌||◌, Bool, true, false, List, [], ◌∷◌, length, codes, if◌then◌else◌, refl, arith, length-append}
use Rattle.std.proofs.lemmas.Fmt.{length-decimal-le}
use Rattle.std.proofs.lemmas.List.Concat.{length-flat_map}
use Rattle.std.proofs.lemmas.List.FromFn.{length-range_with_len}
use Rattle.std.proofs.lemmas.List.Sums.{sum_by-cons}
use Rattle.std.specs.Fmt.{decimal}
use Rattle.std.specs.List.{range_with_len, sum_by}
use Rattle.command_line.specs.cdrc_text.Generated.{after_word, draw, drawn_part, drawn_word, generated_text}
use Rattle.command_line.specs.run_requests.declared.asked.Bulk.{Bulk}
use Rattle.command_line.specs.run_requests.declared.asked.Draws.{Draws}
use Rattle.words_work.specs.Contents.{bytes_in}
use Rattle.words_work.specs.Limits.{most_bytes}
use Rattle.cdrc_run.specs.Jobs.{AreInRange, drawn_texts, next_draws, text_of_draws}

after_one : (many k : ℕ) → length (after_word many k) ≡ 1
after_one many k = both ((k % 10 == 0) || (k == many))
  where
    both : (b : Bool) → length (if b then codes "\n" else codes " ") ≡ 1
    both true = refl
    both false = refl

part_size : (seed many vocabulary k : ℕ) → 1 ≤ vocabulary → vocabulary ≤ 1000000
    → length (drawn_part seed many vocabulary k) ≤ 8
part_size seed many vocabulary k some most =
    let n = draw seed k / 2 ^ 33 % vocabulary in
    let low : n < vocabulary = omega arith in
    let digits : length (decimal n) ≤ 6 = length-decimal-le 6 n (omega arith) (omega arith) (omega arith) in
    let a = length-append (drawn_word vocabulary (draw seed k)) (after_word many k) in
    let b = length-append (codes "w") (decimal n) in
    let d : length (codes "w") ≡ 1 = refl in
    let e = after_one many k in omega arith

sum_most : (f : ℕ → ℕ) (most : ℕ) → ((k : ℕ) → f k ≤ most) → (ks : List ℕ)
    → sum_by f ks ≤ most * length ks
sum_most f most each [] = omega arith
sum_most f most each (k ∷ ks) =
    let a = sum_by-cons f k ks in let b = each k in let r = sum_most f most each ks in
    let e : most * suc (length ks) ≡ most + most * length ks = omega arith in omega arith

text_size : (draws : Draws) → AreInRange 500000 draws → length (text_of_draws draws) ≤ 4000000
unfolding generated_text
text_size draws range =
    let part = drawn_part draws.seed draws.words draws.vocabulary in
    let ks = range_with_len 1 draws.words in
    let a = length-flat_map part ks in
    let b = sum_most (λ k. length (part k)) 8
    (λ k. part_size draws.seed draws.words draws.vocabulary k range.least range.most_of) ks in
    let d = length-range_with_len 1 draws.words in
    let e = range.words in omega arith

next_range : (most : ℕ) (draws : Draws) → AreInRange most draws → AreInRange most (next_draws draws)
next_range most draws range = record {
  words = range.words;
  least = range.least;
  most_of = range.most_of;
}

pub drawn_size : (drawn : Bulk) → AreInRange 500000 drawn.draws
    → bytes_in (drawn_texts drawn) ≤ most_bytes
drawn_size drawn range =
    let first = text_of_draws drawn.draws in let second = text_of_draws (next_draws drawn.draws) in
    let a = text_size drawn.draws range in
    let b = text_size (next_draws drawn.draws) (next_range 500000 drawn.draws range) in
    let d = sum_by-cons (λ (c : List ℕ). length c) first (second ∷ []) in
    let e = sum_by-cons (λ (c : List ℕ). length c) second [] in omega arith
