-- The words of the files are of bytes, since the texts that were pushed are.
use Rattle.std.proofs.Common.{◌≡◌, ℕ, zero, suc, ◌-◌, ◌%◌, ◌/◌, ◌<◌, ◌≤◌, Bool, cond, List, [], ◌∷◌, length, map, min, drop, get_or, refl, ap, arith, mul-le-mul_left}
use Rattle.std.specs.List.{All, sum_by}
use Rattle.std.specs.Str.{bytes_eq}
use Rattle.std.specs.Cmp.Lexicographic.{bytes_decides}
use Rattle.std.proofs.lemmas.List.Elements.{All-append, All-cons, All-map}
use Rattle.std.proofs.lemmas.List.Sums.{sum_by-cons}
use Rattle.tally_sums.specs.cdrc_text.Fold.{File, times}
use Rattle.words_rest.specs.directory_law.Bytes.{AreBytes, bytes_of_words, low_bytes, part_bytes, piece_bytes, text_bytes}
use Rattle.words_rest.specs.directory_law.Payloads.{Text, size}
use Rattle.ticket_shares.specs.Tickets.{IsEachOnce}
use Rattle.words_rest.proofs.Below.record_counts_Told.{small_in}
use Rattle.lane_domain.specs.lane_files.lane_work.declared.work.Work.{Work}
use Rattle.lane_domain.specs.lane_files.Work.{all_tickets, words_of_all}
use Rattle.lane_domain.specs.Sizes.{texts_in}
use Rattle.lane_reports.proofs.Occurring.{sum_work, times_both}

none_small : AreBytes []
none_small = λ k d h. absurd (omega (arith, h))

low_small : (n word : ℕ) → AreBytes (low_bytes n word)
low_small zero word = none_small
low_small (suc n) word =
    All-cons (λ byte. byte < 256) (word % 256) (low_bytes n (word / 256)) (omega arith)
    (low_small n (word / 256))

words_small : (n : ℕ) (words : List ℕ) → AreBytes (bytes_of_words n words)
words_small n [] = none_small
words_small n (word ∷ words) =
    All-append (λ byte. byte < 256) (low_bytes (min 8 n) word) (bytes_of_words (n - 8) words)
    (low_small (min 8 n) word) (words_small (n - 8) words)

parts_small : (ts : Text) → AreBytes (part_bytes ts)
parts_small [] = none_small
parts_small (t ∷ ts) =
    All-append (λ byte. byte < 256) (piece_bytes (size t - 65536) t) (part_bytes ts)
    (words_small (size t - 65536) (drop 1 t)) (parts_small ts)

text_small : (text : Text) → AreBytes (text_bytes text)
text_small [] = none_small
text_small (t ∷ ts) =
    All-append (λ byte. byte < 256) (piece_bytes (min 120 (size t)) t) (part_bytes ts)
    (words_small (min 120 (size t)) (drop 1 t)) (parts_small ts)

pub texts_small : (texts : List Text) → All AreBytes (map text_bytes texts)
texts_small texts = All-map AreBytes text_bytes texts (λ k d h. text_small (get_or texts k d))

-- an element is among the elements
times_at : (xs : List (List ℕ)) (k : ℕ) (d : List ℕ) → k < length xs
    → 0 < times (get_or xs k d) xs
times_at [] k d h = absurd (omega (arith, h))
times_at (x ∷ xs) zero d h =
    let all = sum_by-cons (λ (y : List ℕ). cond (bytes_eq x y) 1 0) x xs in
    let here = ap (λ (b : Bool). cond {A = ℕ} b 1 0) ((bytes_decides x x).1 refl) in
    omega (arith, all, here)
times_at (x ∷ xs) (suc k) d h =
    let w = get_or xs k d in
    let rest = times_at xs k d (omega (arith, h)) in
    let all = sum_by-cons (λ (y : List ℕ). cond (bytes_eq w y) 1 0) x xs in omega (arith, rest, all)

sum_at : {A : Type 0} (f : A → ℕ) (xs : List A) (k : ℕ) (d : A) → k < length xs
    → f (get_or xs k d) ≤ sum_by f xs
sum_at f [] k d h = absurd (omega (arith, h))
sum_at f (x ∷ xs) zero d h = let all = sum_by-cons f x xs in omega (arith, all)
sum_at f (x ∷ xs) (suc k) d h =
    let rest = sum_at f xs k d (omega (arith, h)) in
    let all = sum_by-cons f x xs in omega (arith, rest, all)

pub files_small : (work : Work) (tickets : List ℕ) → IsEachOnce (all_tickets work) tickets
    → 1 ≤ work.rounds → (words : List (List ℕ)) → words ≡ words_of_all work tickets
    → All AreBytes words → All (λ (f : File). All AreBytes f) (texts_in work)
files_small work tickets once some words are small i d inside k e within =
    let f = get_or (texts_in work) i d in
    let w = get_or f k e in
    let here = times_at f k e within in
    let sum = sum_at (times w) (texts_in work) i d inside in
    let total = sum_by (times w) (texts_in work) in
    let one : 1 ≤ total = omega (arith, here, sum) in
    let most = mul-le-mul_left work.rounds one in
    let all = sum_work (times w) refl (times_both w) work tickets once in
    let same = ap (times w) are in
    small_in w words (omega (arith, most, all, same, some)) small
