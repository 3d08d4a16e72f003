-- What packing a text into words rests on.
use Rattle.std.proofs.Common.{◌≡◌, ℕ, zero, suc, ◌+◌, ◌*◌, ◌^◌, ◌<◌, ◌≤◌, List, [], ◌∷◌, All, length, take, drop, get_or, ap, sym, refl, ◌∙◌, arith, drop-cons, add-one, lit<, lit≤}
use Rattle.std.proofs.Math.Nat.{pow-suc, pow-le-pow_right}
use Rattle.std.proofs.Math.Seq.{take-add}
use Rattle.std.proofs.lemmas.List.{take_all, length-take, length-drop, ext_get_or}
use Rattle.std.proofs.lemmas.List.Elements.{All-take, All-drop}
use Rattle.plain_state.specs.Records.{word_of_bytes, eight_bytes, IsText, IsRecordOf, IsRecord, HasOneText}

-- one byte more at the front
pub word_more : (bytes : List ℕ) (i j : ℕ) → i < length bytes → i + 1 ≡ j → word_of_bytes (drop i bytes) ≡ get_or bytes i 0 + 256 * word_of_bytes (drop j bytes)
word_more bytes i j lt e =
    let f : drop i bytes ≡ get_or bytes i 0 ∷ drop (i + 1) bytes = rw add-one (drop-cons bytes i 0 lt) in
    ap word_of_bytes f ∙ ap (λ (k : ℕ). get_or bytes i 0 + 256 * word_of_bytes (drop k bytes)) e

-- a byte below a word of n bytes makes one of n + 1 bytes
pub byte_below : (word byte n : ℕ) → word < 256 ^ n → byte < 256 → word * 256 + byte < 256 ^ (n + 1)
byte_below word byte n lt small =
    let e : 256 ^ (n + 1) ≡ 256 ^ n * 256 = rw add-one (pow-suc 256 n) in
    omega arith

pub eight_fit : (word n : ℕ) → n ≤ 8 → word < 256 ^ n → word < 2 ^ 64
eight_fit word n le lt =
    let most : 256 ^ n ≤ 256 ^ 8 = pow-le-pow_right (lit< tt) le in
    omega arith

-- a word tells its bytes, where it is known how many they are
word_tells : (xs ys : List ℕ) → length xs ≡ length ys → All (λ byte. byte < 256) xs → All (λ byte. byte < 256) ys
    → word_of_bytes xs ≡ word_of_bytes ys → xs ≡ ys
word_tells [] [] same small_x small_y e = refl
word_tells [] (y ∷ ys) same small_x small_y e = absurd (omega arith)
word_tells (x ∷ xs) [] same small_x small_y e = absurd (omega arith)
word_tells (x ∷ xs) (y ∷ ys) same small_x small_y e =
    let here_x : x < 256 = small_x 0 0 (omega arith) in
    let here_y : y < 256 = small_y 0 0 (omega arith) in
    let heads : x ≡ y = omega arith in
    let words : word_of_bytes xs ≡ word_of_bytes ys = omega arith in
    let tails = word_tells xs ys (omega arith) (λ k d lt. small_x (suc k) d (omega arith)) (λ k d lt. small_y (suc k) d (omega arith)) words in
    cc

small_part : (x : List ℕ) (k : ℕ) → All (λ byte. byte < 256) x → All (λ byte. byte < 256) (eight_bytes x k)
small_part x k small =
    let small_byte : ℕ → Type 0 = λ byte. byte < 256 in
    All-take small_byte 8 (drop (8 * k) x) (All-drop small_byte (8 * k) x small)

-- two texts with the same words have the same front of 8k bytes
same_front : (x y : List ℕ) → ((k : ℕ) → k < 15 → eight_bytes x k ≡ eight_bytes y k) → (k : ℕ) → k ≤ 15 → take (8 * k) x ≡ take (8 * k) y
same_front x y same zero le = refl
same_front x y same (suc k) le =
    let more : 8 * suc k ≡ 8 * k + 8 = omega arith in
    let front = same_front x y same k (omega arith) in
    let here = same k (omega arith) in
    rw (more, take-add (8 * k) 8 x, take-add (8 * k) 8 y) cc

pub same_text : (x y payload : List ℕ) → IsText x → IsText y → IsRecordOf x payload → IsRecordOf y payload → x ≡ y
same_text x y payload text_x text_y of_x of_y =
    let lengths : length x ≡ length y = sym of_x.size ∙ of_y.size in
    let parts : (k : ℕ) → k < 15 → eight_bytes x k ≡ eight_bytes y k = λ k lt.
    word_tells (eight_bytes x k) (eight_bytes y k)
    (rw (length-take 8 (drop (8 * k) x), length-take 8 (drop (8 * k) y), length-drop (8 * k) x, length-drop (8 * k) y, lengths) refl)
    (small_part x k text_x.bytes)
    (small_part y k text_y.bytes)
    (sym (of_x.bytes k lt) ∙ of_y.bytes k lt) in
    sym (take_all 120 x text_x.most) ∙ same_front x y parts 15 (lit≤ tt) ∙ take_all 120 y text_y.most

pub one_text : (payload : List ℕ) → IsRecord payload → HasOneText payload
one_text payload (text, is, packs) =
    (text, is, packs, λ other is_too packs_too. same_text other text payload is_too is packs_too packs)

pub one_payload : (text x y : List ℕ) → IsRecordOf text x → IsRecordOf text y → x ≡ y
one_payload text x y of_x of_y =
    ext_get_or 0 x y (of_x.words ∙ sym of_y.words) same
  where
    same : (i : ℕ) → i < length x → get_or x i 0 ≡ get_or y i 0
    same zero lt = of_x.size ∙ sym of_y.size
    same (suc k) lt =
        let words = of_x.words in
        let below : k < 15 = omega arith in
        let e : k + 1 ≡ suc k = add-one k in
        rw (← e) (of_x.bytes k below ∙ sym (of_y.bytes k below))
