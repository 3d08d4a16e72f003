-- Bytes and payloads determine one another.
use Rattle.std.proofs.Common.{◌≡◌, inl, inr, ⊎_elim, ℕ, zero, suc, ◌+◌, ◌-◌, ◌<◌, ◌≤◌, List, [], ◌∷◌, ◌++◌, length, get_or, take, sum, refl, ap, sym, ◌∙◌, subst, arith}
use Rattle.std.specs.Prelude.{◌%◌}
use Rattle.std.proofs.lemmas.List.Sums.{sum_by-cons}
use Rattle.std.proofs.lemmas.Bool.Decides.{nat_tests}
use Rattle.plain_protocol.specs.plain_state.State.{no_payload}
use Rattle.directory_law.specs.Payloads.{IsOwn, Text, size, IsRest, IsText}
use Rattle.directory_law.specs.Places.{text_hash}
use Rattle.directory_law.specs.Views.{Each}
use Rattle.directory_law.specs.declared.view.GivenTo.{GivenTo}
use Rattle.directory_law.specs.declared.view.GivenTo.TheVariants.{Seats, Tickets}
use Rattle.directory_law.specs.Cells.{area}
use Rattle.std.proofs.Common.{length-drop, drop, ◌*◌, ◌^◌}
use Rattle.std.specs.Prelude.{◌/◌, min, sum_by}
use Rattle.std.proofs.lemmas.List.{ext_get_or, take-append-drop, drop-drop, length-take}
use Rattle.std.proofs.lemmas.Grind.{get_or_after_one}
use Rattle.std.proofs.lemmas.List.Elements.{All-take, All-drop, All-tail}
use Rattle.plain_protocol.specs.plain_state.Records.{word_of_bytes, eight_bytes}
use Rattle.directory_law.specs.Places.{hash_on}
use Rattle.directory_law.specs.Bytes.{AreBytes, Packs, ArePartsOf, IsTextOf, low_bytes, bytes_of_words, piece_bytes, piece_weight, part_bytes, text_bytes, IsHeadOf, IsPartOf, IsPiece}

-- PAYLOADS FROM BYTES. A payload is one for its bytes
piece_same : (n : ℕ) (bytes t u : List ℕ) → Packs n bytes t → Packs n bytes u → t ≡ u
piece_same n bytes t u a b =
    let wa = a.words in let wb = b.words in
    ext_get_or 0 t u (wa ∙ sym wb) at
  where
    at : (i : ℕ) → i < length t → get_or t i 0 ≡ get_or u i 0
    at zero h = a.size ∙ sym b.size
    at (suc k) h =
        let w = a.words in
        let x = a.eights k (omega arith) in
        let y = b.eights k (omega arith) in
        subst (λ (i : ℕ). get_or t i 0 ≡ get_or u i 0) (let e : k + 1 ≡ suc k = omega arith in e)
        (x ∙ sym y)

parts_same : (bytes : List ℕ) (ts us : Text) → ArePartsOf bytes ts → ArePartsOf bytes us → ts ≡ us
parts_same bytes [] [] h k = refl
parts_same bytes [] (u ∷ us) h k = let a = k.0 in absurd (omega arith)
parts_same bytes (t ∷ ts) [] h k = let a = h.0 in absurd (omega arith)
parts_same bytes (t ∷ ts) (u ∷ us) h k =
    ap (λ (x : List ℕ). x ∷ ts) (piece_same (65536 + length (take 120 bytes)) (take 120 bytes) t u
    h.1 k.1)
    ∙ ap (λ (x : Text). u ∷ x) (parts_same (drop 120 bytes) ts us h.2 k.2)

pub one_text : (bytes : List ℕ) (a b : Text) → IsTextOf bytes a → IsTextOf bytes b → a ≡ b
one_text bytes [] b h k = absurd h
one_text bytes (t ∷ ts) [] h k = absurd k
one_text bytes (t ∷ ts) (u ∷ us) h k =
    ap (λ (x : List ℕ). x ∷ ts) (piece_same (length bytes) (take 120 bytes) t u h.2 k.2)
    ∙ ap (λ (x : Text). u ∷ x) (parts_same (drop 120 bytes) ts us h.3 k.3)

-- BYTES FROM PAYLOADS. A word tells its bytes, where it is known how many they are
word_tells : (bytes : List ℕ) → AreBytes bytes
    → low_bytes (length bytes) (word_of_bytes bytes) ≡ bytes
word_tells [] small = refl
word_tells (b ∷ bs) small =
    let w = word_of_bytes bs in
    let here : b < 256 = small 0 0 (omega arith) in
    let first : (b + 256 * w) % 256 ≡ b = omega arith in
    let rest : (b + 256 * w) / 256 ≡ w = omega arith in
    let tail = word_tells bs (All-tail (λ (byte : ℕ). byte < 256) b bs small) in
    ap (λ (x : ℕ). x ∷ low_bytes (length bs) ((b + 256 * w) / 256)) first
    ∙ (ap (λ (x : ℕ). b ∷ low_bytes (length bs) x) rest ∙ ap (λ (xs : List ℕ). b ∷ xs) tail)

bytes_take : (n : ℕ) (bytes : List ℕ) → AreBytes bytes → AreBytes (take n bytes)
bytes_take n bytes small = All-take (λ (byte : ℕ). byte < 256) n bytes small

bytes_drop : (n : ℕ) (bytes : List ℕ) → AreBytes bytes → AreBytes (drop n bytes)
bytes_drop n bytes small = All-drop (λ (byte : ℕ). byte < 256) n bytes small

none_left : (bytes : List ℕ) → length bytes ≤ 0 → bytes ≡ []
none_left [] h = refl
none_left (b ∷ bs) h = absurd (omega arith)

-- words with eight bytes each
words_tell : (words bytes : List ℕ) → AreBytes bytes → length bytes ≤ 8 * length words
    → ((k : ℕ) → k < length words → get_or words k 0 ≡ word_of_bytes (eight_bytes bytes k))
    → bytes_of_words (length bytes) words ≡ bytes
words_tell [] bytes small most at = sym (none_left bytes (omega arith))
words_tell (w ∷ ws) bytes small most at =
    let cut : length (take 8 bytes) ≡ min 8 (length bytes) = length-take 8 bytes in
    let left : length (drop 8 bytes) ≡ length bytes - 8 = length-drop 8 bytes in
    let word : w ≡ word_of_bytes (take 8 bytes) = at 0 (omega arith) in
    let first : low_bytes (min 8 (length bytes)) w ≡ take 8 bytes =
    ap (low_bytes (min 8 (length bytes))) word
    ∙ (ap (λ (n : ℕ). low_bytes n (word_of_bytes (take 8 bytes))) (sym cut)
    ∙ word_tells (take 8 bytes) (bytes_take 8 bytes small)) in
    let rest = words_tell ws (drop 8 bytes) (bytes_drop 8 bytes small) (omega arith) next in
    ap (λ (xs : List ℕ). xs ++ bytes_of_words (length bytes - 8) ws) first
    ∙ (ap (λ (n : ℕ). take 8 bytes ++ bytes_of_words n ws) (sym left)
    ∙ (ap (λ (xs : List ℕ). take 8 bytes ++ xs) rest ∙ take-append-drop 8 bytes))
  where
    next : (k : ℕ) → k < length ws → get_or ws k 0 ≡ word_of_bytes (eight_bytes (drop 8 bytes) k)
    next k lt =
        let e : 8 * suc k ≡ 8 + 8 * k = omega arith in
        at (suc k) (omega arith)
        ∙ ap (λ (xs : List ℕ). word_of_bytes (take 8 xs))
        (ap (λ (i : ℕ). drop i bytes) e ∙ sym (drop-drop (8 * k) 8 bytes))

piece_tells : (n : ℕ) (bytes payload : List ℕ) → AreBytes bytes → length bytes ≤ 120
    → Packs n bytes payload
    → piece_bytes (length bytes) payload ≡ bytes
piece_tells n bytes payload small most packs =
    let words = packs.words in
    let long : length (drop 1 payload) ≡ length payload - 1 = length-drop 1 payload in
    words_tell (drop 1 payload) bytes small (omega arith)
    (λ k lt.
    let e : 1 + k ≡ k + 1 = omega arith in
    get_or_after_one payload k 0 ∙ (ap (λ (i : ℕ). get_or payload i 0) e
    ∙ packs.eights k (omega arith)))

part_size : (bytes : List ℕ) → length (take 120 bytes) ≤ 120
part_size bytes =
    let e : length (take 120 bytes) ≡ min 120 (length bytes) = length-take 120 bytes in omega arith

parts_tell : (bytes : List ℕ) (ts : Text) → AreBytes bytes → ArePartsOf bytes ts
    → part_bytes ts ≡ bytes
parts_tell bytes [] small h = sym (none_left bytes (omega arith))
parts_tell bytes (t ∷ ts) small h =
    let s = h.1.size in
    let n : size t - 65536 ≡ length (take 120 bytes) = omega arith in
    let first = piece_tells (65536 + length (take 120 bytes)) (take 120 bytes) t
    (bytes_take 120 bytes small) (part_size bytes) h.1 in
    let rest = parts_tell (drop 120 bytes) ts (bytes_drop 120 bytes small) h.2 in
    ap (λ (k : ℕ). piece_bytes k t ++ part_bytes ts) n
    ∙ (ap (λ (xs : List ℕ). xs ++ part_bytes ts) first
    ∙ (ap (λ (xs : List ℕ). take 120 bytes ++ xs) rest ∙ take-append-drop 120 bytes))

pub text_tells : (bytes : List ℕ) (text : Text) → AreBytes bytes → IsTextOf bytes text
    → text_bytes text ≡ bytes
text_tells bytes [] small h = absurd h
text_tells bytes (t ∷ ts) small h =
    let s = h.2.size in
    let cut : length (take 120 bytes) ≡ min 120 (length bytes) = length-take 120 bytes in
    let n : min 120 (size t) ≡ length (take 120 bytes) = ap (min 120) s ∙ sym cut in
    let first = piece_tells (length bytes) (take 120 bytes) t (bytes_take 120 bytes small)
    (part_size bytes) h.2 in
    let rest = parts_tell (drop 120 bytes) ts (bytes_drop 120 bytes small) h.3 in
    ap (λ (k : ℕ). piece_bytes k t ++ part_bytes ts) n
    ∙ (ap (λ (xs : List ℕ). xs ++ part_bytes ts) first
    ∙ (ap (λ (xs : List ℕ). take 120 bytes ++ xs) rest ∙ take-append-drop 120 bytes))

pub text_place : (bytes : List ℕ) (text : Text) → AreBytes bytes → IsTextOf bytes text
    → text_hash text ≡ hash_on 0 bytes
unfolding text_hash
text_place bytes text small h = ap (hash_on 0) (text_tells bytes text small h)

-- THE PAYLOADS OF A TEXT are a text
parts_are : (n : ℕ) (bytes : List ℕ) (ts : Text) → n ≡ length bytes → ArePartsOf bytes ts
    → IsRest n ts
parts_are n bytes [] e h = e ∙ h
parts_are n bytes (t ∷ ts) e h =
    let s = h.1.size in
    let some = h.0 in
    let cut : length (take 120 bytes) ≡ min 120 (length bytes) = length-take 120 bytes in
    let left : length (drop 120 bytes) ≡ length bytes - 120 = length-drop 120 bytes in (
      length (take 120 bytes),
      (s, omega arith, omega arith, omega arith, λ less. omega arith),
      parts_are (n - length (take 120 bytes)) (drop 120 bytes) ts (omega arith) h.2,
    )

pub text_is : (bytes : List ℕ) (text : Text) → IsTextOf bytes text → IsText text
text_is bytes [] h = absurd h
text_is bytes (t ∷ ts) h =
    let a = h.0 in let b = h.1 in let s = h.2.size in
    let left : length (drop 120 bytes) ≡ length bytes - 120 = length-drop 120 bytes in
    (((omega arith), (omega arith)), parts_are (size t - 120) (drop 120 bytes) ts (omega arith) h.3)

-- each is the payload of a head or of a part
parts_pieces : (bytes : List ℕ) (ts : Text) → AreBytes bytes → ArePartsOf bytes ts → Each IsPiece ts
parts_pieces bytes [] small h = tt
parts_pieces bytes (t ∷ ts) small h =
    let some = h.0 in
    let cut : length (take 120 bytes) ≡ min 120 (length bytes) = length-take 120 bytes in (
      (take 120 bytes, bytes_take 120 bytes small, inr (omega arith, part_size bytes, h.1)),
      parts_pieces (drop 120 bytes) ts (bytes_drop 120 bytes small) h.2,
    )

pub text_pieces : (bytes : List ℕ) (text : Text) → AreBytes bytes → IsTextOf bytes text
    → Each IsPiece text
text_pieces bytes [] small h = absurd h
text_pieces bytes (t ∷ ts) small h =
    let s = h.2.size in
    let cut : length (take 120 bytes) ≡ min 120 (length bytes) = length-take 120 bytes in
    let packs = subst (λ (n : ℕ). Packs n (take 120 bytes) t) (sym s) h.2 in (
      (
        take 120 bytes,
        bytes_take 120 bytes small,
        inl ((text_is bytes (t ∷ ts) h).0, cut ∙ ap (min 120) (sym s), packs),
      ),
      parts_pieces (drop 120 bytes) ts (bytes_drop 120 bytes small) h.3,
    )

-- and they weigh as much as the text has bytes
part_weighs : (t : List ℕ) (k : ℕ) → size t ≡ 65536 + k → 0 < k → piece_weight t ≡ k
part_weighs t k is some = grind (arith, nat_tests)

head_weighs : (t : List ℕ) → size t ≤ 4096 → piece_weight t ≡ min 120 (size t)
head_weighs t most = grind (arith, nat_tests)

parts_weigh : (bytes : List ℕ) (ts : Text) → ArePartsOf bytes ts
    → sum_by piece_weight ts ≡ length bytes
parts_weigh bytes [] h = sym h
parts_weigh bytes (t ∷ ts) h =
    let some = h.0 in
    let cut : length (take 120 bytes) ≡ min 120 (length bytes) = length-take 120 bytes in
    let left : length (drop 120 bytes) ≡ length bytes - 120 = length-drop 120 bytes in
    let first = part_weighs t (length (take 120 bytes)) h.1.size (omega arith) in
    let rest = parts_weigh (drop 120 bytes) ts h.2 in
    let all = sum_by-cons piece_weight t ts in omega arith

pub text_weighs : (bytes : List ℕ) (text : Text) → IsTextOf bytes text
    → sum_by piece_weight text ≡ length bytes
text_weighs bytes [] h = absurd h
text_weighs bytes (t ∷ ts) h =
    let s = h.2.size in let b = h.1 in
    let left : length (drop 120 bytes) ≡ length bytes - 120 = length-drop 120 bytes in
    let first = head_weighs t (omega arith) in
    let rest = parts_weigh (drop 120 bytes) ts h.3 in
    let all = sum_by-cons piece_weight t ts in omega arith

-- such a payload is the directory's, and one with all words 0 isn't
pub piece_own : (payload : List ℕ) → IsPiece payload → IsOwn payload
piece_own payload is =
    ⊎_elim
    (λ (head : IsHeadOf is.0 payload). head.0.0)
    (λ (part : IsPartOf is.0 payload). let s = part.2.size in let some = part.0 in omega arith)
    is.2

pub zeros_not_own : ¬ (IsOwn no_payload)
zeros_not_own own = omega (arith, own)

-- no object weighs more than 120
pub piece_bounded : (payload : List ℕ) → IsPiece payload → piece_weight payload ≤ 2 ^ 32
piece_bounded payload is =
    ⊎_elim
    (λ (head : IsHeadOf is.0 payload).
    let most = head.0.1 in
    let w = head_weighs payload most in omega arith)
    (λ (part : IsPartOf is.0 payload).
    let some = part.0 in let most = part.1 in
    let w = part_weighs payload (length is.0) part.2.size some in omega arith)
    is.2

-- interns that seats or tickets are given add up to one number
pub area_sum : (first cells : ℕ) (interns : List ℕ) (to : GivenTo)
    → sum (area first cells interns to).interns + sum (area first cells interns to).grants ≡ sum
    interns
area_sum first cells interns Seats = omega arith
area_sum first cells interns Tickets = omega arith

-- so where that many cells hold them, they hold both
pub area_fits : (first cells : ℕ) (interns : List ℕ) (to : GivenTo) → sum interns ≤ cells
    → let z = area first cells interns to in sum z.interns + sum z.grants ≤ z.cells
area_fits first cells interns to fits = let e = area_sum first cells interns to in omega arith
