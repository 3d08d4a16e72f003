-- A field cut into pieces: the places of the runs, and the bytes at these places.
use Rattle.std.proofs.Common.{◌≡◌, ℕ, ◌+◌, ◌-◌, ◌*◌, ◌<◌, ◌≤◌, inl, inr, min, List, [], ◌++◌, length, take, drop, map, get_or, refl, sym, ap, subst, ◌∙◌, arith, length-append}
use Rattle.std.proofs.lemmas.Bool.{cases_lt}
use Rattle.std.proofs.lemmas.List.{take-take, take_all, drop-drop, drop-take, length-take, length-drop, get_or-map, get_or-append_right, length-map}
use Rattle.std.proofs.lemmas.List.Elements.{All-from_get_or}
use Rattle.std.proofs.lemmas.List.FromFn.{length-map-range_with_len, get_or-map-range_with_len, fill_by_all}
use Rattle.std.specs.Fork.{slice_chunk}
use Rattle.std.specs.Int.{div_ceil}
use Rattle.std.specs.List.{All, range_with_len}
use Rattle.cdrc_text.specs.Pieces.{bytes_at, cut, cut_places, IsPlace}

-- the first byte and the length of run k of the field from a up to b
abbrev pub run_at : ℕ → ℕ → ℕ → ℕ × ℕ
run_at a b k = (a + k * 4096, min 4096 (b - (a + k * 4096)))

pub cut_places-is : (a b : ℕ) → cut_places (a, b) ≡ map (run_at a b) (range_with_len 0 (div_ceil (b - a) 4096))
unfolding cut_places
cut_places-is a b = refl

length-cut_places : (a b : ℕ) → length (cut_places (a, b)) ≡ div_ceil (b - a) 4096
unfolding cut_places
length-cut_places a b = length-map-range_with_len (run_at a b) 0 (div_ceil (b - a) 4096)

get_or-cut_places : (a b k : ℕ) → k < div_ceil (b - a) 4096 → get_or (cut_places (a, b)) k (0, 0) ≡ run_at a b k
unfolding cut_places
get_or-cut_places a b k h = get_or-map-range_with_len (run_at a b) 0 (div_ceil (b - a) 4096) k k (0, 0) h (omega arith)

-- of so many first elements, so many
take_of_take : {X : Type 0} (n m : ℕ) (xs : List X) → take n (take m xs) ≡ take (min n m) xs
take_of_take {X} n m xs = elim (cases_lt m n) [
  | inl h ↦
      let short : length (take m xs) ≤ n = omega (arith, length-take m xs) in
      let e : m ≡ min n m = omega arith in
      take_all n (take m xs) short ∙ ap (λ k. take k xs) e
  | inr h ↦
      let e : n ≡ min n m = omega arith in
      take-take n m xs h ∙ ap (λ k. take k xs) e
]

-- the bytes of a run are the run of the field's bytes
bytes-run : (bytes : List ℕ) (a b k : ℕ) → a + k * 4096 ≤ b
    → bytes_at bytes (run_at a b k) ≡ slice_chunk (take (b - a) (drop a bytes)) 4096 k
bytes-run bytes a b k within =
    let m = b - (a + k * 4096) in
    let whole : k * 4096 + m ≡ b - a = omega arith in
    let dropped : drop (k * 4096) (take (b - a) (drop a bytes)) ≡ take m (drop (a + k * 4096) bytes)
    = ap (λ n. drop (k * 4096) (take n (drop a bytes))) (sym whole) ∙ drop-take (k * 4096) m (drop a bytes)
    ∙ ap (take m) (drop-drop (k * 4096) a bytes) in
    sym (ap (take 4096) dropped ∙ take_of_take 4096 m (drop (a + k * 4096) bytes))

-- the bytes at a field's places are its bytes, cut
pub texts-cut_places : (bytes : List ℕ) (a b : ℕ) → b ≤ length bytes
    → map (bytes_at bytes) (cut_places (a, b)) ≡ cut (take (b - a) (drop a bytes))
unfolding cut
texts-cut_places bytes a b fits =
    let field = take (b - a) (drop a bytes) in
    let texts = map (bytes_at bytes) (cut_places (a, b)) in
    let size : length field ≡ b - a = omega (arith, length-take (b - a) (drop a bytes), length-drop a bytes) in
    let count : length texts ≡ div_ceil (length field) 4096
    = length-map (cut_places (a, b)) (bytes_at bytes) ∙ length-cut_places a b ∙ ap (λ n. div_ceil n 4096) (sym size) in
    fill_by_all (slice_chunk field 4096) texts (div_ceil (length field) 4096) [] count (λ k h.
    let below : k < div_ceil (b - a) 4096 = subst (λ n. k < div_ceil n 4096) size h in
    let listed : k < length (cut_places (a, b)) = omega (arith, below, length-cut_places a b) in
    get_or-map (bytes_at bytes) (cut_places (a, b)) k (0, 0) [] listed
    ∙ ap (bytes_at bytes) (get_or-cut_places a b k below)
    ∙ bytes-run bytes a b k (omega arith))

pub All-cut_places : (a b n : ℕ) → b ≤ n → All (IsPlace n) (cut_places (a, b))
All-cut_places a b n fits =
    All-from_get_or (IsPlace n) (cut_places (a, b)) (0, 0) (λ k h.
    let below : k < div_ceil (b - a) 4096 = omega (arith, h, length-cut_places a b) in
    subst (IsPlace n) (sym (get_or-cut_places a b k below)) (omega arith, omega arith, omega arith))

-- where the list is full before run k, that run is the first one over it
pub over-cut_places : (before : List (ℕ × ℕ)) (a b k limit : ℕ) → k < div_ceil (b - a) 4096 → length before + k ≡ limit
    → (limit < length (before ++ cut_places (a, b))) × (a + k * 4096 ≡ (get_or (before ++ cut_places (a, b)) limit (0, 0)).0)
over-cut_places before a b k limit below full =
    let place : get_or (before ++ cut_places (a, b)) limit (0, 0) ≡ run_at a b k
    = get_or-append_right before (cut_places (a, b)) (length before) limit (0, 0) refl (omega arith)
    ∙ ap (λ n. get_or (cut_places (a, b)) n (0, 0)) (let e : limit - length before ≡ k = omega arith in e)
    ∙ get_or-cut_places a b k below in
    (omega (arith, length-append before (cut_places (a, b)), length-cut_places a b), sym (ap (λ (p : ℕ × ℕ). p.0) place))
