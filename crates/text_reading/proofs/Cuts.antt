-- How many bytes of a text are left, where it has begun so.
use Rattle.std.proofs.Common.{◌≡◌, ℕ, ◌+◌, ◌-◌, ◌<◌, List, [], ◌∷◌, ◌++◌, refl, ap, sym, ◌∙◌, subst, arith, append_assoc}
use Rattle.std.specs.Prelude.{min}
use Rattle.std.proofs.lemmas.List.{append-nil}
use Rattle.directory_calls.specs.directory_law.Views.{Each}
use Rattle.directory_calls.specs.directory_law.Payloads.{Text, size, IsHead, IsCut, IsRest, IsText}
use Rattle.directory_calls.specs.directory_law.Bytes.{part_bytes, piece_bytes, text_bytes}

-- parts that are cut from n bytes, one after another, and leave m
abbrev pub Cuts : ℕ → Text → ℕ → Type 0
Cuts n [] m = n ≡ m
Cuts n (t ∷ ts) m = (k : ℕ) × IsCut n k t × Cuts (n - k) ts m

-- the first slots of a text, of which n bytes are left
abbrev pub HasLeft : ℕ → Text → Type 0
HasLeft n [] = ⊥
HasLeft n (t ∷ ts) = IsHead t × Cuts (size t - 120) ts n

cuts_rest : (n m : ℕ) (ts us : Text) → Cuts n ts m → IsRest n (ts ++ us) → IsRest m us
cuts_rest n m [] us cut is = subst (λ (k : ℕ). IsRest k us) cut is
cuts_rest n m (t ∷ ts) us cut is =
    let a = cut.1.0 in let b = is.1.0 in
    let e : is.0 ≡ cut.0 = omega arith in
    cuts_rest (n - cut.0) m ts us cut.2 (subst (λ (k : ℕ). IsRest (n - k) (ts ++ us)) e is.2)

cuts_more : (n m k : ℕ) (ts : Text) (t : List ℕ) → Cuts n ts m → IsCut m k t
    → Cuts n (ts ++ t ∷ []) (m - k)
cuts_more n m k [] t cut more =
    (k, subst (λ (x : ℕ). IsCut x k t) (sym cut) more, ap (λ (x : ℕ). x - k) cut)
cuts_more n m k (u ∷ ts) t cut more = (cut.0, cut.1, cuts_more (n - cut.0) m k ts t cut.2 more)

cuts_all : (n : ℕ) (ts : Text) → Cuts n ts 0 → IsRest n ts
cuts_all n [] cut = cut
cuts_all n (t ∷ ts) cut = (cut.0, cut.1, cuts_all (n - cut.0) ts cut.2)

left_rest : (n : ℕ) (before us : Text) → HasLeft n before → IsText (before ++ us) → IsRest n us
left_rest n [] us left is = absurd left
left_rest n (t ∷ ts) us left is = cuts_rest (size t - 120) n ts us left.1 is.1

left_more : (n k : ℕ) (before : Text) (t : List ℕ) → HasLeft n before → IsCut n k t
    → HasLeft (n - k) (before ++ t ∷ [])
left_more n k [] t left more = absurd left
left_more n k (u ∷ ts) t left more = (left.0, cuts_more (size u - 120) n k ts t left.1 more)

pub left_head : (t : List ℕ) → IsHead t → HasLeft (size t - 120) (t ∷ [])
left_head t is = (is, refl)

-- where nothing is left it is a whole text, and else it isn't
pub left_none : (before : Text) → HasLeft 0 before → IsText before
left_none [] left = absurd left
left_none (t ∷ ts) left = (left.0, cuts_all (size t - 120) ts left.1)

pub left_some : (n : ℕ) (before : Text) → HasLeft n before → 0 < n → ¬ (IsText before)
left_some n before left some' is =
    let none : n ≡ 0 = left_rest n before [] left (subst IsText (sym (append-nil before)) is) in
    omega (arith, some', none)

-- the next part has 120 bytes of those that are left, or all where they are fewer
pub left_part : (n : ℕ) (before rest : Text) (t : List ℕ) → HasLeft n before
    → IsText ((before ++ t ∷ []) ++ rest)
    → (size t ≡ 65536 + min 120 n) × HasLeft (n - 120) (before ++ t ∷ [])
left_part n before rest t left is =
    let r = left_rest n before (t ∷ rest) left
    (subst IsText (append_assoc before (t ∷ []) rest) is) in
    let cut = r.1 in
    let a = cut.0 in let some' = cut.1 in let most = cut.2 in let within = cut.3 in
    let all = cut.4 in
    let few : r.0 ≡ min 120 n = grind arith in
    let less : n - r.0 ≡ n - 120 = grind arith in (
      a ∙ ap (λ (k : ℕ). 65536 + k) few,
      subst (λ (k : ℕ). HasLeft k (before ++ t ∷ [])) less (left_more n r.0 before t left cut),
    )

-- BYTES
part_bytes_more : (ts : Text) (t : List ℕ)
    → part_bytes (ts ++ t ∷ []) ≡ part_bytes ts ++ piece_bytes (size t - 65536) t
part_bytes_more [] t = append-nil (piece_bytes (size t - 65536) t)
part_bytes_more (u ∷ ts) t =
    ap (λ (x : List ℕ). piece_bytes (size u - 65536) u ++ x) (part_bytes_more ts t)
    ∙ sym (append_assoc (piece_bytes (size u - 65536) u) (part_bytes ts)
    (piece_bytes (size t - 65536) t))

text_bytes_more : (n : ℕ) (before : Text) (t : List ℕ) → HasLeft n before
    → text_bytes (before ++ t ∷ []) ≡ text_bytes before ++ piece_bytes (size t - 65536) t
text_bytes_more n [] t left = absurd left
text_bytes_more n (u ∷ ts) t left =
    ap (λ (x : List ℕ). piece_bytes (min 120 (size u)) u ++ x) (part_bytes_more ts t)
    ∙ sym (append_assoc (piece_bytes (min 120 (size u)) u) (part_bytes ts)
    (piece_bytes (size t - 65536) t))

-- with the bytes of the next part
pub bytes_more : (n : ℕ) (before : Text) (t : List ℕ) → HasLeft n before
    → size t ≡ 65536 + min 120 n
    → text_bytes (before ++ t ∷ []) ≡ text_bytes before ++ piece_bytes (min 120 n) t
bytes_more n before t left is =
    let some' : size t - 65536 ≡ min 120 n = omega (arith, is) in
    text_bytes_more n before t left
    ∙ ap (λ (k : ℕ). text_bytes before ++ piece_bytes k t) some'

pub bytes_head : (t : List ℕ) → text_bytes (t ∷ []) ≡ piece_bytes (min 120 (size t)) t
bytes_head t = append-nil (piece_bytes (min 120 (size t)) t)

-- WHAT FITS of each slot
pub each_more : (fits : List ℕ → Type 0) (before : Text) (t : List ℕ) → Each fits before → fits t
    → Each fits (before ++ t ∷ [])
each_more fits [] t all more = (more, tt)
each_more fits (u ∷ us) t all more = (all.0, each_more fits us t all.1 more)
