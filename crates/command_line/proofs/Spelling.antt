-- How a word that begins with `--` is spelled, and how an operand isn't.
use Rattle.std.proofs.Common.{◌≡◌, ◌∙◌, ◌+◌, ◌&&◌, ◌||◌, ℕ, Bool, cond, true, false, not, suc, inl, inr, refl, sym, ap, arith, List, [], ◌∷◌, ◌++◌, codes, length, take, drop, Option, Some, None, true≢false}
use Rattle.std.specs.Prelude.{◌==◌, option_and_then, slice_index, unwrap_or}
use Rattle.std.specs.List.{after_first, before_first, list_any, position_or_len}
use Rattle.std.specs.Str.{bytes_eq}
use Rattle.std.proofs.Math.Seq.{drop-append-add, take-append_seam, take-length}
use Rattle.std.proofs.lemmas.Bool.{eqb-true}
use Rattle.std.proofs.lemmas.Slice.Eq.{bytes_eq-Decides}
use Rattle.clap.specs.Lexer.{has_byte, long_of, long_of_rest, name_and_value, short_of, short_of_rest, strip_byte}
use Rattle.command_line.specs.Parts.{Text, IsOneOf, IsOperand}
use Rattle.command_line.specs.Found.{is_name}
use Rattle.command_line.proofs.Rules.{is_one_of}
use Rattle.command_line.proofs.Rows.{refuted}

abbrev is_equals : ℕ → Bool
is_equals x = x == 61

none≢some : {X : Type 0} (x : X) → None ≡ Some x → ⊥
none≢some {X = X} x e = true≢false (sym (ap (λ (o : Option X). Rattle.std.specs.Option.is_some o) e))

-- ---- the first `=`

no_equals : (xs : Text) → has_byte 61 xs ≡ false → position_or_len is_equals xs ≡ length xs
no_equals [] none = refl
no_equals (x ∷ xs) none = go (x == 61) refl (λ rest. no_equals xs rest)
  where
    go : (b : Bool) → (x == 61) ≡ b → (has_byte 61 xs ≡ false → position_or_len is_equals xs ≡ length xs)
        → position_or_len is_equals (x ∷ xs) ≡ length (x ∷ xs)
    go true e rec =
        let yes : has_byte 61 (x ∷ xs) ≡ true = rw e refl in
        absurd (true≢false (sym yes ∙ none))
    go false e rec =
        let rest : has_byte 61 xs ≡ false = rw e at none in
        let tail = rec rest in
        rw e (omega (arith, tail))

equals_at : (xs v : Text) → has_byte 61 xs ≡ false → position_or_len is_equals (xs ++ 61 ∷ v) ≡ length xs
equals_at [] v none = refl
equals_at (x ∷ xs) v none = go (x == 61) refl (λ rest. equals_at xs v rest)
  where
    go : (b : Bool) → (x == 61) ≡ b → (has_byte 61 xs ≡ false → position_or_len is_equals (xs ++ 61 ∷ v) ≡ length xs)
        → position_or_len is_equals (x ∷ (xs ++ 61 ∷ v)) ≡ length (x ∷ xs)
    go true e rec =
        let yes : has_byte 61 (x ∷ xs) ≡ true = rw e refl in
        absurd (true≢false (sym yes ∙ none))
    go false e rec =
        let rest : has_byte 61 xs ≡ false = rw e at none in
        let tail = rec rest in
        rw e (omega (arith, tail))

or_right : (a b : Bool) → b ≡ true → (a || b) ≡ true
or_right true b e = refl
or_right false b e = e

has_equals : (xs v : Text) → has_byte 61 (xs ++ 61 ∷ v) ≡ true
has_equals [] v = refl
has_equals (x ∷ xs) v = or_right (x == 61) (has_byte 61 (xs ++ 61 ∷ v)) (has_equals xs v)

step_over : (x : ℕ) (xs : Text) (n : ℕ)
    → take (1 + n) (x ∷ xs) ++ 61 ∷ drop (1 + n + 1) (x ∷ xs) ≡ x ∷ (take n xs ++ 61 ∷ drop (n + 1) xs)
step_over x xs n =
    let a : 1 + n ≡ suc n = omega arith in
    let b : 1 + n + 1 ≡ suc (n + 1) = omega arith in
    λ i. take (a i) (x ∷ xs) ++ 61 ∷ drop (b i) (x ∷ xs)

joins_back : (t : Text) → has_byte 61 t ≡ true → t ≡ before_first is_equals t ++ 61 ∷ after_first is_equals t
joins_back [] has = absurd (true≢false (sym has))
joins_back (x ∷ xs) has = go (x == 61) refl (λ rest. joins_back xs rest)
  where
    go : (b : Bool) → (x == 61) ≡ b → (has_byte 61 xs ≡ true → xs ≡ before_first is_equals xs ++ 61 ∷ after_first is_equals xs)
        → x ∷ xs ≡ before_first is_equals (x ∷ xs) ++ 61 ∷ after_first is_equals (x ∷ xs)
    go true e rec = rw e (ap (λ (y : ℕ). y ∷ xs) (eqb-true x 61 e))
    go false e rec =
        let rest : has_byte 61 xs ≡ true = rw e at has in
        rw e (ap (λ (ys : Text). x ∷ ys) (rec rest) ∙ sym (step_over x xs (position_or_len is_equals xs)))

-- ---- `--x` and `--x=v`

cond_some : (b : Bool) (x y : Text) → cond b (Some x) None ≡ Some y → (b ≡ true) × (x ≡ y)
cond_some true x y e = (refl, ap (λ (o : Option Text). unwrap_or o x) e)
cond_some false x y e = absurd (none≢some y e)

cond_none : (b : Bool) (x : Text) → cond b (Some x) None ≡ None → b ≡ false
cond_none true x e = absurd (none≢some x (sym e))
cond_none false x e = refl

strip_is : (xs rest : Text) → strip_byte 45 xs ≡ Some rest → xs ≡ 45 ∷ rest
strip_is [] rest e = absurd (none≢some rest e)
strip_is (x ∷ xs) rest e = go (x == 45) refl e
  where
    go : (b : Bool) → (x == 45) ≡ b → cond b (Some xs) None ≡ Some rest → x ∷ xs ≡ 45 ∷ rest
    go b is e =
        let parts = cond_some b xs rest e in
        λ i. eqb-true x 45 (is ∙ parts.0) i ∷ parts.1 i

and_then : {A B : Type 0} (f : A → Option B) (o : Option A) (y : B) → option_and_then f o ≡ Some y → (x : A) × (o ≡ Some x) × (f x ≡ Some y)
and_then f None y e = absurd (none≢some y e)
and_then f (Some x) y e = (x, refl, e)

rest_is : (t : Text) (p : Text × Option Text) → long_of_rest t ≡ Some p → name_and_value t ≡ p
rest_is [] p e = absurd (none≢some p e)
rest_is (x ∷ xs) p e = ap (λ (o : Option (Text × Option Text)). unwrap_or o p) e

long_is : (word : Text) (p : Text × Option Text) → long_of word ≡ Some p → (t : Text) × (word ≡ 45 ∷ 45 ∷ t) × (name_and_value t ≡ p)
long_is word p e =
    let outer = and_then long_of_rest (option_and_then (strip_byte 45) (strip_byte 45 word)) p e in
    let inner = and_then (strip_byte 45) (strip_byte 45 word) outer.0 outer.1 in
    (outer.0, strip_is word inner.0 inner.1 ∙ ap (λ (t : Text). 45 ∷ t) (strip_is inner.0 outer.0 inner.2), rest_is outer.0 p outer.2)

pub joined_is : (word name text : Text) → long_of word ≡ Some (name, Some text) → word ≡ codes "--" ++ (name ++ (codes "=" ++ text))
joined_is word name text e =
    let long = long_is word (name, Some text) e in
    let t = long.0 in
    let front : before_first is_equals t ≡ name = ap (λ (p : Text × Option Text). p.0) long.2 in
    let back = cond_some (has_byte 61 t) (after_first is_equals t) text (ap (λ (p : Text × Option Text). p.1) long.2) in
    long.1 ∙ ap (λ (u : Text). 45 ∷ 45 ∷ u) (joins_back t back.0) ∙ (λ i. 45 ∷ 45 ∷ (front i ++ 61 ∷ back.1 i))

pub alone_is : (word name : Text) → long_of word ≡ Some (name, None) → word ≡ codes "--" ++ name
alone_is word name e =
    let long = long_is word (name, None) e in
    let t = long.0 in
    let front : before_first is_equals t ≡ name = ap (λ (p : Text × Option Text). p.0) long.2 in
    let none = cond_none (has_byte 61 t) (after_first is_equals t) (ap (λ (p : Text × Option Text). p.1) long.2) in
    let all : before_first is_equals t ≡ t = ap (λ (n : ℕ). take n t) (no_equals t none) ∙ take-length t in
    long.1 ∙ ap (λ (u : Text). 45 ∷ 45 ∷ u) (sym all ∙ front)

first_true : (a b : Bool) → (a && b) ≡ true → a ≡ true
first_true true b e = refl
first_true false b e = e

last_true : (a b : Bool) → (a && b) ≡ true → b ≡ true
last_true true b e = e
last_true false b e = absurd (true≢false (sym e))

not_true : (b : Bool) → not b ≡ true → b ≡ false
not_true false e = refl
not_true true e = absurd (true≢false (sym e))

name_no_equals : (name : Text) → is_name name ≡ true → has_byte 61 name ≡ false
name_no_equals name named = not_true _ (first_true _ _ (last_true _ _ named))

rest_of_name : (name back : Text) → is_name name ≡ true → long_of_rest (name ++ back) ≡ Some (name_and_value (name ++ back))
rest_of_name [] back named = absurd (true≢false (sym named))
rest_of_name (x ∷ xs) back named = refl

pub joined_reads : (name text : Text) → is_name name ≡ true → long_of (codes "--" ++ (name ++ (codes "=" ++ text))) ≡ Some (name, Some text)
joined_reads name text named =
    let t = name ++ 61 ∷ text in
    let at = equals_at name text (name_no_equals name named) in
    let front : before_first is_equals t ≡ name = ap (λ (n : ℕ). take n t) at ∙ take-append_seam name (61 ∷ text) in
    let back : after_first is_equals t ≡ text = ap (λ (n : ℕ). drop (n + 1) t) at ∙ drop-append-add name (61 ∷ text) 1 in
    rest_of_name name (61 ∷ text) named
    ∙ ap (λ (b : Bool). Some (before_first is_equals t, cond b (Some (after_first is_equals t)) None)) (has_equals name text)
    ∙ (λ i. Some (front i, Some (back i)))

pub alone_reads : (name : Text) → is_name name ≡ true → long_of (codes "--" ++ name) ≡ Some (name, None)
alone_reads [] named = absurd (true≢false (sym named))
alone_reads (x ∷ xs) named =
    let name = x ∷ xs in
    let none = name_no_equals name named in
    let all : before_first is_equals name ≡ name = ap (λ (n : ℕ). take n name) (no_equals name none) ∙ take-length name in
    ap (λ (b : Bool). Some (before_first is_equals name, cond b (Some (after_first is_equals name)) None)) none
    ∙ (λ i. Some (all i, None))

pub no_dashes : (name back : Text) → is_name name ≡ true → bytes_eq (codes "--" ++ (name ++ back)) (codes "--") ≡ false
no_dashes [] back named = absurd (true≢false (sym named))
no_dashes (x ∷ xs) back named = refuted (45 ∷ 45 ∷ x ∷ (xs ++ back)) (codes "--") (λ e. absurd (cc e))

-- ---- an operand

pub operand_reads : (word : Text) → IsOperand word → (bytes_eq word (codes "--") ≡ false) × (long_of word ≡ None) × (short_of word ≡ None)
operand_reads [] operand = (refl, refl, refl)
operand_reads (x ∷ []) operand = (refuted (x ∷ []) (codes "--") (λ e. absurd (cc e)), go (x == 45), more (x == 45))
  where
    go : (b : Bool) → option_and_then long_of_rest (option_and_then (strip_byte 45) (cond b (Some []) None)) ≡ None
    go true = refl
    go false = refl

    more : (b : Bool) → option_and_then short_of_rest (cond b (Some []) None) ≡ None
    more true = refl
    more false = refl
operand_reads (x ∷ y ∷ rest) (inl short) = absurd (omega arith)
operand_reads (x ∷ y ∷ rest) (inr begun) = go (x == 45) refl
  where
    go : (b : Bool) → (x == 45) ≡ b
        → (bytes_eq (x ∷ y ∷ rest) (codes "--") ≡ false) × (long_of (x ∷ y ∷ rest) ≡ None) × (short_of (x ∷ y ∷ rest) ≡ None)
    go true e = absurd (begun (eqb-true x 45 e))
    go false e = (refuted (x ∷ y ∷ rest) (codes "--") (λ same. begun (ap (λ (t : Text). slice_index t 0) same)), rw e refl, rw e refl)

dashes_go : (y : ℕ) (rest : Text) (b : Bool) → (y == 45) ≡ b → bytes_eq (45 ∷ y ∷ rest) (codes "--") ≡ false
    → option_and_then long_of_rest (cond b (Some rest) None) ≡ None → cond b None (Some (y ∷ rest)) ≡ None → ⊥
dashes_go y rest false e other long short = none≢some (y ∷ rest) (sym short)
dashes_go y (z ∷ rest) true e other long short = none≢some (name_and_value (z ∷ rest)) (sym long)
dashes_go y [] true e other long short =
    let same : 45 ∷ y ∷ [] ≡ codes "--" = ap (λ (n : ℕ). 45 ∷ n ∷ []) (eqb-true y 45 e) in
    true≢false (sym ((bytes_eq-Decides (45 ∷ y ∷ []) (codes "--")).1 same) ∙ other)

pub operand_is : (word : Text) → bytes_eq word (codes "--") ≡ false → long_of word ≡ None → short_of word ≡ None → IsOperand word
operand_is [] other long short = inl (omega arith)
operand_is (x ∷ []) other long short = inl (omega arith)
operand_is (x ∷ y ∷ rest) other long short = inr (λ (dash : x ≡ 45). go x dash other long short)
  where
    go : (x : ℕ) → x ≡ 45 → bytes_eq (x ∷ y ∷ rest) (codes "--") ≡ false → long_of (x ∷ y ∷ rest) ≡ None → short_of (x ∷ y ∷ rest) ≡ None → ⊥
    go x dash other long short =
        let a = rw dash at other in
        let b = rw dash at long in
        let d = rw dash at short in
        dashes_go y rest (y == 45) refl a b d

-- ---- one of the options

pub one_of-from : (name : Text) (options : List Text) → is_one_of name options ≡ true → IsOneOf name options
one_of-from name [] one = absurd (true≢false (sym one))
one_of-from name (x ∷ xs) one = go (bytes_eq x name) refl (λ rest. one_of-from name xs rest)
  where
    go : (b : Bool) → bytes_eq x name ≡ b → (is_one_of name xs ≡ true → IsOneOf name xs) → IsOneOf name (x ∷ xs)
    go true e rec = inl (sym ((bytes_eq-Decides x name).0 e))
    go false e rec =
        let rest : is_one_of name xs ≡ true = rw e at one in
        inr (rec rest)

pub one_of-to : (name : Text) (options : List Text) → IsOneOf name options → is_one_of name options ≡ true
one_of-to name [] one = elim one [ ]
one_of-to name (x ∷ xs) (inl same) =
    let yes : bytes_eq x name ≡ true = (bytes_eq-Decides x name).1 (sym same) in
    rw yes refl
one_of-to name (x ∷ xs) (inr rest) = or_right (bytes_eq x name) (is_one_of name xs) (one_of-to name xs rest)
