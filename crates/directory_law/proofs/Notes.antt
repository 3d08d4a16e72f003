-- Notes of lives: how many of a list are of one, and what is left without them.
use Rattle.std.proofs.Common.{◌≡◌, ◌≢◌, inl, inr, ⊎_elim, ℕ, ◌+◌, ◌<◌, ◌≤◌, Bool, true, false, List, [], ◌∷◌, ◌++◌, refl, ap, sym, ◌∙◌, subst, arith}
use Rattle.std.specs.Prelude.{if◌then◌else◌}
use Rattle.std.proofs.lemmas.List.Sums.{sum_by-cons, sum_by-append}
use Rattle.std.proofs.lemmas.Bool.{cases_eq}
use Rattle.std.proofs.lemmas.Bool.Decides.{nat_tests}
use Rattle.plain_protocol.specs.plain_state.declared.slot.SlotId.{SlotId}
use Rattle.directory_law.specs.Payloads.{Text}
use Rattle.directory_law.specs.Views.{Rope, rope, one_of, times_of, In, Each, is_of, without}
use Rattle.directory_law.proofs.Kit.{cases_id, number_other, number_same}

pub none_of : (s : SlotId) (l : ℕ) → times_of s l [] ≡ 0
unfolding times_of
none_of s l = refl

pub cons_of : (s : SlotId) (l : ℕ) (e : Rope) (es : List Rope)
    → times_of s l (e ∷ es) ≡ one_of s l e + times_of s l es
unfolding times_of
cons_of s l e es = sum_by-cons (one_of s l) e es

pub append_of : (s : SlotId) (l : ℕ) (es fs : List Rope)
    → times_of s l (es ++ fs) ≡ times_of s l es + times_of s l fs
unfolding times_of
append_of s l es fs = sum_by-append (one_of s l) es fs

pub one_same : (s : SlotId) (l : ℕ) (e : Rope) → e.slot ≡ s → e.life ≡ l → one_of s l e ≡ 1
unfolding one_of
one_same s l e a b = let c : e.slot.0 ≡ s.0 = ap (λ (x : SlotId). x.0) a in grind (arith, nat_tests)

pub one_other : (s : SlotId) (l : ℕ) (e : Rope) → e.slot ≢ s → one_of s l e ≡ 0
unfolding one_of
one_other s l e a = let c : e.slot.0 ≢ s.0 = number_other e.slot s a in grind (arith, nat_tests)

pub one_later : (s : SlotId) (l : ℕ) (e : Rope) → e.life ≢ l → one_of s l e ≡ 0
unfolding one_of
one_later s l e a = grind (arith, nat_tests)

pub one_is : (s : SlotId) (l : ℕ) (e : Rope) → is_of s l e ≡ true → one_of s l e ≡ 1
unfolding one_of
one_is s l e a = rw a refl

pub one_isnt : (s : SlotId) (l : ℕ) (e : Rope) → is_of s l e ≡ false → one_of s l e ≡ 0
unfolding one_of
one_isnt s l e a = rw a refl

pub is_of_at : (s : SlotId) (l : ℕ) (e : Rope) → is_of s l e ≡ true → (e.slot ≡ s) × (e.life ≡ l)
is_of_at s l e a =
    let n : e.slot.0 ≡ s.0 = grind (arith, nat_tests) in
    let b : e.slot ≡ s =
    number_same e.slot s n in let c : e.life ≡ l = grind (arith, nat_tests) in (b, c)

-- none of the notes is left
pub without_none : (s : SlotId) (l : ℕ) (es : List Rope) → times_of s l (without s l es) ≡ 0
without_none s l [] = none_of s l
without_none s l (e ∷ es) = go (is_of s l e) refl (without_none s l es)
  where
    go : (b : Bool) → is_of s l e ≡ b → times_of s l (without s l es) ≡ 0
        → times_of s l (if b then without s l es else e ∷ without s l es) ≡ 0
    go true is h = h
    go false is h =
        let c = cons_of s l e (without s l es) in
        let d = one_isnt s l e is in
        omega arith

-- notes of another slot or life stay
pub without_other : (s : SlotId) (l : ℕ) (r : SlotId) (k : ℕ) (es : List Rope)
    → ((r ≡ s) × (k ≡ l) → ⊥) → times_of r k (without s l es) ≡ times_of r k es
without_other s l r k [] h = refl
without_other s l r k (e ∷ es) h = go (is_of s l e) refl (without_other s l r k es h)
  where
    none : is_of s l e ≡ true → one_of r k e ≡ 0
    none is =
        let a = is_of_at s l e is in
        ⊎_elim
        (λ (x : e.slot ≡ r). ⊎_elim (λ (y : e.life ≡ k). absurd (h (sym x ∙ a.0, sym y ∙ a.1)))
        (λ (ne : e.life ≢ k). one_later r k e ne) (cases_eq e.life k))
        (λ (ne : e.slot ≢ r). one_other r k e ne)
        (cases_id e.slot r)

    go : (b : Bool) → is_of s l e ≡ b → times_of r k (without s l es) ≡ times_of r k es
        → times_of r k (if b then without s l es else e ∷ without s l es) ≡ times_of r k (e ∷ es)
    go true is i = let c = cons_of r k e es in let d = none is in omega arith
    go false is i =
        let c = cons_of r k e es in
        let d = cons_of r k e (without s l es) in
        omega arith

pub without_fewer : (s : SlotId) (l : ℕ) (r : SlotId) (k : ℕ) (es : List Rope)
    → times_of r k (without s l es) ≤ times_of r k es
without_fewer s l r k [] = omega arith
without_fewer s l r k (e ∷ es) = go (is_of s l e) refl (without_fewer s l r k es)
  where
    go : (b : Bool) → is_of s l e ≡ b → times_of r k (without s l es) ≤ times_of r k es
        → times_of r k (if b then without s l es else e ∷ without s l es) ≤ times_of r k (e ∷ es)
    go true is i = let c = cons_of r k e es in omega arith
    go false is i =
        let c = cons_of r k e es in
        let d = cons_of r k e (without s l es) in
        omega arith

-- what holds of each note
pub each_without : (P : Rope → Type 0) (s : SlotId) (l : ℕ) (es : List Rope) → Each P es
    → Each P (without s l es)
each_without P s l [] h = tt
each_without P s l (e ∷ es) h = go (is_of s l e) (each_without P s l es h.1)
  where
    go : (b : Bool) → Each P (without s l es)
        → Each P (if b then without s l es else e ∷ without s l es)
    go true k = k
    go false k = (h.0, k)

pub each_map : {A : Type 0} (P Q : A → Type 0) → ((x : A) → P x → Q x) → (xs : List A) → Each P xs
    → Each Q xs
each_map P Q f [] h = tt
each_map P Q f (x ∷ xs) h = (f x h.0, each_map P Q f xs h.1)

-- the same, with what is known of a member
pub each_known : {A : Type 0} (P Q : A → Type 0) (xs : List A) → ((x : A) → In x xs → P x → Q x)
    → Each P xs → Each Q xs
each_known P Q [] f h = tt
each_known P Q (x ∷ xs) f h = (f x (inl refl) h.0, each_known P Q xs (λ y i. f y (inr i)) h.1)

pub each_append : {A : Type 0} (P : A → Type 0) (xs ys : List A) → Each P xs → Each P ys
    → Each P (xs ++ ys)
each_append P [] ys h k = k
each_append P (x ∷ xs) ys h k = (h.0, each_append P xs ys h.1 k)

pub each_in : {A : Type 0} (P : A → Type 0) (x : A) (xs : List A) → In x xs → Each P xs → P x
each_in P x [] i h = absurd i
each_in P x (y ∷ ys) i h = ⊎_elim (λ (e : x ≡ y). subst P (sym e) h.0)
    (λ (j : In x ys). each_in P x ys j h.1) i

pub in_left : {A : Type 0} (x : A) (xs ys : List A) → In x xs → In x (xs ++ ys)
in_left x [] ys i = absurd i
in_left x (y ∷ xs) ys i = ⊎_elim (λ (e : x ≡ y). inl e) (λ (j : In x xs). inr (in_left x xs ys j)) i

pub in_right : {A : Type 0} (x : A) (xs ys : List A) → In x ys → In x (xs ++ ys)
in_right x [] ys i = i
in_right x (y ∷ xs) ys i = inr (in_right x xs ys i)

pub in_times : (s : SlotId) (l : ℕ) (e : Rope) (es : List Rope) → e.slot ≡ s → e.life ≡ l → In e es
    → 0 < times_of s l es
in_times s l e [] a b i = absurd i
in_times s l e (f ∷ es) a b i =
    let c = cons_of s l f es in
    ⊎_elim
    (λ (h : e ≡ f). let d = one_same s l f (ap (λ (x : Rope). x.slot) (sym h) ∙ a)
    (ap (λ (x : Rope). x.life) (sym h) ∙ b) in omega arith)
    (λ (j : In e es). let d = in_times s l e es a b j in omega arith)
    i

-- two notes of one life in a list that has only one are the same
pub one_note : (s : SlotId) (l : ℕ) (a b : Text) (es : List Rope) → times_of s l es ≤ 1
    → In (rope s l a) es → In (rope s l b) es → a ≡ b
one_note s l a b [] h i j = absurd i
one_note s l a b (f ∷ es) h i j =
    let c = cons_of s l f es in
    ⊎_elim
    (λ (x : rope s l a ≡ f).
    let d = one_same s l f (ap (λ (y : Rope). y.slot) (sym x))
    (ap (λ (y : Rope). y.life) (sym x)) in
    ⊎_elim
    (λ (y : rope s l b ≡ f). ap (λ (r : Rope). r.text) (x ∙ sym y))
    (λ (y : In (rope s l b) es). let e = in_times s l (rope s l b) es refl refl y in
    absurd (omega arith))
    j)
    (λ (x : In (rope s l a) es).
    let d = in_times s l (rope s l a) es refl refl x in
    ⊎_elim
    (λ (y : rope s l b ≡ f). let e =
    one_same s l f (ap (λ (y : Rope). y.slot) (sym y)) (ap (λ (y : Rope). y.life) (sym y)) in
    absurd (omega arith))
    (λ (y : In (rope s l b) es). one_note s l a b es (omega arith) x y)
    j)
    i
