-- Sums over views, notes, and lists after a write.
use Rattle.std.proofs.Common.{◌≡◌, ◌≢◌, ◌⊎◌, inl, inr, ⊎_elim, ℕ, ◌+◌, ◌<◌, ◌≤◌, Bool, true, false, List, [], ◌∷◌, ◌++◌, length, get_or, set, refl, ap, sym, ◌∙◌, subst, arith}
use Rattle.std.specs.Prelude.{if◌then◌else◌}
use Rattle.std.proofs.lemmas.List.{length-set, get_or-set_same, get_or-set_other, get_or_past}
use Rattle.std.proofs.lemmas.List.Sums.{sum_by-set, sum_by-cons, sum_by-append, get_or-le-sum_by}
use Rattle.std.proofs.lemmas.Bool.{cases_eq, cases_lt}
use Rattle.std.proofs.lemmas.Bool.Decides.{nat_tests}
use Rattle.std.specs.Prelude.{Some, None}
use Rattle.plain_protocol.specs.plain_state.declared.slot.SlotId.{SlotId}
use Rattle.plain_protocol.proofs.Below.plain_state_Kit.{cases_slot}
use Rattle.map_law.specs.Views.{Raw, View, gone, view_at, raw_one, raw_times, total, fresh, In, Each, is_raw, without}

pub cases_id : (s r : SlotId) → (s ≡ r) ⊎ (s ≢ r)
cases_id s r = ⊎_elim (λ (e : s ≡ r). inl e) (λ (ne : s.0 ≢ r.0). inr (λ e. ne (ap (λ (x : SlotId). x.0) e)))
    (cases_slot s r)

pub number_other : (s r : SlotId) → s ≢ r → s.0 ≢ r.0
number_other s r other = ⊎_elim (λ (e : s ≡ r). absurd (other e)) (λ (ne : s.0 ≢ r.0). ne) (cases_slot s r)

pub number_same : (s r : SlotId) → s.0 ≡ r.0 → s ≡ r
number_same s r same = ⊎_elim (λ (e : s ≡ r). e) (λ (ne : s.0 ≢ r.0). absurd (ne same)) (cases_slot s r)

pub some_same : {A : Type 0} (a b : A) → Some a ≡ Some b → a ≡ b
some_same a b e = cc

pub none_some : {A : Type 0} (a : A) → None ≡ Some a → ⊥
none_some a e = cc

pub total_set : (f : View → ℕ) (vs : List View) (n : ℕ) (v : View) → n < length vs
    → total f (set vs n v) + f (get_or vs n gone) ≡ total f vs + f v
unfolding total
total_set f vs n v h = sum_by-set f vs n v gone h

pub total_at : (f : View → ℕ) (vs : List View) (n : ℕ) → n < length vs → f (get_or vs n gone) ≤ total f vs
unfolding total
total_at f vs n h = get_or-le-sum_by f vs n gone h

pub raw_none : (s : SlotId) (l : ℕ) → raw_times s l [] ≡ 0
unfolding raw_times
raw_none s l = refl

pub raw_cons : (s : SlotId) (l : ℕ) (e : Raw) (es : List Raw)
    → raw_times s l (e ∷ es) ≡ raw_one s l e + raw_times s l es
unfolding raw_times
raw_cons s l e es = sum_by-cons (raw_one s l) e es

pub raw_append : (s : SlotId) (l : ℕ) (es fs : List Raw) → raw_times s l (es ++ fs)
    ≡ raw_times s l es + raw_times s l fs
unfolding raw_times
raw_append s l es fs = sum_by-append (raw_one s l) es fs

pub raw_same : (s : SlotId) (l : ℕ) (e : Raw) → e.slot ≡ s → e.life ≡ l → raw_one s l e ≡ 1
unfolding raw_one
raw_same s l e a b = let c : e.slot.0 ≡ s.0 = ap (λ (x : SlotId). x.0) a in grind (arith, nat_tests)

pub raw_other : (s : SlotId) (l : ℕ) (e : Raw) → e.slot ≢ s → raw_one s l e ≡ 0
unfolding raw_one
raw_other s l e a = let c : e.slot.0 ≢ s.0 = number_other e.slot s a in grind (arith, nat_tests)

pub raw_later : (s : SlotId) (l : ℕ) (e : Raw) → e.life ≢ l → raw_one s l e ≡ 0
unfolding raw_one
raw_later s l e a = grind (arith, nat_tests)

pub raw_is : (s : SlotId) (l : ℕ) (e : Raw) → is_raw s l e ≡ true → raw_one s l e ≡ 1
unfolding raw_one
raw_is s l e a = rw a refl

pub raw_isnt : (s : SlotId) (l : ℕ) (e : Raw) → is_raw s l e ≡ false → raw_one s l e ≡ 0
unfolding raw_one
raw_isnt s l e a = rw a refl

-- the same slot and life, whatever else
pub raw_like : (s : SlotId) (l : ℕ) (e f : Raw) → f.slot ≡ e.slot → f.life ≡ e.life → raw_one s l f ≡ raw_one s l e
unfolding raw_one
raw_like s l e f a b = rw a rw b refl

pub raw_at : (s : SlotId) (l : ℕ) (e : Raw) → is_raw s l e ≡ true → (e.slot ≡ s) × (e.life ≡ l)
raw_at s l e a = let n : e.slot.0 ≡ s.0 = grind (arith, nat_tests) in let b : e.slot ≡ s = number_same e.slot s n in
    let c : e.life ≡ l = grind (arith, nat_tests) in (b, c)

-- none of the notes is left
pub gone_same : (s : SlotId) (l : ℕ) (es : List Raw) → raw_times s l (without s l es) ≡ 0
gone_same s l [] = raw_none s l
gone_same s l (e ∷ es) = go (is_raw s l e) refl (gone_same s l es)
  where
    go : (b : Bool) → is_raw s l e ≡ b → raw_times s l (without s l es) ≡ 0
        → raw_times s l (if b then without s l es else e ∷ without s l es) ≡ 0
    go true is h = h
    go false is h = let c = raw_cons s l e (without s l es) in let d = raw_isnt s l e is in omega arith

pub gone_fewer : (s : SlotId) (l : ℕ) (r : SlotId) (k : ℕ) (es : List Raw)
    → raw_times r k (without s l es) ≤ raw_times r k es
gone_fewer s l r k [] = omega arith
gone_fewer s l r k (e ∷ es) = go (is_raw s l e) refl (gone_fewer s l r k es)
  where
    go : (b : Bool) → is_raw s l e ≡ b → raw_times r k (without s l es) ≤ raw_times r k es
        → raw_times r k (if b then without s l es else e ∷ without s l es) ≤ raw_times r k (e ∷ es)
    go true is i = let c = raw_cons r k e es in omega arith
    go false is i = let c = raw_cons r k e es in let d = raw_cons r k e (without s l es) in omega arith

pub each_without : (P : Raw → Type 0) (s : SlotId) (l : ℕ) (es : List Raw) → Each P es → Each P (without s l es)
each_without P s l [] h = tt
each_without P s l (e ∷ es) h = go (is_raw s l e) (each_without P s l es h.1)
  where
    go : (b : Bool) → Each P (without s l es) → Each P (if b then without s l es else e ∷ without s l es)
    go true k = k
    go false k = (h.0, k)

pub each_map : {A : Type 0} (P Q : A → Type 0) → ((x : A) → P x → Q x) → (xs : List A) → Each P xs → Each Q xs
each_map P Q f [] h = tt
each_map P Q f (x ∷ xs) h = (f x h.0, each_map P Q f xs h.1)

-- the same, with what is known of a member
pub each_known : {A : Type 0} (P Q : A → Type 0) (xs : List A) → ((x : A) → In x xs → P x → Q x) → Each P xs
    → Each Q xs
each_known P Q [] f h = tt
each_known P Q (x ∷ xs) f h = (f x (inl refl) h.0, each_known P Q xs (λ y i. f y (inr i)) h.1)

pub each_append : {A : Type 0} (P : A → Type 0) (xs ys : List A) → Each P xs → Each P ys → Each P (xs ++ ys)
each_append P [] ys h k = k
each_append P (x ∷ xs) ys h k = (h.0, each_append P xs ys h.1 k)

pub each_in : {A : Type 0} (P : A → Type 0) (x : A) (xs : List A) → In x xs → Each P xs → P x
each_in P x [] i h = absurd i
each_in P x (y ∷ ys) i h = ⊎_elim (λ (e : x ≡ y). subst P (sym e) h.0) (λ (j : In x ys). each_in P x ys j h.1) i

pub in_times : (s : SlotId) (l : ℕ) (e : Raw) (es : List Raw) → e.slot ≡ s → e.life ≡ l → In e es
    → 0 < raw_times s l es
in_times s l e [] a b i = absurd i
in_times s l e (f ∷ es) a b i =
    let c = raw_cons s l f es in
    ⊎_elim
    (λ (h : e ≡ f). let d = raw_same s l f (ap (λ (x : Raw). x.slot) (sym h) ∙ a) (ap (λ (x : Raw). x.life) (sym h)
    ∙ b) in omega arith)
    (λ (j : In e es). let d = in_times s l e es a b j in omega arith)
    i

-- of two views
pub total_both : (f : View → ℕ) (vs : List View) (n m : ℕ) → f gone ≡ 0 → n < length vs → m < length vs → m ≢ n
    → f (view_at vs n) + f (view_at vs m) ≤ total f vs
total_both f vs n m none hn hm ne =
    let a = total_set f vs n gone hn in
    let l = length-set vs n gone in
    let b = total_at f (set vs n gone) m (omega arith) in
    let c = ap f (get_or-set_other vs n m gone gone ne) in omega arith

-- what holds of each view after one has changed
pub at_view : (views : List View) (n : ℕ) (w : View) (P : View → Type 0) → n < length views → P w
    → ((m : ℕ) → m ≢ n → P (view_at views m)) → (m : ℕ) → P (view_at (set views n w) m)
at_view views n w P here new old m =
    ⊎_elim
    (λ (e : m ≡ n). subst P (sym (ap (λ (j : ℕ). view_at (set views n w) j) e ∙ get_or-set_same views n w gone here))
    new)
    (λ (ne : m ≢ n). subst P (sym (get_or-set_other views n m w gone ne)) (old m ne))
    (cases_eq m n)

pub view_here : (views : List View) (n : ℕ) (w : View) → n < length views → view_at (set views n w) n ≡ w
view_here views n w h = get_or-set_same views n w gone h

pub view_else : (views : List View) (n m : ℕ) (w : View) → m ≢ n → view_at (set views n w) m ≡ view_at views m
view_else views n m w ne = get_or-set_other views n m w gone ne

pub fresh_set : (views : List View) (n : ℕ) (w : View) (s : SlotId) (l : ℕ) → n < length views
    → fresh (set views n w) s l + raw_times s l (view_at views n).raw ≡ fresh views s l + raw_times s l w.raw
fresh_set views n w s l h = total_set (λ (v : View). raw_times s l v.raw) views n w h

pub fresh_at : (views : List View) (n : ℕ) (s : SlotId) (l : ℕ) → n < length views
    → raw_times s l (view_at views n).raw ≤ fresh views s l
fresh_at views n s l h = total_at (λ (v : View). raw_times s l v.raw) views n h

-- a note of any view is counted
pub in_fresh : (views : List View) (m : ℕ) (e : Raw) (s : SlotId) (l : ℕ) → e.slot ≡ s → e.life ≡ l
    → In e (view_at views m).raw → 0 < fresh views s l
in_fresh views m e s l a b i =
    ⊎_elim
    (λ (h : m < length views). let t = in_times s l e (view_at views m).raw a b i in
    let f = fresh_at views m s l h in omega arith)
    (λ past. absurd (subst (λ (v : View). In e v.raw) (get_or_past views m gone past) i))
    (cases_lt m (length views))
