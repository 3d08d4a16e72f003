-- Counts after a push, a removal and a write.
use Rattle.std.proofs.Common.{◌≡◌, ◌≢◌, ◌⊎◌, inl, inr, ⊎_elim, ℕ, zero, suc, ◌+◌, ◌<◌, ◌≤◌, Bool, true, false, List, [], ◌∷◌, ◌++◌, length, get_or, set, refl, ap, sym, arith}
use Rattle.std.specs.Prelude.{if◌then◌else◌, cond}
use Rattle.std.proofs.lemmas.List.{set_past}
use Rattle.std.proofs.lemmas.List.Sums.{sum_by-set, sum_by-cons, sum_by_push, sum_by-append, get_or-le-sum_by}
use Rattle.std.proofs.lemmas.Bool.{cases_eq, cases_lt}
use Rattle.std.proofs.lemmas.Bool.Decides.{nat_tests}
use Rattle.core_events.specs.plain_state.declared.slot.Kind.{Kind}
use Rattle.core_events.specs.plain_state.declared.slot.Kind.TheVariants.{Strong, Weak, Disposal}
use Rattle.core_events.specs.plain_state.declared.slot.SlotId.{SlotId}
use Rattle.core_events.specs.plain_state.Lists.{Entry, times, entry_times, is_slot, is_entry}
use Rattle.core_events.specs.declared.view.CoreView.{CoreView}
use Rattle.core_events.specs.declared.view.Note.{Note}
use Rattle.core_events.specs.declared.view.Note.TheVariants as note
use Rattle.core_events.specs.Views.{no_view, valid_of, without}
use Rattle.core_events.specs.Counts.{one, in_word, total, sum_below, noting, in_note}

pub slot_eq : (x s : SlotId) → x.0 ≡ s.0 → x ≡ s
slot_eq x s e = ap (λ (n : ℕ). record { 0 = n }) e

pub slot_cases : (x s : SlotId) → (x ≡ s) ⊎ (x.0 ≢ s.0)
slot_cases x s = ⊎_elim (λ e. inl (slot_eq x s e)) (λ ne. inr ne) (cases_eq x.0 s.0)

-- by what a test tells
pub by_test : {P : Type 0} (b : Bool) → (b ≡ true → P) → (b ≡ false → P) → P
by_test true holds fails = holds refl
by_test false holds fails = fails refl

-- a slot is s, or another one
pub by_slot : (s x : SlotId) (P : SlotId → Type 0) → P s → (x.0 ≢ s.0 → P x) → P x
by_slot s x P here there = ⊎_elim (λ (e : x ≡ s). rw e here) there (slot_cases x s)

pub one_same : (s x : SlotId) → x.0 ≡ s.0 → one s x ≡ 1
unfolding one
one_same s x e = grind (arith, nat_tests)

pub one_other : (s x : SlotId) → x.0 ≢ s.0 → one s x ≡ 0
unfolding one
one_other s x e = grind (arith, nat_tests)

pub times_none : (s : SlotId) → times s [] ≡ 0
unfolding times
times_none s = refl

pub times_cons : (s x : SlotId) (xs : List SlotId) → times s (x ∷ xs) ≡ one s x + times s xs
unfolding times one
times_cons s x xs = sum_by-cons (λ (y : SlotId). cond (is_slot s y) 1 0) x xs

pub times_push : (s x : SlotId) (xs : List SlotId) → times s (xs ++ x ∷ []) ≡ times s xs + one s x
unfolding times one
times_push s x xs = sum_by_push (λ (y : SlotId). cond (is_slot s y) 1 0) xs x

pub times_append : (s : SlotId) (xs ys : List SlotId) → times s (xs ++ ys) ≡ times s xs + times s ys
unfolding times
times_append s xs ys = sum_by-append (λ (y : SlotId). cond (is_slot s y) 1 0) xs ys

pub times_without : (s y : SlotId) (xs : List SlotId) → 0 < times y xs
    → times s (without y xs) + one s y ≡ times s xs
times_without s y [] h = let e = times_none y in absurd (omega arith)
times_without s y (x ∷ xs) h = go (is_slot y x) refl (times_without s y xs)
  where
    go : (b : Bool) → is_slot y x ≡ b
        → (0 < times y xs → times s (without y xs) + one s y ≡ times s xs)
        → times s (if b then xs else x ∷ without y xs) + one s y ≡ times s (x ∷ xs)
    go true is more =
        let same : x.0 ≡ y.0 = grind (arith, nat_tests) in
        let e = times_cons s x xs in
        let f : one s x ≡ one s y = ap (one s) (slot_eq x y same) in omega arith
    go false is more =
        let other : x.0 ≢ y.0 = grind (arith, nat_tests) in
        let none = one_other y x other in
        let c = times_cons y x xs in
        let ih = more (omega arith) in
        let e = times_cons s x xs in
        let f = times_cons s x (without y xs) in omega arith

-- n where the kinds are the same
abbrev pub kind_one : Kind → Kind → ℕ → ℕ
kind_one Strong Strong n = n
kind_one Weak Weak n = n
kind_one Disposal Disposal n = n
kind_one k j n = 0

-- 1 where the entry is (k, s)
abbrev pub entry_one : Kind → SlotId → Entry → ℕ
entry_one k s e = kind_one k e.0 (one s e.1)

entry_is : (k : Kind) (s : SlotId) (k' : Kind) (x : SlotId)
    → (if is_entry k s (k', x) then 1 else 0) ≡ entry_one k s (k', x)
unfolding one
entry_is k s k' x = grind arith

pub entry_none : (k : Kind) (s : SlotId) → entry_times k s [] ≡ 0
unfolding entry_times
entry_none k s = refl

pub entry_cons : (k : Kind) (s : SlotId) (e : Entry) (es : List Entry)
    → entry_times k s (e ∷ es) ≡ entry_one k s e + entry_times k s es
unfolding entry_times
entry_cons k s e es =
    let i = entry_is k s e.0 e.1 in
    let c = sum_by-cons (λ (y : Entry). cond (is_entry k s y) 1 0) e es in omega arith

pub entry_append : (k : Kind) (s : SlotId) (es fs : List Entry)
    → entry_times k s (es ++ fs) ≡ entry_times k s es + entry_times k s fs
unfolding entry_times
entry_append k s es fs = sum_by-append (λ (y : Entry). cond (is_entry k s y) 1 0) es fs

pub entry_push : (k : Kind) (s : SlotId) (es : List Entry) (e : Entry)
    → entry_times k s (es ++ e ∷ []) ≡ entry_times k s es + entry_one k s e
entry_push k s es e =
    let a = entry_append k s es (e ∷ []) in
    let c = entry_cons k s e [] in
    let n = entry_none k s in omega arith

pub total_set : (f : CoreView → ℕ) (vs : List CoreView) (n : ℕ) (v : CoreView) → n < length vs
    → total f (set vs n v) + f (get_or vs n no_view) ≡ total f vs + f v
unfolding total
total_set f vs n v h = sum_by-set f vs n v no_view h

pub total_at : (f : CoreView → ℕ) (vs : List CoreView) (n : ℕ) → n < length vs
    → f (get_or vs n no_view) ≤ total f vs
unfolding total
total_at f vs n h = get_or-le-sum_by f vs n no_view h

pub below_same : (n : ℕ) (f g : ℕ → ℕ) → ((i : ℕ) → i < n → g i ≡ f i)
    → sum_below n g ≡ sum_below n f
unfolding sum_below
below_same zero f g same = refl
below_same (suc n) f g same =
    let e = below_same n f g (λ i h. same i (omega arith)) in
    let l = same n (omega arith) in omega arith

pub below_but : (n k : ℕ) (f g : ℕ → ℕ) → k < n → ((i : ℕ) → i < n → i ≢ k → g i ≡ f i)
    → sum_below n g + f k ≡ sum_below n f + g k
unfolding sum_below
below_but zero k f g h same = absurd (omega arith)
below_but (suc n) k f g h same = ⊎_elim
    (λ e.
    let s = below_same n f g (λ i l. same i (omega arith) (omega arith)) in
    let p : f k ≡ f n = ap f e in
    let q : g k ≡ g n = ap g e in omega arith)
    (λ ne.
    let r = below_but n k f g (omega arith) (λ i l d. same i (omega arith) d) in
    let l = same n (omega arith) (λ e. ne (sym e)) in omega arith)
    (cases_eq k n)

pub below_at : (n k : ℕ) (f : ℕ → ℕ) → k < n → f k ≤ sum_below n f
unfolding sum_below
below_at zero k f h = absurd (omega arith)
below_at (suc n) k f h = ⊎_elim
    (λ e. let p : f k ≡ f n = ap f e in omega arith)
    (λ ne. let r = below_at n k f (omega arith) in omega arith)
    (cases_eq k n)

pub below_none : (n : ℕ) (f : ℕ → ℕ) → ((i : ℕ) → i < n → f i ≡ 0) → sum_below n f ≡ 0
unfolding sum_below
below_none zero f none = refl
below_none (suc n) f none =
    let r = below_none n f (λ i h. none i (omega arith)) in
    let l = none n (omega arith) in omega arith

pub in_word_slot : (s x : SlotId) → in_word s (x.0 + 1) ≡ one s x
unfolding in_word one
in_word_slot s x = grind (arith, nat_tests)

pub in_word_null : (s : SlotId) → in_word s 0 ≡ 0
unfolding in_word
in_word_null s = grind (arith, nat_tests)

pub in_word_same : (s : SlotId) (w : ℕ) → w ≡ s.0 + 1 → in_word s w ≡ 1
unfolding in_word
in_word_same s w e = grind (arith, nat_tests)

-- 1 where the note is valid for (k, s)
abbrev pub valid_one : Kind → SlotId → Note → ℕ
valid_one k s note.Idle = 0
valid_one k s (note.Announced k' x) = 0
valid_one k s (note.Valid k' x) = kind_one k k' (one s x)

pub valid_cons : (k : Kind) (s : SlotId) (n : Note) (ns : List Note)
    → entry_times k s (valid_of (n ∷ ns)) ≡ valid_one k s n + entry_times k s (valid_of ns)
valid_cons k s note.Idle ns = omega arith
valid_cons k s (note.Announced k' x) ns = omega arith
valid_cons k s (note.Valid k' x) ns = entry_cons k s (k', x) (valid_of ns)

-- a note that is written, if it is there
pub noting_set : (s : SlotId) (ns : List Note) (j : ℕ) (y : Note)
    → noting s (set ns j y) ≤ noting s ns + in_note s y
unfolding noting
noting_set s ns j y = ⊎_elim
    (λ h. let e = sum_by-set (in_note s) ns j y note.Idle h in omega arith)
    (λ le. let e = set_past ns j y le in rw e (omega arith))
    (cases_lt j (length ns))

pub noting_at : (s : SlotId) (ns : List Note) (j : ℕ) → j < length ns
    → in_note s (get_or ns j note.Idle) ≤ noting s ns
unfolding noting
noting_at s ns j h = get_or-le-sum_by (in_note s) ns j note.Idle h

noting_cons : (s : SlotId) (n : Note) (ns : List Note) → noting s (n ∷ ns) ≡ in_note s n
    + noting s ns
unfolding noting
noting_cons s n ns = sum_by-cons (in_note s) n ns

all_kinds : (k : Kind) (n : ℕ) → kind_one Strong k n + kind_one Weak k n + kind_one Disposal k n ≡ n
all_kinds k n = grind arith

-- what is under a snapshot is named by a note
pub valid_noted : (s : SlotId) (ns : List Note)
    → entry_times Strong s (valid_of ns) + entry_times Weak s (valid_of ns)
    + entry_times Disposal s (valid_of ns) ≤ noting s ns
valid_noted s [] =
    let a = entry_none Strong s in
    let b = entry_none Weak s in
    let c = entry_none Disposal s in omega arith
valid_noted s (note.Idle ∷ ns) =
    let r = valid_noted s ns in let c = noting_cons s note.Idle ns in omega arith
valid_noted s (note.Announced k x ∷ ns) =
    let r = valid_noted s ns in let c = noting_cons s (note.Announced k x) ns in omega arith
valid_noted s (note.Valid k x ∷ ns) =
    let r = valid_noted s ns in
    let c = noting_cons s (note.Valid k x) ns in
    let a = entry_cons Strong s (k, x) (valid_of ns) in
    let b = entry_cons Weak s (k, x) (valid_of ns) in
    let d = entry_cons Disposal s (k, x) (valid_of ns) in
    let t = all_kinds k (one s x) in omega arith
