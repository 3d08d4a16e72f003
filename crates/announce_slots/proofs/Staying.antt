-- No more retired entries stay than there are words that announce them.
use Rattle.std.proofs.Common.{◌≡◌, ◌≢◌, ℕ, ◌+◌, ◌-◌, ◌<◌, ◌≤◌, Bool, true, false, List, [], ◌∷◌, length, refl, ap, arith}
use Rattle.std.specs.Prelude.{◌==◌, nat_lt, if◌then◌else◌}
use Rattle.std.proofs.lemmas.Bool.Decides.{nat_tests}
use Rattle.plain_state.specs.declared.slot.Kind.{Kind}
use Rattle.plain_state.specs.declared.slot.Kind.TheVariants.{Strong, Weak, Disposal}
use Rattle.plain_state.specs.declared.slot.SlotId.{SlotId}
use Rattle.plain_state.specs.Lists.{Entry, is_entry}
use Rattle.plain_state.specs.Ejection.{Announcements, kept, left_after}
use Rattle.announce_slots.specs.Words.{code}
use Rattle.announce_slots.specs.Seen.{seen_times, announced_in}
use Rattle.announce_slots.proofs.Counting.{word_one, word_same, word_other, seen_none, seen_cons}

-- the words without the first w
abbrev without_word : ℕ → List ℕ → List ℕ
without_word w [] = []
without_word w (x ∷ xs) = if x == w then xs else x ∷ without_word w xs

-- it is one word fewer, and one copy of w
without_one : (w y : ℕ) (xs : List ℕ) → 0 < seen_times y xs
    → (length (without_word y xs) + 1 ≡ length xs)
    × (seen_times w (without_word y xs) + word_one w y ≡ seen_times w xs)
without_one w y [] h = let e = seen_none y in absurd (omega arith)
without_one w y (x ∷ xs) h = go (x == y) refl (without_one w y xs)
  where
    go : (b : Bool) → (x == y) ≡ b
        → (0 < seen_times y xs → (length (without_word y xs) + 1 ≡ length xs)
        × (seen_times w (without_word y xs) + word_one w y ≡ seen_times w xs))
        → (length (if b then xs else x ∷ without_word y xs) + 1 ≡ length (x ∷ xs))
        × (seen_times w (if b then xs else x ∷ without_word y xs) + word_one w y
        ≡ seen_times w (x ∷ xs))
    go true is more =
        let same : x ≡ y = grind (arith, nat_tests) in
        let e = seen_cons w x xs in
        let f : word_one w x ≡ word_one w y = ap (word_one w) same in (omega arith, omega arith)
    go false is more =
        let other : x ≢ y = grind (arith, nat_tests) in
        let none = word_other y x other in
        let c = seen_cons y x xs in
        let ih = more (omega arith) in
        let l = ih.0 in
        let t = ih.1 in
        let e = seen_cons w x xs in
        let f = seen_cons w x (without_word y xs) in (omega arith, omega arith)

-- the words of two entries are equal exactly where the entries are
same_code : (k l : Kind) (s x : SlotId) → is_entry k s (l, x) ≡ true → code l x ≡ code k s
same_code Strong Strong s x h = grind (arith, nat_tests)
same_code Strong Weak s x h = cc
same_code Strong Disposal s x h = cc
same_code Weak Strong s x h = cc
same_code Weak Weak s x h = grind (arith, nat_tests)
same_code Weak Disposal s x h = cc
same_code Disposal Strong s x h = cc
same_code Disposal Weak s x h = cc
same_code Disposal Disposal s x h = grind (arith, nat_tests)

other_code : (k l : Kind) (s x : SlotId) → is_entry k s (l, x) ≡ false → code l x ≢ code k s
other_code Strong Strong s x h = grind (arith, nat_tests)
other_code Strong Weak s x h = omega arith
other_code Strong Disposal s x h = omega arith
other_code Weak Strong s x h = omega arith
other_code Weak Weak s x h = grind (arith, nat_tests)
other_code Weak Disposal s x h = omega arith
other_code Disposal Strong s x h = omega arith
other_code Disposal Weak s x h = omega arith
other_code Disposal Disposal s x h = grind (arith, nat_tests)

-- the words tell of each entry no fewer announcements
abbrev Bounds : List ℕ → Announcements → Type 0
Bounds words seen = (k : Kind) (s : SlotId) → seen k s ≤ seen_times (code k s) words

-- where an entry has used one, so do the words without it
bounds_left : (words : List ℕ) (seen : Announcements) (e : Entry) → Bounds words seen
    → 0 < seen e.0 e.1 → Bounds (without_word (code e.0 e.1) words) (left_after seen e)
bounds_left words seen e bounds some k s = go (is_entry k s e) refl
  where
    there : 0 < seen_times (code e.0 e.1) words
    there = let b = bounds e.0 e.1 in let h = some in omega arith

    go : (b : Bool) → is_entry k s e ≡ b
        → (if b then seen k s - 1 else seen k s)
        ≤ seen_times (code k s) (without_word (code e.0 e.1) words)
    go true is =
        let o = word_same (code k s) (code e.0 e.1) (same_code k e.0 s e.1 is) in
        let w = (without_one (code k s) (code e.0 e.1) words there).1 in
        let b = bounds k s in omega arith
    go false is =
        let o = word_other (code k s) (code e.0 e.1) (other_code k e.0 s e.1 is) in
        let w = (without_one (code k s) (code e.0 e.1) words there).1 in
        let b = bounds k s in omega arith

few_stay : (es : List Entry) (seen : Announcements) (words : List ℕ) → Bounds words seen
    → length (kept es seen) ≤ length words
few_stay [] seen words bounds = omega arith
few_stay (e ∷ es) seen words bounds = go (nat_lt 0 (seen e.0 e.1)) refl (few_stay es)
  where
    go : (b : Bool) → nat_lt 0 (seen e.0 e.1) ≡ b
        → ((x : Announcements) (ws : List ℕ) → Bounds ws x → length (kept es x) ≤ length ws)
        → length (if b then e ∷ kept es (left_after seen e) else kept es seen) ≤ length words
    go true is rest =
        let some : 0 < seen e.0 e.1 = grind (arith, nat_tests) in
        let there : 0 < seen_times (code e.0 e.1) words = let b = bounds e.0 e.1 in omega arith in
        let less = (without_one 0 (code e.0 e.1) words there).0 in
        let i = rest (left_after seen e) (without_word (code e.0 e.1) words)
        (bounds_left words seen e bounds some) in omega arith
    go false is rest = rest seen words bounds

pub few_kept : (es : List Entry) (words : List ℕ)
    → length (kept es (announced_in words)) ≤ length words
few_kept es words = few_stay es (announced_in words) words (λ k s. omega arith)
