-- What a split keeps and ejects, by numbers and by places.
use Rattle.std.proofs.Common.{◌≡◌, inl, inr, ⊎_elim, ℕ, ◌+◌, ◌-◌, ◌<◌, min, Bool, true, false, List, [], ◌∷◌, ◌++◌, length, refl, ap, sym, ◌∙◌, arith}
use Rattle.std.specs.Prelude.{if◌then◌else◌, ◌==◌, ◌&&◌, nat_lt}
use Rattle.std.proofs.lemmas.Bool.{cases_lt}
use Rattle.std.proofs.lemmas.List.Sums.{sum_by-cons}
use Rattle.std.proofs.lemmas.Bool.Decides.{nat_tests}
use Rattle.plain_state.specs.declared.slot.Kind.{Kind}
use Rattle.plain_state.specs.declared.slot.Kind.TheVariants.{Strong, Weak, Disposal}
use Rattle.plain_state.specs.declared.slot.SlotId.{SlotId}
use Rattle.plain_state.specs.Lists.{Entry, same_kind, is_entry, entry_times}
use Rattle.plain_state.specs.Ejection.{Announcements, left_after, kept, ejected, IsSublist}

same_kind_eq : (k l : Kind) → same_kind k l ≡ true → k ≡ l
same_kind_eq Strong Strong e = refl
same_kind_eq Strong Weak e = cc
same_kind_eq Strong Disposal e = cc
same_kind_eq Weak Strong e = cc
same_kind_eq Weak Weak e = refl
same_kind_eq Weak Disposal e = cc
same_kind_eq Disposal Strong e = cc
same_kind_eq Disposal Weak e = cc
same_kind_eq Disposal Disposal e = refl

-- two slots with one number are one slot
slot_eq : (s x : SlotId) → x.0 ≡ s.0 → s ≡ x
slot_eq s x e = let back : ℕ → SlotId = λ n. record { 0 = n } in sym (ap back e)

entry_eq : (k : Kind) (s : SlotId) (e : Entry) → is_entry k s e ≡ true → (k ≡ e.0) × (s ≡ e.1)
entry_eq k s e h = go (same_kind k e.0) refl h
  where
    go : (b : Bool) → same_kind k e.0 ≡ b → (b && (e.1.0 == s.0)) ≡ true → (k ≡ e.0) × (s ≡ e.1)
    go true is h = let number : e.1.0 ≡ s.0 = grind (arith, nat_tests) in (same_kind_eq k e.0 is, slot_eq s e.1 number)
    go false is h = absurd cc

-- equal entries are announced as often
announced_eq : (seen : Announcements) (k : Kind) (s : SlotId) (e : Entry) → is_entry k s e ≡ true → seen k s ≡ seen e.0 e.1
announced_eq seen k s e h =
    let both = entry_eq k s e h in
    ap (λ (l : Kind). seen l s) both.0 ∙ ap (λ (x : SlotId). seen e.0 x) both.1

times_none : (k : Kind) (s : SlotId) → entry_times k s [] ≡ 0
unfolding entry_times
times_none k s = refl

times_cons : (k : Kind) (s : SlotId) (e : Entry) (es : List Entry)
    → entry_times k s (e ∷ es) ≡ (if is_entry k s e then 1 else 0) + entry_times k s es
unfolding entry_times
times_cons k s e es = sum_by-cons (λ (x : Entry). if is_entry k s x then 1 else 0) e es

times_yes : (k : Kind) (s : SlotId) (e : Entry) (es : List Entry) → is_entry k s e ≡ true → entry_times k s (e ∷ es) ≡ entry_times k s es + 1
times_yes k s e es h =
    let c = times_cons k s e es in
    let one : ◌≡◌ {A = ℕ} (if is_entry k s e then 1 else 0) 1 = rw h refl in omega arith

times_no : (k : Kind) (s : SlotId) (e : Entry) (es : List Entry) → is_entry k s e ≡ false → entry_times k s (e ∷ es) ≡ entry_times k s es
times_no k s e es h =
    let c = times_cons k s e es in
    let none : ◌≡◌ {A = ℕ} (if is_entry k s e then 1 else 0) 0 = rw h refl in omega arith

left_after_yes : (seen : Announcements) (k : Kind) (s : SlotId) (e : Entry) → is_entry k s e ≡ true → left_after seen e k s ≡ seen k s - 1
left_after_yes seen k s e h = rw h refl

left_after_no : (seen : Announcements) (k : Kind) (s : SlotId) (e : Entry) → is_entry k s e ≡ false → left_after seen e k s ≡ seen k s
left_after_no seen k s e h = rw h refl

pub kept_times : (k : Kind) (s : SlotId) (es : List Entry) (seen : Announcements)
    → entry_times k s (kept es seen) ≡ min (entry_times k s es) (seen k s)
kept_times k s [] seen = let z = times_none k s in omega arith
kept_times k s (e ∷ es) seen = go (nat_lt 0 (seen e.0 e.1)) refl (is_entry k s e) refl (kept_times k s es)
  where
    go : (b : Bool) → nat_lt 0 (seen e.0 e.1) ≡ b → (c : Bool) → is_entry k s e ≡ c
        → ((x : Announcements) → entry_times k s (kept es x) ≡ min (entry_times k s es) (x k s))
        → entry_times k s (if b then e ∷ kept es (left_after seen e) else kept es seen)
        ≡ min (entry_times k s (e ∷ es)) (seen k s)
    go true more true same ih =
        let some_left : 0 < seen e.0 e.1 = grind (arith, nat_tests) in
        let here = announced_eq seen k s e same in
        let i = ih (left_after seen e) in
        let l = left_after_yes seen k s e same in
        let p = times_yes k s e (kept es (left_after seen e)) same in
        let q = times_yes k s e es same in omega arith
    go true more false other ih =
        let i = ih (left_after seen e) in
        let l = left_after_no seen k s e other in
        let p = times_no k s e (kept es (left_after seen e)) other in
        let q = times_no k s e es other in omega arith
    go false none true same ih =
        let none_left : seen e.0 e.1 ≡ 0 = grind (arith, nat_tests) in
        let here = announced_eq seen k s e same in
        let i = ih seen in omega arith
    go false none false other ih =
        let i = ih seen in
        let q = times_no k s e es other in omega arith

pub split_times : (k : Kind) (s : SlotId) (es : List Entry) (seen : Announcements)
    → entry_times k s (kept es seen) + entry_times k s (ejected es seen) ≡ entry_times k s es
split_times k s [] seen = let z = times_none k s in omega arith
split_times k s (e ∷ es) seen = go (nat_lt 0 (seen e.0 e.1)) (is_entry k s e) refl (split_times k s es)
  where
    go : (b c : Bool) → is_entry k s e ≡ c
        → ((x : Announcements) → entry_times k s (kept es x) + entry_times k s (ejected es x) ≡ entry_times k s es)
        → entry_times k s (if b then e ∷ kept es (left_after seen e) else kept es seen)
        + entry_times k s (if b then ejected es (left_after seen e) else e ∷ ejected es seen)
        ≡ entry_times k s (e ∷ es)
    go true true same ih =
        let i = ih (left_after seen e) in
        let p = times_yes k s e (kept es (left_after seen e)) same in
        let q = times_yes k s e es same in omega arith
    go true false other ih =
        let i = ih (left_after seen e) in
        let p = times_no k s e (kept es (left_after seen e)) other in
        let q = times_no k s e es other in omega arith
    go false true same ih =
        let i = ih seen in
        let p = times_yes k s e (ejected es seen) same in
        let q = times_yes k s e es same in omega arith
    go false false other ih =
        let i = ih seen in
        let p = times_no k s e (ejected es seen) other in
        let q = times_no k s e es other in omega arith

pub split_length : (es : List Entry) (seen : Announcements) → length (kept es seen) + length (ejected es seen) ≡ length es
split_length [] seen = refl
split_length (e ∷ es) seen = go (nat_lt 0 (seen e.0 e.1)) (split_length es)
  where
    go : (b : Bool) → ((x : Announcements) → length (kept es x) + length (ejected es x) ≡ length es)
        → length (if b then e ∷ kept es (left_after seen e) else kept es seen)
        + length (if b then ejected es (left_after seen e) else e ∷ ejected es seen)
        ≡ length (e ∷ es)
    go true ih = let i = ih (left_after seen e) in omega arith
    go false ih = let i = ih seen in omega arith

pub kept_in_order : (es : List Entry) (seen : Announcements) → IsSublist (kept es seen) es
kept_in_order [] seen = refl
kept_in_order (e ∷ es) seen = go (nat_lt 0 (seen e.0 e.1)) (kept_in_order es)
  where
    go : (b : Bool) → ((x : Announcements) → IsSublist (kept es x) es)
        → IsSublist (if b then e ∷ kept es (left_after seen e) else kept es seen) (e ∷ es)
    go true ih = inr (kept es (left_after seen e), refl, ih (left_after seen e))
    go false ih = inl (ih seen)

pub ejected_in_order : (es : List Entry) (seen : Announcements) → IsSublist (ejected es seen) es
ejected_in_order [] seen = refl
ejected_in_order (e ∷ es) seen = go (nat_lt 0 (seen e.0 e.1)) (ejected_in_order es)
  where
    go : (b : Bool) → ((x : Announcements) → IsSublist (ejected es x) es)
        → IsSublist (if b then ejected es (left_after seen e) else e ∷ ejected es seen) (e ∷ es)
    go true ih = inl (ih (left_after seen e))
    go false ih = inr (ejected es seen, refl, ih seen)

lt_same : (a b c d : ℕ) → (a < b → c < d) → (c < d → a < b) → nat_lt a b ≡ nat_lt c d
lt_same a b c d to back =
    ⊎_elim
    (λ h. let k = to h in grind (arith, nat_tests))
    (λ h. ⊎_elim (λ k. let i = back k in absurd (omega arith)) (λ k. grind (arith, nat_tests)) (cases_lt c d))
    (cases_lt a b)

-- whether e stays after x ∷ xs, where x is kept
stays_after_kept : (e x : Entry) (xs : List Entry) (seen : Announcements) → 0 < seen x.0 x.1
    → nat_lt (entry_times e.0 e.1 xs) (left_after seen x e.0 e.1) ≡ nat_lt (entry_times e.0 e.1 (x ∷ xs)) (seen e.0 e.1)
stays_after_kept e x xs seen h = go (is_entry e.0 e.1 x) refl
  where
    go : (c : Bool) → is_entry e.0 e.1 x ≡ c
        → nat_lt (entry_times e.0 e.1 xs) (left_after seen x e.0 e.1) ≡ nat_lt (entry_times e.0 e.1 (x ∷ xs)) (seen e.0 e.1)
    go true same =
        let here = announced_eq seen e.0 e.1 x same in
        let l = left_after_yes seen e.0 e.1 x same in
        let q = times_yes e.0 e.1 x xs same in
        lt_same _ _ _ _ (λ k. omega arith) (λ k. omega arith)
    go false other =
        let l = left_after_no seen e.0 e.1 x other in
        let q = times_no e.0 e.1 x xs other in
        lt_same _ _ _ _ (λ k. omega arith) (λ k. omega arith)

-- and where x is ejected
stays_after_ejected : (e x : Entry) (xs : List Entry) (seen : Announcements) → seen x.0 x.1 ≡ 0
    → nat_lt (entry_times e.0 e.1 xs) (seen e.0 e.1) ≡ nat_lt (entry_times e.0 e.1 (x ∷ xs)) (seen e.0 e.1)
stays_after_ejected e x xs seen h = go (is_entry e.0 e.1 x) refl
  where
    go : (c : Bool) → is_entry e.0 e.1 x ≡ c
        → nat_lt (entry_times e.0 e.1 xs) (seen e.0 e.1) ≡ nat_lt (entry_times e.0 e.1 (x ∷ xs)) (seen e.0 e.1)
    go true same =
        let here = announced_eq seen e.0 e.1 x same in
        lt_same _ _ _ _ (λ k. omega arith) (λ k. omega arith)
    go false other =
        let q = times_no e.0 e.1 x xs other in
        lt_same _ _ _ _ (λ k. omega arith) (λ k. omega arith)

cons_if_stays : (b : Bool) (x e : Entry) (ys : List Entry)
    → x ∷ (if b then ys ++ e ∷ [] else ys) ≡ (if b then (x ∷ ys) ++ e ∷ [] else x ∷ ys)
cons_if_stays true x e ys = refl
cons_if_stays false x e ys = refl

cons_if_goes : (b : Bool) (x e : Entry) (ys : List Entry)
    → x ∷ (if b then ys else ys ++ e ∷ []) ≡ (if b then x ∷ ys else (x ∷ ys) ++ e ∷ [])
cons_if_goes true x e ys = refl
cons_if_goes false x e ys = refl

pub kept_push : (e : Entry) (front : List Entry) (seen : Announcements)
    → kept (front ++ e ∷ []) seen
    ≡ (if nat_lt (entry_times e.0 e.1 front) (seen e.0 e.1) then kept front seen ++ e ∷ [] else kept front seen)
kept_push e [] seen = rw (times_none e.0 e.1) refl
kept_push e (x ∷ xs) seen = go (nat_lt 0 (seen x.0 x.1)) refl (kept_push e xs)
  where
    go : (b : Bool) → nat_lt 0 (seen x.0 x.1) ≡ b
        → ((y : Announcements) → kept (xs ++ e ∷ []) y
        ≡ (if nat_lt (entry_times e.0 e.1 xs) (y e.0 e.1) then kept xs y ++ e ∷ [] else kept xs y))
        → (if b then x ∷ kept (xs ++ e ∷ []) (left_after seen x) else kept (xs ++ e ∷ []) seen)
        ≡ (if nat_lt (entry_times e.0 e.1 (x ∷ xs)) (seen e.0 e.1) then (if b then x ∷ kept xs (left_after seen x) else kept xs seen) ++ e ∷ [] else (if b then x ∷ kept xs (left_after seen x) else kept xs seen))
    go true more ih =
        let some_left : 0 < seen x.0 x.1 = grind (arith, nat_tests) in
        let same = stays_after_kept e x xs seen some_left in
        rw (ih (left_after seen x), same) (cons_if_stays _ x e (kept xs (left_after seen x)))
    go false none ih =
        let none_left : seen x.0 x.1 ≡ 0 = grind (arith, nat_tests) in
        let same = stays_after_ejected e x xs seen none_left in
        rw (ih seen, same) refl

pub ejected_push : (e : Entry) (front : List Entry) (seen : Announcements)
    → ejected (front ++ e ∷ []) seen
    ≡ (if nat_lt (entry_times e.0 e.1 front) (seen e.0 e.1) then ejected front seen else ejected front seen ++ e ∷ [])
ejected_push e [] seen = rw (times_none e.0 e.1) refl
ejected_push e (x ∷ xs) seen = go (nat_lt 0 (seen x.0 x.1)) refl (ejected_push e xs)
  where
    go : (b : Bool) → nat_lt 0 (seen x.0 x.1) ≡ b
        → ((y : Announcements) → ejected (xs ++ e ∷ []) y
        ≡ (if nat_lt (entry_times e.0 e.1 xs) (y e.0 e.1) then ejected xs y else ejected xs y ++ e ∷ []))
        → (if b then ejected (xs ++ e ∷ []) (left_after seen x) else x ∷ ejected (xs ++ e ∷ []) seen)
        ≡ (if nat_lt (entry_times e.0 e.1 (x ∷ xs)) (seen e.0 e.1) then (if b then ejected xs (left_after seen x) else x ∷ ejected xs seen) else (if b then ejected xs (left_after seen x) else x ∷ ejected xs seen) ++ e ∷ [])
    go true more ih =
        let some_left : 0 < seen x.0 x.1 = grind (arith, nat_tests) in
        let same = stays_after_kept e x xs seen some_left in
        rw (ih (left_after seen x), same) refl
    go false none ih =
        let none_left : seen x.0 x.1 ≡ 0 = grind (arith, nat_tests) in
        let same = stays_after_ejected e x xs seen none_left in
        rw (ih seen, same) (cons_if_goes _ x e (ejected xs seen))

-- whether an entry stays is told by the kept entries in front of it
pub stays_by_kept : (e : Entry) (front : List Entry) (seen : Announcements)
    → nat_lt (entry_times e.0 e.1 (kept front seen)) (seen e.0 e.1)
    ≡ nat_lt (entry_times e.0 e.1 front) (seen e.0 e.1)
stays_by_kept e front seen =
    let t = kept_times e.0 e.1 front seen in
    lt_same _ _ _ _ (λ k. omega arith) (λ k. omega arith)
