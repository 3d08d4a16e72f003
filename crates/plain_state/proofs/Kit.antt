-- How often a slot stands in a list, after a push, a loss, a write.
-- Sums over seats and over slots.
use Rattle.std.proofs.Common.{◌≡◌, ◌≢◌, ◌⊎◌, inl, inr, ⊎_elim, ℕ, ◌+◌, ◌*◌, ◌<◌, ◌≤◌, List, [], ◌∷◌, ◌++◌, length, get_or, set, refl, ap, arith, Option, Some, None}
use Rattle.std.specs.Prelude.{replicate, if◌then◌else◌}
use Rattle.std.proofs.lemmas.List.Sums.{sum_by-set, sum_by-cons, sum_by-append, sum_by_push, get_or-le-sum_by}
use Rattle.std.proofs.lemmas.List.Folds.{sum_by-replicate}
use Rattle.std.proofs.lemmas.Bool.{cases_eq}
use Rattle.std.proofs.lemmas.Bool.Decides.{nat_tests}
use Rattle.plain_state.specs.declared.slot.Kind.{Kind}
use Rattle.plain_state.specs.declared.slot.Kind.TheVariants.{Strong, Weak, Disposal}
use Rattle.plain_state.specs.declared.slot.SlotId.{SlotId}
use Rattle.plain_state.specs.declared.slot.PlainSlot.{PlainSlot}
use Rattle.plain_state.specs.Lists.{Entry, is_slot, is_entry, holds, times, entry_times, cell_times, Loses}
use Rattle.plain_state.specs.State.{PlainSeat, new_seat, new_slot}
use Rattle.plain_state.specs.References.{held_in, over_seats, over_slots}

-- two slots are equal where their numbers are
pub slot_is : (x s : SlotId) → x.0 ≡ s.0 → x ≡ s
slot_is x s e = λ i. record { 0 = e i }

pub cases_slot : (x s : SlotId) → (x ≡ s) ⊎ (x.0 ≢ s.0)
cases_slot x s = ⊎_elim (λ e. inl (slot_is x s e)) (λ ne. inr ne) (cases_eq x.0 s.0)

pub none_or_some : (k : ℕ) → (k ≡ 0) ⊎ (0 < k)
none_or_some k = grind arith

pub none_by : (k : ℕ) → (0 < k → ⊥) → k ≡ 0
none_by k not_some = ⊎_elim (λ z. z) (λ h. absurd (not_some h)) (none_or_some k)

-- one reference: held_in s (Some x) is 1 where x is s, and else 0
pub held_none : (s : SlotId) → held_in s None ≡ 0
unfolding held_in
held_none s = refl

pub held_same : (s x : SlotId) → x.0 ≡ s.0 → held_in s (Some x) ≡ 1
unfolding held_in
held_same s x e = grind (arith, nat_tests)

pub held_self : (s : SlotId) → held_in s (Some s) ≡ 1
held_self s = held_same s s refl

pub held_other : (s x : SlotId) → x.0 ≢ s.0 → held_in s (Some x) ≡ 0
unfolding held_in
held_other s x e = grind (arith, nat_tests)

pub held_once : (s : SlotId) (place : Option SlotId) → held_in s place ≤ 1
held_once s None = let z = held_none s in omega arith
held_once s (Some x) =
    ⊎_elim
    (λ e. let o = held_same s x e in omega arith)
    (λ ne. let o = held_other s x ne in omega arith)
    (cases_eq x.0 s.0)

pub held_is : (s x : SlotId) → 0 < held_in s (Some x) → x ≡ s
held_is s x h =
    ⊎_elim
    (λ e. e)
    (λ ne. let o = held_other s x ne in absurd (omega arith))
    (cases_slot x s)

-- a list of slots
pub times_none : (s : SlotId) → times s [] ≡ 0
unfolding times
times_none s = refl

pub times_cons : (s x : SlotId) (xs : List SlotId)
    → times s (x ∷ xs) ≡ held_in s (Some x) + times s xs
unfolding times held_in
times_cons s x xs = sum_by-cons (λ (y : SlotId). if is_slot s y then 1 else 0) x xs

pub times_append : (s : SlotId) (xs ys : List SlotId) → times s (xs ++ ys) ≡ times s xs + times s ys
unfolding times
times_append s xs ys = sum_by-append (λ (y : SlotId). if is_slot s y then 1 else 0) xs ys

pub times_push : (s x : SlotId) (xs : List SlotId)
    → times s (xs ++ x ∷ []) ≡ times s xs + held_in s (Some x)
unfolding times held_in
times_push s x xs = sum_by_push (λ (y : SlotId). if is_slot s y then 1 else 0) xs x

pub times_split : (s x : SlotId) (front back : List SlotId)
    → times s (front ++ x ∷ back) ≡ times s (front ++ back) + held_in s (Some x)
times_split s x front back =
    let a = times_append s front (x ∷ back) in
    let b = times_append s front back in
    let c = times_cons s x back in omega arith

pub times_loses : (s x : SlotId) (xs ys : List SlotId) → Loses xs x ys
    → times s ys + held_in s (Some x) ≡ times s xs
times_loses s x xs ys l =
    let a = times_split s x l.0 l.1 in
    let b : times s xs ≡ times s (l.0 ++ x ∷ l.1) = ap (times s) l.2 in
    let c : times s ys ≡ times s (l.0 ++ l.1) = ap (times s) l.3 in omega arith

-- what a list loses is in it
pub times_lost : (x : SlotId) (xs ys : List SlotId) → Loses xs x ys → 0 < times x xs
times_lost x xs ys l = let a = times_loses x x xs ys l in let o = held_self x in omega arith

-- what is in it, it can lose
pub times_in : (s : SlotId) (xs : List SlotId) → 0 < times s xs → (ys : List SlotId) × Loses xs s ys
times_in s [] h = let z = times_none s in absurd (omega arith)
times_in s (x ∷ xs) h =
    ⊎_elim
    (λ (e : x ≡ s). (xs, ([], xs, ap (λ (y : SlotId). y ∷ xs) e, refl)))
    (λ (ne : x.0 ≢ s.0).
    let c = times_cons s x xs in
    let o = held_other s x ne in
    let r = times_in s xs (omega arith) in
    let l = r.1 in
    let more : List SlotId → List SlotId = λ ys. x ∷ ys in
    (x ∷ r.0, (x ∷ l.0, l.1, ap more l.2, ap more l.3)))
    (cases_slot x s)

-- a list of entries: entry_in k s e is 1 where e is (k, s), and else 0
abbrev pub of_kind : Kind → Kind → ℕ → ℕ
of_kind Strong Strong m = m
of_kind Weak Weak m = m
of_kind Disposal Disposal m = m
of_kind k j m = 0

abbrev pub entry_in : Kind → SlotId → Entry → ℕ
entry_in k s e = of_kind k e.0 (held_in s (Some e.1))

entry_counts : (k : Kind) (s : SlotId) (e : Entry)
    → (if is_entry k s e then 1 else 0) ≡ entry_in k s e
unfolding held_in
entry_counts Strong s (Strong, x) = refl
entry_counts Strong s (Weak, x) = refl
entry_counts Strong s (Disposal, x) = refl
entry_counts Weak s (Strong, x) = refl
entry_counts Weak s (Weak, x) = refl
entry_counts Weak s (Disposal, x) = refl
entry_counts Disposal s (Strong, x) = refl
entry_counts Disposal s (Weak, x) = refl
entry_counts Disposal s (Disposal, x) = refl

pub entry_self : (k : Kind) (s : SlotId) → entry_in k s (k, s) ≡ 1
entry_self Strong s = held_self s
entry_self Weak s = held_self s
entry_self Disposal s = held_self s

pub entry_other : (k : Kind) (s : SlotId) (e : Entry) → e.1.0 ≢ s.0 → entry_in k s e ≡ 0
entry_other Strong s (Strong, x) ne = held_other s x ne
entry_other Strong s (Weak, x) ne = refl
entry_other Strong s (Disposal, x) ne = refl
entry_other Weak s (Strong, x) ne = refl
entry_other Weak s (Weak, x) ne = held_other s x ne
entry_other Weak s (Disposal, x) ne = refl
entry_other Disposal s (Strong, x) ne = refl
entry_other Disposal s (Weak, x) ne = refl
entry_other Disposal s (Disposal, x) ne = held_other s x ne

-- an entry that counts is (k, s)
pub entry_is : (k : Kind) (s : SlotId) (e : Entry) → 0 < entry_in k s e → e ≡ (k, s)
entry_is Strong s (Strong, x) h = ap (λ (y : SlotId). (Strong, y)) (held_is s x h)
entry_is Strong s (Weak, x) h = absurd (omega arith)
entry_is Strong s (Disposal, x) h = absurd (omega arith)
entry_is Weak s (Strong, x) h = absurd (omega arith)
entry_is Weak s (Weak, x) h = ap (λ (y : SlotId). (Weak, y)) (held_is s x h)
entry_is Weak s (Disposal, x) h = absurd (omega arith)
entry_is Disposal s (Strong, x) h = absurd (omega arith)
entry_is Disposal s (Weak, x) h = absurd (omega arith)
entry_is Disposal s (Disposal, x) h = ap (λ (y : SlotId). (Disposal, y)) (held_is s x h)

pub entry_none : (k : Kind) (s : SlotId) → entry_times k s [] ≡ 0
unfolding entry_times
entry_none k s = refl

pub entry_cons : (k : Kind) (s : SlotId) (e : Entry) (es : List Entry)
    → entry_times k s (e ∷ es) ≡ entry_in k s e + entry_times k s es
unfolding entry_times
entry_cons k s e es =
    let a = sum_by-cons (λ (f : Entry). if is_entry k s f then 1 else 0) e es in
    let b = entry_counts k s e in omega arith

pub entry_append : (k : Kind) (s : SlotId) (es fs : List Entry)
    → entry_times k s (es ++ fs) ≡ entry_times k s es + entry_times k s fs
unfolding entry_times
entry_append k s es fs = sum_by-append (λ (f : Entry). if is_entry k s f then 1 else 0) es fs

pub entry_push : (k : Kind) (s : SlotId) (e : Entry) (es : List Entry)
    → entry_times k s (es ++ e ∷ []) ≡ entry_times k s es + entry_in k s e
entry_push k s e es =
    let a = entry_append k s es (e ∷ []) in
    let b = entry_cons k s e [] in
    let c = entry_none k s in omega arith

pub entry_split : (k : Kind) (s : SlotId) (e : Entry) (front back : List Entry)
    → entry_times k s (front ++ e ∷ back) ≡ entry_times k s (front ++ back) + entry_in k s e
entry_split k s e front back =
    let a = entry_append k s front (e ∷ back) in
    let b = entry_append k s front back in
    let c = entry_cons k s e back in omega arith

pub entry_loses : (k : Kind) (s : SlotId) (e : Entry) (es fs : List Entry) → Loses es e fs
    → entry_times k s fs + entry_in k s e ≡ entry_times k s es
entry_loses k s e es fs l =
    let a = entry_split k s e l.0 l.1 in
    let b : entry_times k s es ≡ entry_times k s (l.0 ++ e ∷ l.1) = ap (entry_times k s) l.2 in
    let c : entry_times k s fs ≡ entry_times k s (l.0 ++ l.1) = ap (entry_times k s) l.3 in
    omega arith

pub entry_lost : (k : Kind) (s : SlotId) (es fs : List Entry) → Loses es (k, s) fs
    → 0 < entry_times k s es
entry_lost k s es fs l =
    let a = entry_loses k s (k, s) es fs l in
    let o = entry_self k s in omega arith

-- what is in it, it can lose
pub entries_in : (k : Kind) (s : SlotId) (es : List Entry) → 0 < entry_times k s es
    → (fs : List Entry) × Loses es (k, s) fs
entries_in k s [] h = let z = entry_none k s in absurd (omega arith)
entries_in k s (e ∷ es) h =
    ⊎_elim
    (λ (z : entry_in k s e ≡ 0).
    let c = entry_cons k s e es in
    let r = entries_in k s es (omega arith) in
    let l = r.1 in
    let more : List Entry → List Entry = λ fs. e ∷ fs in
    (e ∷ r.0, (e ∷ l.0, l.1, ap more l.2, ap more l.3)))
    (λ (some : 0 < entry_in k s e).
    (es, ([], es, ap (λ (f : Entry). f ∷ es) (entry_is k s e some), refl)))
    (none_or_some (entry_in k s e))

-- cells
pub cells_none : (s : SlotId) → cell_times s [] ≡ 0
unfolding cell_times
cells_none s = refl

pub cells_append : (s : SlotId) (cs ds : List (Option SlotId))
    → cell_times s (cs ++ ds) ≡ cell_times s cs + cell_times s ds
unfolding cell_times
cells_append s cs ds = sum_by-append (λ (c : Option SlotId). if holds s c then 1 else 0) cs ds

pub cells_push : (s : SlotId) (c : Option SlotId) (cs : List (Option SlotId))
    → cell_times s (cs ++ c ∷ []) ≡ cell_times s cs + held_in s c
unfolding cell_times held_in
cells_push s c cs = sum_by_push (λ (d : Option SlotId). if holds s d then 1 else 0) cs c

pub cells_set : (s : SlotId) (cs : List (Option SlotId)) (i : ℕ) (new : Option SlotId)
    → i < length cs
    → cell_times s (set cs i new) + held_in s (get_or cs i None) ≡ cell_times s cs + held_in s new
unfolding cell_times held_in
cells_set s cs i new h =
    sum_by-set (λ (c : Option SlotId). if holds s c then 1 else 0) cs i new None h

pub cells_at : (s : SlotId) (cs : List (Option SlotId)) (i : ℕ) → i < length cs
    → held_in s (get_or cs i None) ≤ cell_times s cs
unfolding cell_times held_in
cells_at s cs i h = get_or-le-sum_by (λ (c : Option SlotId). if holds s c then 1 else 0) cs i None h

-- cells that hold null
pub cells_null : (s : SlotId) (n : ℕ) → cell_times s (replicate n None) ≡ 0
unfolding cell_times
cells_null s n =
    let e = sum_by-replicate (λ (c : Option SlotId). if holds s c then 1 else 0) n None in
    omega arith

-- sums over seats
pub seats_set : (f : PlainSeat → ℕ) (vs : List PlainSeat) (n : ℕ) (v : PlainSeat) → n < length vs
    → over_seats f (set vs n v) + f (get_or vs n new_seat) ≡ over_seats f vs + f v
unfolding over_seats
seats_set f vs n v h = sum_by-set f vs n v new_seat h

pub seats_at : (f : PlainSeat → ℕ) (vs : List PlainSeat) (n : ℕ) → n < length vs
    → f (get_or vs n new_seat) ≤ over_seats f vs
unfolding over_seats
seats_at f vs n h = get_or-le-sum_by f vs n new_seat h

pub seats_new : (f : PlainSeat → ℕ) (n : ℕ) → f new_seat ≡ 0
    → over_seats f (replicate n new_seat) ≡ 0
unfolding over_seats
seats_new f n z =
    let e = sum_by-replicate f n new_seat in
    let m : n * f new_seat ≡ n * 0 = ap (λ (k : ℕ). n * k) z in omega arith

-- sums over slots
pub slots_set : (f : PlainSlot → ℕ) (xs : List PlainSlot) (i : ℕ) (x : PlainSlot) → i < length xs
    → over_slots f (set xs i x) + f (get_or xs i new_slot) ≡ over_slots f xs + f x
unfolding over_slots
slots_set f xs i x h = sum_by-set f xs i x new_slot h

pub slots_at : (f : PlainSlot → ℕ) (xs : List PlainSlot) (i : ℕ) → i < length xs
    → f (get_or xs i new_slot) ≤ over_slots f xs
unfolding over_slots
slots_at f xs i h = get_or-le-sum_by f xs i new_slot h

pub slots_new : (f : PlainSlot → ℕ) (n : ℕ) → f new_slot ≡ 0
    → over_slots f (replicate n new_slot) ≡ 0
unfolding over_slots
slots_new f n z =
    let e = sum_by-replicate f n new_slot in
    let m : n * f new_slot ≡ n * 0 = ap (λ (k : ℕ). n * k) z in omega arith
