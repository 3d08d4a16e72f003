-- Two slots change places, and sums over all slots stay where slots are renamed.
use Rattle.std.proofs.Common.{◌≡◌, ◌≢◌, ⊎_elim, ℕ, ◌+◌, ◌<◌, ◌≤◌, List, [], ◌∷◌, length, get_or, refl, ap, sym, ◌∙◌, subst, arith, suc, zero}
use Rattle.std.specs.Prelude.{◌==◌, if◌then◌else◌}
use Rattle.std.proofs.lemmas.Bool.Decides.{nat_tests}
use Rattle.std.proofs.lemmas.List.Sums.{sum_by-cons}
use Rattle.script_desk.specs.plain_state.declared.slot.SlotId.{SlotId}
use Rattle.script_desk.specs.plain_state.declared.slot.PlainSlot.{PlainSlot}
use Rattle.script_desk.specs.plain_state.References.{over_slots}
use Rattle.script_desk.specs.plain_state.State.{new_slot}
use Rattle.script_desk.proofs.Below.plain_state_Kit.{cases_slot}
use Rattle.script_desk.specs.heap_audit.Heaps.{slot}
use Rattle.script_law.specs.Renamings.{IsRenaming}

-- a and b change places
pub swapped : SlotId → SlotId → SlotId → SlotId
swapped a b s = if s.0 == a.0 then b else (if s.0 == b.0 then a else s)

swapped_at : (a b s : SlotId) → s.0 ≡ a.0 → swapped a b s ≡ b
unfolding swapped
swapped_at a b s e = grind (arith, nat_tests)

swapped_back_at : (a b s : SlotId) → s.0 ≢ a.0 → s.0 ≡ b.0 → swapped a b s ≡ a
unfolding swapped
swapped_back_at a b s ne e = grind (arith, nat_tests)

pub swapped_other : (a b s : SlotId) → s.0 ≢ a.0 → s.0 ≢ b.0 → swapped a b s ≡ s
unfolding swapped
swapped_other a b s na nb = grind (arith, nat_tests)

pub swapped_first : (a b : SlotId) → swapped a b a ≡ b
swapped_first a b = swapped_at a b a refl

pub swapped_second : (a b : SlotId) → swapped a b b ≡ a
swapped_second a b =
    ⊎_elim
    (λ (e : b ≡ a). swapped_at a b b (ap (λ (s : SlotId). s.0) e) ∙ e)
    (λ (ne : b.0 ≢ a.0). swapped_back_at a b b ne refl)
    (cases_slot b a)

swapped_twice : (a b s : SlotId) → swapped a b (swapped a b s) ≡ s
swapped_twice a b s =
    ⊎_elim
    (λ (e : s ≡ a). subst (λ (t : SlotId). swapped a b (swapped a b t) ≡ t) (sym e)
    (ap (swapped a b) (swapped_first a b) ∙ swapped_second a b))
    (λ (na : s.0 ≢ a.0). ⊎_elim
    (λ (e : s ≡ b). subst (λ (t : SlotId). swapped a b (swapped a b t) ≡ t) (sym e)
    (ap (swapped a b) (swapped_second a b) ∙ swapped_first a b))
    (λ (nb : s.0 ≢ b.0). let o = swapped_other a b s na nb in ap (swapped a b) o ∙ o)
    (cases_slot s b))
    (cases_slot s a)

swapped_inside : (n : ℕ) (a b s : SlotId) → a.0 < n → b.0 < n → s.0 < n → (swapped a b s).0 < n
unfolding swapped
swapped_inside n a b s ha hb hs = grind (arith, nat_tests)

pub swaps : (n : ℕ) (a b : SlotId) → a.0 < n → b.0 < n → IsRenaming n (swapped a b) (swapped a b)
swaps n a b ha hb = record {
  back = swapped_twice a b;
  forth = swapped_twice a b;
  inside = λ s hs. swapped_inside n a b s ha hb hs;
  inside_back = λ s hs. swapped_inside n a b s ha hb hs;
}

-- one renaming after another
pub then_renamed : (n : ℕ) (to from up down : SlotId → SlotId) → IsRenaming n to from
    → IsRenaming n up down → IsRenaming n (λ s. up (to s)) (λ s. from (down s))
then_renamed n to from up down r u = record {
  back = λ s. ap from (u.back (to s)) ∙ r.back s;
  forth = λ s. ap up (r.forth (down s)) ∙ u.forth s;
  inside = λ s hs. u.inside (to s) (r.inside s hs);
  inside_back = λ s hs. r.inside_back (down s) (u.inside_back s hs);
}

-- a number of each of the first n slots, added up
pub total : ℕ → (SlotId → ℕ) → ℕ
total zero f = 0
total (suc n) f = total n f + f (slot n)

pub total_zero : (f : SlotId → ℕ) → total 0 f ≡ 0
unfolding total
total_zero f = refl

pub total_more : (n : ℕ) (f : SlotId → ℕ) → total (suc n) f ≡ total n f + f (slot n)
unfolding total
total_more n f = refl

pub total_same : (n : ℕ) (f g : SlotId → ℕ) → ((s : SlotId) → s.0 < n → f s ≡ g s) → total n f ≡ total n g
total_same zero f g same = total_zero f ∙ sym (total_zero g)
total_same (suc n) f g same =
    let before = total_same n f g (λ s h. same s (omega arith)) in
    let last = same (slot n) (omega arith) in
    let a = total_more n f in
    let b = total_more n g in omega arith

-- what is added last may be added first
total_first : (n : ℕ) (f : SlotId → ℕ) → total (suc n) f ≡ f (slot 0) + total n (λ s. f (slot (suc s.0)))
total_first zero f = let a = total_more 0 f in let b = total_zero f in let c = total_zero (λ s. f (slot (suc s.0))) in omega arith
total_first (suc n) f =
    let a = total_more (suc n) f in
    let b = total_more n (λ s. f (slot (suc s.0))) in
    let c = total_first n f in omega arith

pub slots_total : (f : PlainSlot → ℕ) (xs : List PlainSlot)
    → over_slots f xs ≡ total (length xs) (λ s. f (get_or xs s.0 new_slot))
unfolding over_slots
slots_total f [] = sym (total_zero (λ s. f (get_or [] s.0 new_slot)))
slots_total f (x ∷ xs) =
    let a = sum_by-cons f x xs in
    let b = slots_total f xs in
    let c = total_first (length xs) (λ s. f (get_or (x ∷ xs) s.0 new_slot)) in omega arith

-- below both nothing changes; past the first of two that change places, one counts for the other
swap_below : (m : ℕ) (f : SlotId → ℕ) (a b : SlotId) → m ≤ a.0 → m ≤ b.0
    → total m (λ s. f (swapped a b s)) ≡ total m f
swap_below m f a b la lb =
    total_same m (λ s. f (swapped a b s)) f
    (λ s h. ap f (swapped_other a b s (λ e. omega arith) (λ e. omega arith)))

swap_between : (m : ℕ) (f : SlotId → ℕ) (a b : SlotId) → a.0 < m → m ≤ b.0
    → total m (λ s. f (swapped a b s)) + f a ≡ total m f + f b
swap_between zero f a b la lb = absurd (omega arith)
swap_between (suc m) f a b la lb =
    let g : SlotId → ℕ = λ s. f (swapped a b s) in
    let x = total_more m g in
    let y = total_more m f in
    ⊎_elim
    (λ (e : slot m ≡ a).
    let here : a.0 ≡ m = sym (ap (λ (s : SlotId). s.0) e) in
    let below = swap_below m f a b (omega arith) (omega arith) in
    let last : f (swapped a b (slot m)) ≡ f b = ap (λ s. f (swapped a b s)) e ∙ ap f (swapped_first a b) in
    let own : f (slot m) ≡ f a = ap f e in omega arith)
    (λ (ne : m ≢ a.0).
    let before = swap_between m f a b (omega arith) (omega arith) in
    let last : f (swapped a b (slot m)) ≡ f (slot m) = ap f (swapped_other a b (slot m) ne (λ e. omega arith)) in
    omega arith)
    (cases_slot (slot m) a)

total_swap : (n : ℕ) (f : SlotId → ℕ) (a : SlotId) → a.0 ≤ n
    → total (suc n) (λ s. f (swapped a (slot n) s)) ≡ total (suc n) f
total_swap n f a le =
    let g : SlotId → ℕ = λ s. f (swapped a (slot n) s) in
    let x = total_more n g in
    let y = total_more n f in
    let last : f (swapped a (slot n) (slot n)) ≡ f a = ap f (swapped_second a (slot n)) in
    ⊎_elim
    (λ (e : a ≡ slot n).
    let here : a.0 ≡ n = ap (λ (s : SlotId). s.0) e in
    let below = swap_below n f a (slot n) (omega arith) (omega arith) in
    let own : f a ≡ f (slot n) = ap f e in omega arith)
    (λ (ne : a.0 ≢ n).
    let between = swap_between n f a (slot n) (omega arith) (omega arith) in omega arith)
    (cases_slot a (slot n))

-- a renaming that leaves the last slot names the others among themselves
leaves_last : (n : ℕ) (to from : SlotId → SlotId) → IsRenaming (suc n) to from → to (slot n) ≡ slot n
    → IsRenaming n to from
leaves_last n to from r stays =
    let stays_back : from (slot n) ≡ slot n = ap from (sym stays) ∙ r.back (slot n) in record {
      back = r.back;
      forth = r.forth;
      inside = λ s hs. ⊎_elim
          (λ (e : to s ≡ slot n).
          let same : s ≡ slot n = sym (r.back s) ∙ ap from e ∙ stays_back in
          let number = ap (λ (t : SlotId). t.0) same in absurd (omega arith))
          (λ (ne : (to s).0 ≢ n). let h = r.inside s (omega arith) in omega arith)
          (cases_slot (to s) (slot n));
      inside_back = λ s hs. ⊎_elim
          (λ (e : from s ≡ slot n).
          let same : s ≡ slot n = sym (r.forth s) ∙ ap to e ∙ stays in
          let number = ap (λ (t : SlotId). t.0) same in absurd (omega arith))
          (λ (ne : (from s).0 ≢ n). let h = r.inside_back s (omega arith) in omega arith)
          (cases_slot (from s) (slot n));
    }

-- a sum over slots is that of the same numbers by the new names
pub total_renamed : (n : ℕ) (to from : SlotId → SlotId) (f g : SlotId → ℕ) → IsRenaming n to from
    → ((s : SlotId) → s.0 < n → g (to s) ≡ f s) → total n g ≡ total n f
total_renamed zero to from f g r same = total_zero g ∙ sym (total_zero f)
total_renamed (suc n) to from f g r same =
    let k = to (slot n) in
    let within : k.0 < suc n = r.inside (slot n) (omega arith) in
    let up = swapped k (slot n) in
    let g' : SlotId → ℕ = λ s. g (up s) in
    let to' : SlotId → SlotId = λ s. up (to s) in
    let from' : SlotId → SlotId = λ s. from (up s) in
    let r' : IsRenaming (suc n) to' from' =
    then_renamed (suc n) to from up up r (swaps (suc n) k (slot n) within (omega arith)) in
    let stays : to' (slot n) ≡ slot n = swapped_first k (slot n) in
    let each : (s : SlotId) → s.0 < suc n → g' (to' s) ≡ f s
    = λ s h. ap g (swapped_twice k (slot n) (to s)) ∙ same s h in
    let before = total_renamed n to' from' f g' (leaves_last n to' from' r' stays) (λ s h. each s (omega arith)) in
    let last : g' (slot n) ≡ f (slot n) = ap g' (sym stays) ∙ each (slot n) (omega arith) in
    let swap = total_swap n g k (omega arith) in
    let a = total_more n g' in
    let b = total_more n f in omega arith
