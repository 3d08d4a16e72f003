-- No tree of a state is higher than the state has slots.
use Rattle.std.proofs.Common.{◌≡◌, ◌≢◌, inl, inr, ⊎_elim, ℕ, zero, suc, ◌<◌, ◌≤◌, Bool, true, false, List, [], ◌∷◌, length, refl, ap, sym, ◌∙◌, arith}
use Rattle.std.specs.Prelude.{Option, ◌⊎◌, ◌==◌, map, if◌then◌else◌, slice_index, slice_index_or}
use Rattle.std.proofs.lemmas.Bool.{cases_eq, cases_lt, eqb-true, eq-eqb, false≢true}
use Rattle.map_law.specs.plain_state.declared.slot.PlainSlot.{PlainSlot}
use Rattle.map_law.specs.plain_state.declared.slot.SlotId.{SlotId}
use Rattle.map_law.specs.plain_state.State.{Plain, new_slot, slot_at}
use Rattle.map_trees.specs.Trees.{Tree, leaf, node, Balanced, height}
use Rattle.map_law.specs.Nodes.{TreeAt}

-- a number is one of a list; and the list without it
abbrev IsIn : ℕ → List ℕ → Type 0
IsIn k [] = ⊥
IsIn k (n ∷ ns) = (k ≡ n) ⊎ IsIn k ns

abbrev others : ℕ → List ℕ → List ℕ
others k [] = []
others k (n ∷ ns) = if n == k then others k ns else n ∷ others k ns

keeps_others : (k j : ℕ) (ns : List ℕ) → j ≢ k → IsIn j ns → IsIn j (others k ns)
keeps_others k j [] apart in' = in'
keeps_others k j (n ∷ ns) apart in' = go (n == k) refl (keeps_others k j ns apart)
  where
    go : (b : Bool) → (n == k) ≡ b → (IsIn j ns → IsIn j (others k ns))
        → IsIn j (if b then others k ns else n ∷ others k ns)
    go true is more = ⊎_elim (λ (e : j ≡ n). absurd (apart (e ∙ eqb-true n k is))) more in'
    go false is more = ⊎_elim (λ (e : j ≡ n). inl e) (λ (i : IsIn j ns). inr (more i)) in'

shrinks : (k : ℕ) (ns : List ℕ) → length (others k ns) ≤ length ns
shrinks k [] = omega arith
shrinks k (n ∷ ns) = go (n == k) (shrinks k ns)
  where
    go : (b : Bool) → length (others k ns) ≤ length ns
        → length (if b then others k ns else n ∷ others k ns) ≤ suc (length ns)
    go true s = omega (arith, s)
    go false s = omega (arith, s)

loses_one : (k : ℕ) (ns : List ℕ) → IsIn k ns → length (others k ns) < length ns
loses_one k [] in' = absurd in'
loses_one k (n ∷ ns) in' = go (n == k) refl (loses_one k ns)
  where
    go : (b : Bool) → (n == k) ≡ b → (IsIn k ns → length (others k ns) < length ns)
        → length (if b then others k ns else n ∷ others k ns) < suc (length ns)
    go true is more = let s = shrinks k ns in omega (arith, s)
    go false is more = ⊎_elim
        (λ (e : k ≡ n). absurd (false≢true (sym is ∙ eq-eqb n k (sym e))))
        (λ (i : IsIn k ns). let s = more i in omega (arith, s)) in'

-- a list with all numbers from 1 to n is at least as long
holds_all : (n : ℕ) (ns : List ℕ) → ((k : ℕ) → 0 < k → k ≤ n → IsIn k ns) → n ≤ length ns
holds_all zero ns all = omega arith
holds_all (suc n) ns all =
    let less = loses_one (suc n) ns (all (suc n) (omega arith) (omega arith)) in
    let rest = holds_all n (others (suc n) ns) (λ k low high.
    keeps_others (suc n) k ns (λ (e : k ≡ suc n). absurd (omega (arith, high, e))) (all k low (omega (arith, high)))) in
    omega (arith, less, rest)

cases_le : (m n : ℕ) → (m ≤ n) ⊎ (n < m)
cases_le m n = ⊎_elim (λ (h : n < m). inr h) (λ (h : m ≤ n). inl h) (cases_lt n m)

-- the height word of a slot
abbrev pub height_word : PlainSlot → ℕ
height_word x = slice_index x.payload 3

there : (k i : ℕ) (xs : List PlainSlot) → 0 < k → height_word (slice_index_or xs i new_slot) ≡ k
    → IsIn k (map height_word xs)
there k i [] low is = absurd (omega (arith, low, is))
there k zero (x ∷ xs) low is = inl (sym is)
there k (suc i) (x ∷ xs) low is = inr (there k i xs low is)

long_as : (xs : List PlainSlot) → length (map height_word xs) ≡ length xs
long_as [] = refl
long_as (x ∷ xs) = ap suc (long_as xs)

-- a balanced tree has a node of each height up to its own
reaches : (p : Plain) (w : Option SlotId) (t : Tree) → TreeAt p w t → Balanced t → (k : ℕ) → 0 < k
    → k ≤ height t → (s : SlotId) × (height_word (slot_at p s) ≡ k)
reaches p w leaf at even k low high = absurd (omega (arith, low, high))
reaches p w (node key v h l r) at even k low high = ⊎_elim
    (λ (e : k ≡ h). (at.0, ap (λ (ns : List ℕ). slice_index ns 3) at.2 ∙ sym e))
    (λ (ne : k ≢ h). ⊎_elim
    (λ (le : k ≤ height l). reaches p (slot_at p at.0).first l at.3 even.3 k low le)
    (λ (gt : height l < k). reaches p (slot_at p at.0).second r at.4 even.4 k low
    (let e = even.0 in omega (arith, e, ne, gt, high)))
    (cases_le k (height l)))
    (cases_eq k h)

pub height_few : (p : Plain) (w : Option SlotId) (t : Tree) → TreeAt p w t → Balanced t → height t ≤ length p.slots
height_few p w t at even =
    let all = holds_all (height t) (map height_word p.slots) (λ k low high.
    let s = reaches p w t at even k low high in there k s.0.0 p.slots low s.1) in
    let long = long_as p.slots in omega (arith, all, long)
