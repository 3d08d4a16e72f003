-- An entry of the deferred list that is a surplus goes: what the store then keeps.
use Rattle.std.proofs.Common.{◌≡◌, ◌≢◌, ⊎_elim, ℕ, suc, ◌∷◌, drop-cons, ◌+◌, ◌<◌, ◌≤◌, List, [], ◌++◌, length, get_or, take, drop, refl, ap, sym, ◌∙◌, subst, arith, lit<}
use Rattle.std.specs.Prelude.{true, false, count_by, slice_index, if◌then◌else◌}
use Rattle.std.specs.List.{remove}
use Rattle.std.proofs.lemmas.List.{take-append-drop, length-take-le}
use Rattle.std.proofs.lemmas.List.Sums.{sum_by-take-le, sum_by_more, count_by_more_yes, count_by_more_no, count_by-le-length}
use Rattle.plain_state.specs.declared.slot.Kind.{Kind}
use Rattle.plain_state.specs.declared.slot.Kind.TheVariants.{Strong, Weak, Disposal}
use Rattle.plain_state.specs.declared.slot.SlotId.{SlotId}
use Rattle.plain_store.specs.declared.store.Store.{Store}
use Rattle.plain_state.specs.Lists.{Entry, is_entry, entry_times}
use Rattle.plain_state.specs.State.{Plain}
use Rattle.plain_state.specs.References.{held_in, strong_refs, weak_refs}
use Rattle.plain_store.specs.Stores.{plain_of, Tallied, Kept}
use Rattle.plain_store.specs.Draining.{SettlesFreely, IsCalm, fewer, AllNeeded}
use Rattle.plain_state.proofs.Kit.{none_or_some, slot_is, held_other, entry_in, entry_self, entry_is, entry_none, entry_loses}
use Rattle.plain_state.proofs.Changes.{seat_part}
use Rattle.plain_state.proofs.SeatRows.{is_there}
use Rattle.plain_store.proofs.SettlingSteps.{takes, takes_settles}
use Rattle.plain_store.proofs.SettlingRefs.{SameRefs, LosesRef, tallied_less, calm_same, takes_refs}
use Rattle.plain_store.proofs.SettlingStores.{seat_of}

pub counts_entry : (k : Kind) (s : SlotId) (e : Entry) → (if is_entry k s e then 1 else 0) ≡ entry_in k s e
unfolding held_in
counts_entry Strong s (Strong, x) = refl
counts_entry Strong s (Weak, x) = refl
counts_entry Strong s (Disposal, x) = refl
counts_entry Weak s (Strong, x) = refl
counts_entry Weak s (Weak, x) = refl
counts_entry Weak s (Disposal, x) = refl
counts_entry Disposal s (Strong, x) = refl
counts_entry Disposal s (Weak, x) = refl
counts_entry Disposal s (Disposal, x) = refl

-- 1 where e is (k, s)
abbrev one_at : Kind → SlotId → Entry → ℕ
one_at k s e = if is_entry k s e then 1 else 0

more_counts : (j : Kind) (t : SlotId) (es : List Entry) (i : ℕ) (e : Entry) → i < length es
    → entry_times j t (take (i + 1) es) ≡ entry_times j t (take i es) + one_at j t (get_or es i e)
unfolding entry_times
more_counts j t es i e lt = sum_by_more (one_at j t) es i e lt

counts_at : (j : Kind) (t : SlotId) (x e : Entry) → x ≡ e → one_at j t x ≡ entry_in j t e
counts_at j t x e is = ap (one_at j t) is ∙ counts_entry j t e

-- a list and one of its entries, which is removed
pub entry_stands : (es : List Entry) (at : ℕ) (e : Entry) → at < length es → get_or es at e ≡ e
    → es ≡ take at es ++ e ∷ drop (suc at) es
entry_stands es at e lt is =
    sym (take-append-drop at es)
    ∙ ap (λ (r : List Entry). take at es ++ r) (drop-cons es at e lt ∙ ap (λ (f : Entry). f ∷ drop (suc at) es) is)

entry_removed : (j : Kind) (t : SlotId) (es : List Entry) (at : ℕ) (e : Entry) → at < length es → get_or es at e ≡ e
    → entry_times j t (remove es at) + entry_in j t e ≡ entry_times j t es
entry_removed j t es at e lt is =
    entry_loses j t e es (remove es at) (take at es, drop (suc at) es, entry_stands es at e lt is, refl)

-- what one entry more adds
pub entry_more : (j : Kind) (t : SlotId) (es : List Entry) (i : ℕ) (e : Entry) → i < length es → get_or es i e ≡ e
    → entry_times j t (take (i + 1) es) ≡ entry_times j t (take i es) + entry_in j t e
entry_more j t es i e lt is =
    subst (λ (n : ℕ). entry_times j t (take (i + 1) es) ≡ entry_times j t (take i es) + n) (counts_at j t (get_or es i e) e is)
    (more_counts j t es i e lt)

pub entry_part : (j : Kind) (t : SlotId) (es : List Entry) (i : ℕ) → entry_times j t (take i es) ≤ entry_times j t es
unfolding entry_times
entry_part j t es i = sum_by-take-le (λ (f : Entry). if is_entry j t f then 1 else 0) es i

-- of an entry of another kind or slot there is none in e
pub other_refs : (k : Kind) (x : SlotId) (p q : Plain) (s : SlotId) → s.0 ≢ x.0 → LosesRef k x p q s → SameRefs p q s
other_refs Strong x p q s ne l = let o = held_other s x (λ r. ne (sym r)) in let a = l.0 in let b = l.1 in (omega arith, omega arith)
other_refs Disposal x p q s ne l = let a = l.0 in let b = l.1 in (omega arith, omega arith)
other_refs Weak x p q s ne l = let o = held_other s x (λ r. ne (sym r)) in let a = l.0 in let b = l.1 in (omega arith, omega arith)

-- a slot with references is there, and is counted
pub strong_counted : (h : Store) (s : SlotId) → Kept h → 0 < strong_refs (plain_of h) s
    → (s.0 < length h.slots.items) × (s.0 < length h.strong.items) × (0 < slice_index h.strong.items s.0)
strong_counted h s k some =
    let live = (k.sound.lawful.strong s some).0 in
    let at : s.0 < length h.slots.items = is_there (plain_of h) s (λ f. cc) in
    (at, omega (arith, k.tallied.strong_size), omega (arith, k.tallied.strong s at))

pub weak_counted : (h : Store) (s : SlotId) → Kept h → 0 < weak_refs (plain_of h) s
    → (s.0 < length h.slots.items) × (s.0 < length h.weak.items) × (0 < slice_index h.weak.items s.0)
weak_counted h s k some =
    let at : s.0 < length h.slots.items = is_there (plain_of h) s (k.sound.lawful.weak s some) in
    (at, omega (arith, k.tallied.weak_size), omega (arith, k.tallied.weak s at))

pub deferred_strong : (h : Store) (s : SlotId) → 0 < entry_times Strong s h.deferred.items → 0 < strong_refs (plain_of h) s
deferred_strong h s some = let part = seat_part (plain_of h) 0 s (lit< tt) in omega (arith, part.strong_deferred)

pub deferred_weak : (h : Store) (s : SlotId) → 0 < entry_times Weak s h.deferred.items → 0 < weak_refs (plain_of h) s
deferred_weak h s some = let part = seat_part (plain_of h) 0 s (lit< tt) in omega (arith, part.weak_deferred)

deferred_there : (h : Store) (k : Kind) (s : SlotId) → Kept h → 0 < entry_times k s h.deferred.items → s.0 < length h.slots.items
deferred_there h Strong s kept some = (strong_counted h s kept (deferred_strong h s some)).0
deferred_there h Weak s kept some = (weak_counted h s kept (deferred_weak h s some)).0
deferred_there h Disposal s kept some = absurd (omega (arith, kept.disposals.deferred s))

module _ (h : Store) (at : ℕ) (e : Entry) (kept : Kept h) (lt : at < length h.deferred.items) (is : get_or h.deferred.items at e ≡ e) where
  abbrev left : List Entry
  left = remove h.deferred.items at

  pub entry_some : 0 < entry_times e.0 e.1 h.deferred.items
  entry_some = let a = entry_removed e.0 e.1 h.deferred.items at e lt is in let o = entry_self e.0 e.1 in omega arith

  pub entry_slot : e.1.0 < length h.slots.items
  entry_slot = deferred_there h e.0 e.1 kept entry_some

  pub strong_asked : e.0 ≡ Strong → (e.1.0 < length h.strong.items) × (0 < slice_index h.strong.items e.1.0)
  strong_asked k =
      let some : 0 < entry_times Strong e.1 h.deferred.items = subst (λ (j : Kind). 0 < entry_times j e.1 h.deferred.items) k entry_some in
      let c = strong_counted h e.1 kept (deferred_strong h e.1 some) in (c.1, c.2)

  pub weak_asked : e.0 ≡ Weak → (e.1.0 < length h.weak.items) × (0 < slice_index h.weak.items e.1.0)
  weak_asked k =
      let some : 0 < entry_times Weak e.1 h.deferred.items = subst (λ (j : Kind). 0 < entry_times j e.1 h.deferred.items) k entry_some in
      let c = weak_counted h e.1 kept (deferred_weak h e.1 some) in (c.1, c.2)

  abbrev pub after_take : Plain
  after_take = takes (seat_of h) h.cells.items h.weak_cells.items h.slots.items refl left

  less : (s : SlotId) → LosesRef e.0 e.1 (plain_of h) after_take s
  less s = takes_refs (seat_of h) h.cells.items h.weak_cells.items h.slots.items refl e.0 e.1 s left
      (λ j. entry_removed j s h.deferred.items at e lt is)

  pub take_settles : entry_times e.0 e.1 h.snapshots.items ≤ entry_times e.0 e.1 (take at h.deferred.items)
      → SettlesFreely (plain_of h) after_take
  take_settles enough =
      takes_settles (seat_of h) h.cells.items h.weak_cells.items h.slots.items refl e.0 e.1
      (take at h.deferred.items) (drop (suc at) h.deferred.items) left kept.sound.lawful.covered
      (entry_stands h.deferred.items at e lt is) refl enough

  pub take_tallied : Tallied after_take (fewer Strong e.0 e.1.0 h.strong.items) (fewer Weak e.0 e.1.0 h.weak.items)
  take_tallied = tallied_less e.0 e.1 (plain_of h) after_take h.strong.items h.weak.items kept.tallied entry_slot refl less

  pub take_calm : (s : SlotId) → s ≢ e.1 → IsCalm (plain_of h) s → IsCalm after_take s
  take_calm s ne calm =
      calm_same (plain_of h) after_take s refl (other_refs e.0 e.1 (plain_of h) after_take s (λ q. ne (slot_is s e.1 q)) (less s)) calm

-- one entry more stays
pub one_more_needed : (es snapshots : List Entry) (i : ℕ) (e : Entry) → i < length es → get_or es i e ≡ e
    → AllNeeded (take i es) snapshots → entry_times e.0 e.1 (take i es) < entry_times e.0 e.1 snapshots
    → AllNeeded (take (i + 1) es) snapshots
one_more_needed es snapshots i e lt is needed under j t =
    let a = entry_more j t es i e lt is in
    ⊎_elim
    (λ (z : entry_in j t e ≡ 0). let b = needed j t in omega arith)
    (λ (some : 0 < entry_in j t e).
    let same = entry_is j t e some in
    let one = subst (λ (f : Entry). entry_in j t f ≡ 1) (sym same) (entry_self j t) in
    let b : entry_times j t (take i es) < entry_times j t snapshots = subst (λ (f : Entry). entry_times f.0 f.1 (take i es) < entry_times f.0 f.1 snapshots) same under in
    omega arith)
    (none_or_some (entry_in j t e))

-- counting the entries one by one
pub counts_none : (k : Kind) (s : SlotId) → 0 ≡ entry_times k s []
counts_none k s = sym (entry_none k s)

pub counts_yes : (k : Kind) (s : SlotId) (es : List Entry) (i : ℕ) (d : Entry) → i < length es → is_entry k s (get_or es i d) ≡ true
    → entry_times k s (take (i + 1) es) ≡ entry_times k s (take i es) + 1
unfolding entry_times
counts_yes k s es i d lt e = count_by_more_yes (is_entry k s) es i d lt e

pub counts_no : (k : Kind) (s : SlotId) (es : List Entry) (i : ℕ) (d : Entry) → i < length es → is_entry k s (get_or es i d) ≡ false
    → entry_times k s (take (i + 1) es) ≡ entry_times k s (take i es)
unfolding entry_times
counts_no k s es i d lt e = count_by_more_no (is_entry k s) es i d lt e

pub counts_few : (k : Kind) (s : SlotId) (es : List Entry) (i : ℕ) → i ≤ length es → entry_times k s (take i es) ≤ i
unfolding entry_times
counts_few k s es i le =
    subst (λ (n : ℕ). count_by (is_entry k s) (take i es) ≤ n) (length-take-le i es le) (count_by-le-length (is_entry k s) (take i es))
