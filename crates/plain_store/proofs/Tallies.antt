-- The two sums that a store keeps beside each slot, after a step.
use Rattle.std.proofs.Common.{◌≡◌, ◌≢◌, ⊎_elim, ℕ, ◌+◌, ◌-◌, ◌<◌, List, [], ◌∷◌, ◌++◌, length, refl, ap, sym, ◌∙◌, subst, arith, Some, None}
use Rattle.std.specs.Prelude.{slice_index, slice_set}
use Rattle.std.proofs.lemmas.List.{length-set, get_or-set_same, get_or-set_other}
use Rattle.plain_state.specs.declared.act.PlainAct.TheVariants as act
use Rattle.plain_state.specs.declared.slot.SlotId.{SlotId}
use Rattle.plain_state.specs.declared.slot.PlainSlot.{PlainSlot}
use Rattle.plain_state.specs.State.{Plain, PlainSeat, seat_at, slot_at, stage_at, with_seat}
use Rattle.plain_state.specs.References.{held_in, own_reference, strong_refs, weak_refs}
use Rattle.plain_state.specs.Steps.{Does}
use Rattle.plain_store.specs.Stores.{Tallied}
use Rattle.plain_state.proofs.Kit.{cases_slot, held_self, held_other, times_push, times_loses}
use Rattle.plain_state.proofs.Changes.{seat_change, slot_change, slot_same, slot_other}
use Rattle.plain_store.proofs.Making.{made}
use Rattle.plain_store.specs.Heaps.{made_slot}
use Rattle.plain_state.specs.declared.slot.Stage.TheVariants.{Free}

-- The list has f of each slot below its length
abbrev pub Lists : List ℕ → (SlotId → ℕ) → Type 0
Lists xs f = (s : SlotId) → s.0 < length xs → slice_index xs s.0 ≡ f s

-- where one number of the list is set
pub lists_set : (xs : List ℕ) (f g : SlotId → ℕ) (x : SlotId) (n : ℕ) → Lists xs f → g x ≡ n → ((s : SlotId) → s.0 ≢ x.0 → g s ≡ f s)
    → Lists (slice_set xs x.0 n) g
lists_set xs f g x n h here other s lt =
    let below : s.0 < length xs = omega (arith, length-set xs x.0 n) in
    ⊎_elim
    (λ (same : s ≡ x). let at : x.0 < length xs = subst (λ (y : SlotId). y.0 < length xs) same below in
    subst (λ (y : SlotId). slice_index (slice_set xs x.0 n) y.0 ≡ g y) (sym same) (get_or-set_same xs x.0 n 0 at ∙ sym here))
    (λ (ne : s.0 ≢ x.0). get_or-set_other xs x.0 s.0 n 0 ne ∙ h s below ∙ sym (other s ne))
    (cases_slot s x)

-- one reference to x fewer
pub one_less : (xs : List ℕ) (f g : SlotId → ℕ) (x : SlotId) → x.0 < length xs → Lists xs f → ((s : SlotId) → g s + held_in s (Some x) ≡ f s)
    → Lists (slice_set xs x.0 (slice_index xs x.0 - 1)) g
one_less xs f g x at h e =
    lists_set xs f g x (slice_index xs x.0 - 1) h (omega (arith, h x at, e x, held_self x)) (λ s ne. omega (arith, e s, held_other s x (λ q. ne (sym q))))

pub one_more : (xs : List ℕ) (f g : SlotId → ℕ) (x : SlotId) → x.0 < length xs → Lists xs f → ((s : SlotId) → g s ≡ f s + held_in s (Some x))
    → Lists (slice_set xs x.0 (slice_index xs x.0 + 1)) g
one_more xs f g x at h e =
    lists_set xs f g x (slice_index xs x.0 + 1) h (omega (arith, h x at, e x, held_self x)) (λ s ne. omega (arith, e s, held_other s x (λ q. ne (sym q))))

-- the references after a drop
pub drop_refs : (p q : Plain) (n found : ℕ) (x s : SlotId) → Does p n (act.Drop x) found q
    → (strong_refs q s + held_in s (Some x) ≡ strong_refs p s) × (weak_refs q s ≡ weak_refs p s) × (length q.slots ≡ length p.slots)
drop_refs p q n found x s (there, (xs, l, _, e)) =
    let w : PlainSeat = record (seat_at p n) { owned = xs } in
    let c = seat_change p n w s there.0 in
    subst (λ (r : Plain). (strong_refs r s + held_in s (Some x) ≡ strong_refs p s) × (weak_refs r s ≡ weak_refs p s) × (length r.slots ≡ length p.slots)) (sym e)
    (omega (arith, c.strong, times_loses s x (seat_at p n).owned xs l), omega (arith, c.weak), refl)

pub tallied_drop : (p q : Plain) (n found : ℕ) (x : SlotId) (ss ws : List ℕ) → Tallied p ss ws → x.0 < length p.slots → Does p n (act.Drop x) found q
    → Tallied q (slice_set ss x.0 (slice_index ss x.0 - 1)) ws
tallied_drop p q n found x ss ws t lt d = record {
  strong_size = length-set ss x.0 (slice_index ss x.0 - 1) ∙ t.strong_size ∙ sym (drop_refs p q n found x x d).2;
  weak_size = t.weak_size ∙ sym (drop_refs p q n found x x d).2;
  strong = λ s at. one_less ss (strong_refs p) (strong_refs q) x (omega (arith, t.strong_size)) (λ y h. t.strong y (omega (arith, t.strong_size))) (λ y. (drop_refs p q n found x y d).0) s (omega (arith, t.strong_size, (drop_refs p q n found x x d).2, length-set ss x.0 (slice_index ss x.0 - 1)));
  weak = λ s at. t.weak s (omega (arith, (drop_refs p q n found x x d).2)) ∙ sym (drop_refs p q n found x s d).1;
}

-- the references after an object is made in a free slot
module _ (p : Plain) (x : SlotId) (payload : List ℕ) (seat : 0 < length p.seats) (at : x.0 < length p.slots) (free : (slot_at p x).stage ≡ Free) where
  abbrev maker : PlainSeat
  maker = record (seat_at p 0) { owned = (seat_at p 0).owned ++ x ∷ []; filling = None; adds = (seat_at p 0).adds + 1 }

  made_strong : (s : SlotId) → strong_refs (made p x payload) s ≡ strong_refs p s + held_in s (Some x)
  made_strong s =
      let c = seat_change p 0 maker s seat in
      let d = slot_change (with_seat p 0 maker) x (made_slot (slot_at p x) payload) s at in
      omega (arith, c.strong, d.strong, times_push s x (seat_at p 0).owned)

  made_weak_here : weak_refs (made p x payload) x ≡ weak_refs p x + 1
  made_weak_here =
      let c = seat_change p 0 maker x seat in
      let d = slot_change (with_seat p 0 maker) x (made_slot (slot_at p x) payload) x at in
      let e : own_reference (stage_at (made p x payload) x) ≡ 1 = ap (λ (y : PlainSlot). own_reference y.stage) (slot_same (with_seat p 0 maker) x (made_slot (slot_at p x) payload) at) in
      let f : own_reference (stage_at p x) ≡ 0 = ap own_reference free in
      omega (arith, c.weak, d.weak, e, f)

  made_weak_other : (s : SlotId) → s.0 ≢ x.0 → weak_refs (made p x payload) s ≡ weak_refs p s
  made_weak_other s ne =
      let c = seat_change p 0 maker s seat in
      let d = slot_change (with_seat p 0 maker) x (made_slot (slot_at p x) payload) s at in
      let e : own_reference (stage_at (made p x payload) s) ≡ own_reference (stage_at p s) = ap (λ (y : PlainSlot). own_reference y.stage) (slot_other (with_seat p 0 maker) x (made_slot (slot_at p x) payload) s ne) in
      omega (arith, c.weak, d.weak, e)

  pub tallied_make : (ss ws : List ℕ) → Tallied p ss ws → strong_refs p x ≡ 0 → weak_refs p x ≡ 0 → Tallied (made p x payload) (slice_set ss x.0 1) (slice_set ws x.0 1)
  tallied_make ss ws t none weakly =
      let size : length (made p x payload).slots ≡ length p.slots = length-set p.slots x.0 (made_slot (slot_at p x) payload) in
      record {
        strong_size = length-set ss x.0 1 ∙ t.strong_size ∙ sym size;
        weak_size = length-set ws x.0 1 ∙ t.weak_size ∙ sym size;
        strong = λ s lt. lists_set ss (strong_refs p) (strong_refs (made p x payload)) x 1 (λ y h. t.strong y (omega (arith, t.strong_size)))
            (omega (arith, made_strong x, held_self x, none)) (λ y ne. omega (arith, made_strong y, held_other y x (λ q. ne (sym q)))) s (omega (arith, size, t.strong_size, length-set ss x.0 1));
        weak = λ s lt. lists_set ws (weak_refs p) (weak_refs (made p x payload)) x 1 (λ y h. t.weak y (omega (arith, t.weak_size)))
            (omega (arith, made_weak_here, weakly)) made_weak_other s (omega (arith, size, t.weak_size, length-set ws x.0 1));
      }
