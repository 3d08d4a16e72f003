-- What the parts of a settle do to the references of each slot, to the sums beside the slots, and to what is calm.
use Rattle.std.proofs.Common.{◌≡◌, ◌≢◌, ⊎_elim, ℕ, ◌+◌, ◌-◌, ◌<◌, List, [], ◌∷◌, ◌++◌, length, get_or, refl, ap, sym, ◌∙◌, subst, arith, lit<, false, Option, Some}
use Rattle.std.specs.Prelude.{slice_set, slice_index}
use Rattle.std.proofs.lemmas.List.{length-set, get_or-set_same, get_or-set_other}
use Rattle.plain_state.specs.declared.slot.Kind.{Kind}
use Rattle.plain_state.specs.declared.slot.Kind.TheVariants.{Strong, Weak, Disposal}
use Rattle.plain_state.specs.declared.slot.SlotId.{SlotId}
use Rattle.plain_state.specs.declared.slot.PlainSlot.{PlainSlot}
use Rattle.plain_state.specs.declared.slot.Stage.TheVariants.{Live, Ended, Husk}
use Rattle.plain_state.specs.Lists.{Entry, times, entry_times}
use Rattle.plain_state.specs.State.{Plain, PlainSeat, new_slot, stage_at}
use Rattle.plain_state.specs.References.{held_in, own_reference, strong_fields, weak_fields, strong_refs, weak_refs}
use Rattle.plain_state.specs.Steps.{joined}
use Rattle.plain_store.specs.Stores.{Tallied}
use Rattle.plain_store.specs.Draining.{IsCalm, fewer, husk_of, ended_of, freed_of}
use Rattle.plain_state.proofs.Kit.{cases_slot, of_kind, held_none, held_self, held_other, entry_in}
use Rattle.plain_state.proofs.Changes.{seat_change, slot_change}
use Rattle.plain_state.proofs.PlaceRows.{joined_times}
use Rattle.plain_store.proofs.Tallies.{one_less}
use Rattle.plain_store.proofs.SettlingSteps.{one, ends, gives, takes, destroyed, defers}

-- the references to s are as many as before
abbrev pub SameRefs : Plain → Plain → SlotId → Type 0
SameRefs p q s = (strong_refs q s ≡ strong_refs p s) × (weak_refs q s ≡ weak_refs p s)

-- one reference of kind k to x is gone
abbrev pub LosesRef : Kind → SlotId → Plain → Plain → SlotId → Type 0
LosesRef k x p q s =
    (strong_refs q s + of_kind Strong k (held_in s (Some x)) ≡ strong_refs p s)
    × (weak_refs q s + of_kind Weak k (held_in s (Some x)) ≡ weak_refs p s)

pub tallied_same : (p q : Plain) (ss ws : List ℕ) → Tallied p ss ws → length q.slots ≡ length p.slots
    → ((s : SlotId) → SameRefs p q s) → Tallied q ss ws
tallied_same p q ss ws t size same = record {
  strong_size = t.strong_size ∙ sym size;
  weak_size = t.weak_size ∙ sym size;
  strong = λ s at. t.strong s (omega (arith, size)) ∙ sym (same s).0;
  weak = λ s at. t.weak s (omega (arith, size)) ∙ sym (same s).1;
}

pub tallied_less : (k : Kind) (x : SlotId) (p q : Plain) (ss ws : List ℕ) → Tallied p ss ws → x.0 < length p.slots
    → length q.slots ≡ length p.slots → ((s : SlotId) → LosesRef k x p q s)
    → Tallied q (fewer Strong k x.0 ss) (fewer Weak k x.0 ws)
tallied_less Strong x p q ss ws t at size less = record {
  strong_size = length-set ss x.0 (slice_index ss x.0 - 1) ∙ t.strong_size ∙ sym size;
  weak_size = t.weak_size ∙ sym size;
  strong = λ s lt. one_less ss (strong_refs p) (strong_refs q) x (omega (arith, t.strong_size)) (λ y h. t.strong y (omega (arith, t.strong_size))) (λ y. (less y).0) s (omega (arith, t.strong_size, size, length-set ss x.0 (slice_index ss x.0 - 1)));
  weak = λ s lt. t.weak s (omega (arith, size)) ∙ sym (let l = (less s).1 in omega arith);
}
tallied_less Weak x p q ss ws t at size less = record {
  strong_size = t.strong_size ∙ sym size;
  weak_size = length-set ws x.0 (slice_index ws x.0 - 1) ∙ t.weak_size ∙ sym size;
  strong = λ s lt. t.strong s (omega (arith, size)) ∙ sym (let l = (less s).0 in omega arith);
  weak = λ s lt. one_less ws (weak_refs p) (weak_refs q) x (omega (arith, t.weak_size)) (λ y h. t.weak y (omega (arith, t.weak_size))) (λ y. (less y).1) s (omega (arith, t.weak_size, size, length-set ws x.0 (slice_index ws x.0 - 1)));
}
tallied_less Disposal x p q ss ws t at size less =
    tallied_same p q ss ws t size (λ s. (let l = (less s).0 in let m = (less s).1 in (omega arith, omega arith)))

-- a slot of the same stage with as many references is as calm as before
pub calm_same : (p q : Plain) (s : SlotId) → stage_at q s ≡ stage_at p s → SameRefs p q s → IsCalm p s → IsCalm q s
calm_same p q s stage same calm = (
  λ live. (let h = calm.0 (sym stage ∙ live) in omega arith),
  λ husk. (let h = calm.1 (sym stage ∙ husk) in omega arith),
)

-- a slot is calm that is neither live nor a husk
pub calm_other : (p : Plain) (s : SlotId) → stage_at p s ≢ Live → stage_at p s ≢ Husk → IsCalm p s
calm_other p s not_live not_husk = (λ live. absurd (not_live live), λ husk. absurd (not_husk husk))

module _ (v : PlainSeat) (cs ws : List (Option SlotId)) (xs : List PlainSlot) where
  abbrev before : Plain
  before = one v cs ws xs

  module _ (here : v.left ≡ false) (x : SlotId) (at : x.0 < length xs) where
    abbrev old : PlainSlot
    old = get_or xs x.0 new_slot

    -- a slot's stage is written, and so may a seat's dying list be: fields stay, and so does the slot's own reference
    rewritten : (w : PlainSeat) (y : PlainSlot) (s : SlotId) → times s w.owned ≡ times s v.owned → times s w.weaks ≡ times s v.weaks
        → entry_times Strong s w.deferred ≡ entry_times Strong s v.deferred → entry_times Weak s w.deferred ≡ entry_times Weak s v.deferred
        → strong_fields s y ≡ strong_fields s old → weak_fields s y ≡ weak_fields s old
        → own_reference y.stage ≡ own_reference old.stage
        → SameRefs before (one w cs ws (slice_set xs x.0 y)) s
    rewritten w y s a b sd wd f g own =
        let c = seat_change before 0 w s (lit< tt) in
        let d = slot_change (one w cs ws xs) x y s at in
        let e : own_reference (stage_at (one w cs ws (slice_set xs x.0 y)) s) ≡ own_reference (stage_at before s) =
        ⊎_elim
        (λ (same : s ≡ x). subst (λ (z : SlotId). own_reference (stage_at (one w cs ws (slice_set xs x.0 y)) z) ≡ own_reference (stage_at before z)) (sym same)
        (ap (λ (z : PlainSlot). own_reference z.stage) (get_or-set_same xs x.0 y new_slot at) ∙ own))
        (λ (ne : s.0 ≢ x.0). ap (λ (z : PlainSlot). own_reference z.stage) (get_or-set_other xs x.0 s.0 y new_slot ne))
        (cases_slot s x) in
        (omega (arith, c.strong, d.strong), omega (arith, c.weak, d.weak, e))

    pub ends_refs : (s : SlotId) → stage_at before x ≡ Live → SameRefs before (ends v cs ws here xs x) s
    ends_refs s live = rewritten (record v { dying = v.dying ++ x ∷ [] }) (ended_of old) s refl refl refl refl refl refl (sym (ap own_reference live))

    pub gives_refs : (s : SlotId) → stage_at before x ≡ Husk → SameRefs before (gives v cs ws here xs x) s
    gives_refs s husk = rewritten v (freed_of old) s refl refl refl refl refl refl (sym (ap own_reference husk))

    -- an object's slot is destroyed: its own reference is gone, and what its fields held is deferred
    pub destroyed_refs : (rest : List SlotId) (s : SlotId) → stage_at before x ≡ Ended → LosesRef Weak x before (destroyed cs ws x v rest xs) s
    destroyed_refs rest s stage =
        let w : PlainSeat = record v { dying = rest; deferred = defers cs ws x old v.deferred } in
        let y = husk_of old in
        let c = seat_change before 0 w s (lit< tt) in
        let d = slot_change (one w cs ws xs) x y s at in
        let none = held_none s in
        let a1 = joined_times Strong Strong s old.first v.deferred in
        let a2 = joined_times Strong Strong s old.second (joined Strong old.first v.deferred) in
        let a3 = joined_times Strong Weak s old.weak_field (joined Strong old.second (joined Strong old.first v.deferred)) in
        let b1 = joined_times Weak Strong s old.first v.deferred in
        let b2 = joined_times Weak Strong s old.second (joined Strong old.first v.deferred) in
        let b3 = joined_times Weak Weak s old.weak_field (joined Strong old.second (joined Strong old.first v.deferred)) in
        let e : own_reference (stage_at (destroyed cs ws x v rest xs) s) + held_in s (Some x) ≡ own_reference (stage_at before s) =
        ⊎_elim
        (λ (same : s ≡ x). subst (λ (z : SlotId). own_reference (stage_at (destroyed cs ws x v rest xs) z) + held_in z (Some x) ≡ own_reference (stage_at before z)) (sym same)
        (let f = ap (λ (z : PlainSlot). own_reference z.stage) (get_or-set_same xs x.0 y new_slot at) in
        let g = ap own_reference stage in
        let o = held_self x in omega arith))
        (λ (ne : s.0 ≢ x.0).
        let f = ap (λ (z : PlainSlot). own_reference z.stage) (get_or-set_other xs x.0 s.0 y new_slot ne) in
        let o = held_other s x (λ q. ne (sym q)) in omega arith)
        (cases_slot s x) in
        (omega (arith, c.strong, d.strong), omega (arith, c.weak, d.weak, e))

  -- an entry is gone
  pub takes_refs : (here : v.left ≡ false) (k : Kind) (x s : SlotId) (es : List Entry)
      → ((j : Kind) → entry_times j s es + entry_in j s (k, x) ≡ entry_times j s v.deferred)
      → LosesRef k x before (takes v cs ws xs here es) s
  takes_refs here k x s es less =
      let c = seat_change before 0 (record v { deferred = es }) s (lit< tt) in
      (omega (arith, c.strong, less Strong), omega (arith, c.weak, less Weak))
