-- A plain step gives a slot a life with an object that stands, and only a destroy makes one fall.
use Rattle.std.proofs.Common.{◌≡◌, ◌≢◌, ⊎_elim, ℕ, ◌+◌, ◌<◌, Bool, true, false, List, length, get_or, set, refl, ap, sym, ◌∙◌, subst, arith}
use Rattle.std.specs.Prelude.{◌==◌, if◌then◌else◌, Option, None}
use Rattle.std.proofs.lemmas.List.{get_or-set_same, get_or-set_other}
use Rattle.std.proofs.lemmas.Bool.Decides.{nat_tests}
use Rattle.core_law.specs.plain_state.declared.act.EventPlace.{EventPlace}
use Rattle.core_law.specs.plain_state.declared.act.EventPlace.TheVariants.{Cell, Field, WeakCell, WeakField}
use Rattle.core_law.specs.plain_state.declared.act.PlainAct.{PlainAct}
use Rattle.core_law.specs.plain_state.declared.act.PlainAct.TheVariants as plain
use Rattle.core_law.specs.plain_state.declared.slot.PlainSlot.{PlainSlot}
use Rattle.core_law.specs.plain_state.declared.slot.SlotId.{SlotId}
use Rattle.core_law.specs.plain_state.declared.slot.Stage.{Stage}
use Rattle.core_law.specs.plain_state.declared.slot.Stage.TheVariants.{Free, Blank, Live, Ended, Husk}
use Rattle.core_law.specs.plain_state.Lawful.{Lawful}
use Rattle.core_law.specs.plain_state.Lists.{is_slot, times}
use Rattle.core_law.specs.plain_state.Places.{with_content, with_field}
use Rattle.core_law.specs.plain_state.State.{Plain, PlainSeat, new_slot, seat_at, slot_at, stage_at, with_slot}
use Rattle.core_law.specs.plain_state.Steps.{Does}
use Rattle.core_law.proofs.Below.plain_state_Kit.{cases_slot, seats_at, times_lost}
use Rattle.core_promises.specs.Destroyed.{standing}

-- 1 for a step that destroys the object in s
abbrev pub falls : SlotId → PlainAct → ℕ
falls s (plain.Destroy x) = if is_slot x s then 1 else 0
falls s a = 0

-- what stands after, and what fell, is what stood before and what came to life
abbrev pub Balanced : ℕ → PlainSlot → PlainSlot → Type 0
Balanced fallen x y = standing y.stage + fallen + x.life ≡ standing x.stage + y.life

still : (x y : PlainSlot) → y.stage ≡ x.stage → y.life ≡ x.life → Balanced 0 x y
still x y stage life = let e = ap standing stage in omega arith

moves : (x : PlainSlot) (g h : Stage) (l : ℕ) (fallen : ℕ) (y : PlainSlot) → x.stage ≡ g
    → y.stage ≡ h → y.life ≡ l → standing h + fallen + x.life ≡ standing g + l → Balanced fallen x y
moves x g h l fallen y from to life is =
    let a = ap standing from in
    let b = ap standing to in omega arith

module _ (p q : Plain) (n : ℕ) (s : SlotId) (there : s.0 < length p.slots) where
  -- the slot is as it was
  same : (r : Plain) → q ≡ r → slot_at r s ≡ slot_at p s → Balanced 0 (slot_at p s) (slot_at q s)
  same r is kept =
      let e = ap (λ (x : Plain). slot_at x s) is ∙ kept in
      still (slot_at p s) (slot_at q s) (ap (λ (x : PlainSlot). x.stage) e) (ap (λ (x : PlainSlot). x.life) e)

  -- a slot is written
  wrote : (r : Plain) (x : SlotId) (y : PlainSlot) → q ≡ with_slot r x y → r.slots ≡ p.slots
      → Balanced 0 (slot_at p x) y → Balanced 0 (slot_at p s) (slot_at q s)
  wrote r x y is slots balanced = ⊎_elim
      (λ (here : s ≡ x).
      let e = ap (λ (t : Plain). slot_at t s) is
      ∙ (ap (λ (l : List PlainSlot). get_or (set l x.0 y) s.0 new_slot) slots
      ∙ at_here here there) in
      subst (λ (t : PlainSlot × PlainSlot). Balanced 0 t.0 t.1)
      (λ i. (slot_at p (sym here i), sym e i)) balanced)
      (λ (ne : s.0 ≢ x.0). same (with_slot r x y) is
      (get_or-set_other r.slots x.0 s.0 y new_slot ne
      ∙ ap (λ (l : List PlainSlot). get_or l s.0 new_slot) slots))
      (cases_slot s x)
    where
      at_here : s ≡ x → s.0 < length p.slots → get_or (set p.slots x.0 y) s.0 new_slot ≡ y
      at_here here below = subst (λ (t : SlotId). t.0 < length p.slots
          → get_or (set p.slots x.0 y) t.0 new_slot ≡ y) (sym here)
          (λ h. get_or-set_same p.slots x.0 y new_slot h) below

  -- a place is written
  put : (r : Plain) (place : EventPlace) (new : Option SlotId) → q ≡ with_content r place new
      → r.slots ≡ p.slots → Balanced 0 (slot_at p s) (slot_at q s)
  put r (Cell i) new is slots =
      same _ is (ap (λ (l : List PlainSlot). get_or l s.0 new_slot) slots)
  put r (Field x i) new is slots =
      let at = ap (λ (l : List PlainSlot). get_or l x.0 new_slot) slots in
      wrote r x (with_field i new (slot_at r x)) is slots
      (subst (λ (t : PlainSlot). Balanced 0 t (with_field i new (slot_at r x))) at
      (field (i == 0) new (slot_at r x)))
    where
      field : (b : Bool) (new : Option SlotId) (x : PlainSlot)
          → Balanced 0 x (if b then record x { first = new } else record x { second = new })
      field true new x = still x (record x { first = new }) refl refl
      field false new x = still x (record x { second = new }) refl refl
  put r (WeakCell i) new is slots =
      same _ is (ap (λ (l : List PlainSlot). get_or l s.0 new_slot) slots)
  put r (WeakField x) new is slots =
      let at = ap (λ (l : List PlainSlot). get_or l x.0 new_slot) slots in
      wrote r x (record (slot_at r x) { weak_field = new }) is slots
      (subst (λ (t : PlainSlot). Balanced 0 t (record (slot_at r x) { weak_field = new })) at
      (still (slot_at r x) (record (slot_at r x) { weak_field = new }) refl refl))

  -- the object in x is destroyed
  fell : (r : Plain) (x : SlotId) → q ≡ with_slot r x (record (slot_at p x) { stage = Husk })
      → r.slots ≡ p.slots → stage_at p x ≡ Ended
      → Balanced (if is_slot x s then 1 else 0) (slot_at p s) (slot_at q s)
  fell r x is slots over = ⊎_elim
      (λ (here : s ≡ x).
      let at : s.0 ≡ x.0 = ap (λ (t : SlotId). t.0) here in
      let yes : is_slot x s ≡ true = grind (arith, nat_tests) in
      let e = ap (λ (t : Plain). slot_at t s) is
      ∙ (ap (λ (l : List PlainSlot). get_or (set l x.0 husk) s.0 new_slot) slots
      ∙ at_here here there) in
      let stage = ap (λ (t : PlainSlot). t.stage) e in
      let life = ap (λ (t : PlainSlot). t.life) e
      ∙ ap (λ (i : ℕ). (get_or p.slots i new_slot).life) (sym at) in
      let old = ap (λ (i : ℕ). (get_or p.slots i new_slot).stage) at ∙ over in
      rw yes (moves (slot_at p s) Ended Husk (slot_at p s).life 1 (slot_at q s) old stage life
      (omega arith)))
      (λ (ne : s.0 ≢ x.0).
      let no : is_slot x s ≡ false = grind (arith, nat_tests) in
      rw no (same (with_slot r x husk) is (get_or-set_other r.slots x.0 s.0 husk new_slot ne
      ∙ ap (λ (l : List PlainSlot). get_or l s.0 new_slot) slots)))
      (cases_slot s x)
    where
      husk : PlainSlot
      husk = record (slot_at p x) { stage = Husk }

      at_here : s ≡ x → s.0 < length p.slots
          → get_or (set p.slots x.0 (record (slot_at p x) { stage = Husk })) s.0 new_slot
          ≡ record (slot_at p x) { stage = Husk }
      at_here here below = subst (λ (t : SlotId). t.0 < length p.slots
          → get_or (set p.slots x.0 (record (slot_at p x) { stage = Husk })) t.0 new_slot
          ≡ record (slot_at p x) { stage = Husk }) (sym here)
          (λ h. get_or-set_same p.slots x.0 (record (slot_at p x) { stage = Husk }) new_slot h) below

  module _ (lawful : Lawful p) where
    -- what a step makes of the slot
    pub balanced : (step : PlainAct) (found : ℕ) → Does p n step found q
        → Balanced (falls s step) (slot_at p s) (slot_at q s)
    balanced (plain.Claim x) found d =
        let y : PlainSlot = record (slot_at p x) { stage = Blank } in
        wrote _ x y d.1.4 refl
        (moves (slot_at p x) Free Blank (slot_at p x).life 0 y d.1.1 refl refl (omega arith))
    balanced (plain.Fill x i w) found d =
        let y : PlainSlot = record (slot_at p x) { payload = set (slot_at p x).payload i w } in
        wrote p x y d.1.4 refl (still (slot_at p x) y refl refl)
    balanced (plain.Make x) found d =
        let y : PlainSlot = record (slot_at p x) { stage = Live; marked = false; life = (slot_at p x).life + 1 } in
        wrote _ x y d.1.3 refl
        (moves (slot_at p x) Blank Live ((slot_at p x).life + 1) 0 y d.1.0 refl refl (omega arith))
    balanced (plain.Add x) found d =
        ⊎_elim (λ up. same _ up.2 refl) (λ refused. same _ refused.2 refl) d.1.1
    balanced (plain.Drop x) found d = same _ d.1.3 refl
    balanced (plain.WeakGain x) found d = same _ d.1.2 refl
    balanced (plain.WeakDrop x) found d = same _ d.1.3 refl
    balanced (plain.Look place) found d = same _ d.1.2 refl
    balanced (plain.Check j place) found d =
        ⊎_elim (λ lost. same _ lost refl) (λ taken. same _ taken.2.2 refl) d.1.2
    balanced (plain.Alive j) found d =
        ⊎_elim (λ none. same _ none.1 refl) (λ up. same _ up.2.2 refl) d.1.3
    balanced (plain.EndSnapshot k x) found d = same _ d.1.3 refl
    balanced (plain.Replace place new) found d = put _ place new d.1.2.2 refl
    balanced (plain.TryReplace place old new) found d =
        ⊎_elim (λ done. put _ place new done.1.2 refl) (λ lost. same _ lost.1 refl) d.1.2
    balanced (plain.Count x) found d = same _ d.1.2 refl
    balanced (plain.Mark x) found d =
        ⊎_elim (λ kept. same _ kept.0 refl) (λ zero.
        let y : PlainSlot = record (slot_at p x) { marked = true } in
        wrote p x y zero.2 refl (still (slot_at p x) y refl refl)) d.1.1
    balanced (plain.WeakCount x) found d = same _ d.1.2 refl
    balanced (plain.See x i) found d = same _ d.1.3 refl
    balanced (plain.Eject k x) found d = same _ d.1.3 refl
    balanced (plain.End x) found d =
        let y : PlainSlot = record (slot_at p x) { stage = Ended; marked = true } in
        wrote _ x y d.1.3 refl
        (moves (slot_at p x) Live Ended (slot_at p x).life 0 y d.1.0 refl refl (omega arith))
    balanced (plain.Clear place) found d = put _ place None d.1.2 refl
    balanced (plain.Destroy x) found d =
        let lost = times_lost x (seat_at p n).dying d.1.3.0 d.1.3.1 in
        let among = seats_at (λ (v : PlainSeat). times x v.dying) p.seats n d.0.0 in
        fell _ x d.1.3.2 refl ((lawful.dying x).1 (omega arith))
    balanced (plain.Give x) found d =
        let y : PlainSlot = record (slot_at p x) { stage = Free } in
        wrote _ x y d.1.3 refl
        (moves (slot_at p x) Husk Free (slot_at p x).life 0 y d.1.0 refl refl (omega arith))
    balanced (plain.Leave j) found d = same _ d.1.8 refl
    balanced plain.Split found d = same _ d.1.1.2 refl
    balanced plain.Ticket found d = same _ d.1.1 refl
    balanced plain.Still found d = same _ d.1.1 refl
