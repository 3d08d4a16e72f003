-- What calm steps leave: every cell, the tickets, and of each slot what a client may rest on.
use Rattle.std.proofs.Common.{◌≡◌, ◌≢◌, inl, inr, ⊎_elim, ℕ, ◌<◌, Bool, true, false, List, length, get_or, refl, sym, ap, subst, ◌∙◌, arith}
use Rattle.std.specs.Prelude.{slice_set, None, ◌==◌, if◌then◌else◌}
use Rattle.std.proofs.lemmas.List.{get_or-set_same, get_or-set_other, set_past}
use Rattle.std.proofs.lemmas.Bool.{cases_lt}
use Rattle.plain_state.specs.declared.act.EventPlace.{EventPlace}
use Rattle.plain_state.specs.declared.act.EventPlace.TheVariants.{Cell, Field, WeakCell, WeakField}
use Rattle.plain_state.specs.declared.act.PlainAct.{PlainAct}
use Rattle.plain_state.specs.declared.act.PlainAct.TheVariants as act
use Rattle.plain_state.specs.declared.slot.PlainSlot.{PlainSlot}
use Rattle.plain_state.specs.declared.slot.SlotId.{SlotId}
use Rattle.plain_state.specs.declared.slot.Stage.{Stage}
use Rattle.plain_state.specs.declared.slot.Stage.TheVariants.{Free, Blank, Live, Ended, Husk}
use Rattle.plain_state.specs.Lists.{times, cell_times}
use Rattle.plain_state.specs.State.{Plain, PlainSeat, new_slot, seat_at, slot_at, stage_at, with_seat, with_slot}
use Rattle.plain_state.specs.Lawful.{Lawful}
use Rattle.plain_state.specs.Places.{IsDyingField, with_content, with_field}
use Rattle.plain_state.specs.References.{weak_refs}
use Rattle.plain_state.specs.Steps.{Does}
use Rattle.plain_state.proofs.Kit.{cases_slot, seats_at, times_lost}
use Rattle.plain_protocol.specs.Acts.{IsCalm}
use Rattle.plain_protocol.specs.Calm.{IsMade, StaysOrNull, IsKeptAs, IsCalmed}

same_slot : (refs : ℕ) (x : PlainSlot) → IsKeptAs refs x x
same_slot refs x = record {
  life = refl;
  mark = λ h. h;
  live = λ e. e;
  ends = λ e m. e;
  payload = λ _. refl;
  fields = λ _. (refl, refl, refl);
  held = λ h made. (made, refl);
  made = λ made. (made, refl, inl refl, inl refl, inl refl);
}

-- the two states differ in their seats at most
abbrev SameButSeats : Plain → Plain → Type 0
SameButSeats p r =
    (r.slots ≡ p.slots) × (r.cells ≡ p.cells) × (r.weak_cells ≡ p.weak_cells)
    × (r.tickets ≡ p.tickets)

-- no slot is written
same_slots : (p q : Plain) → SameButSeats p q → IsCalmed p q
same_slots p q same = record {
  cells = same.1;
  weak_cells = same.2;
  tickets = same.3;
  slots = λ s. subst (λ l. IsKeptAs (cell_times s p.weak_cells) (slot_at p s) (get_or l s.0 new_slot))
      (sym same.0)
      (same_slot _ (slot_at p s));
}

-- one slot is written
one_slot : (p q : Plain) (x : SlotId) (y : PlainSlot)
    → IsKeptAs (cell_times x p.weak_cells) (slot_at p x) y
    → q.slots ≡ slice_set p.slots x.0 y → q.cells ≡ p.cells → q.weak_cells ≡ p.weak_cells
    → q.tickets ≡ p.tickets → IsCalmed p q
one_slot p q x y kept slots cells weak_cells tickets = record {
  cells = cells;
  weak_cells = weak_cells;
  tickets = tickets;
  slots = λ s. subst (λ l. IsKeptAs (cell_times s p.weak_cells) (slot_at p s) (get_or l s.0 new_slot))
      (sym slots) (written s);
}
  where
    written : (s : SlotId)
        → IsKeptAs (cell_times s p.weak_cells) (slot_at p s) (get_or (slice_set p.slots x.0 y) s.0 new_slot)
    written s = ⊎_elim
        (λ (below : x.0 < length p.slots). ⊎_elim
        (λ (same : s ≡ x).
        subst (λ (z : SlotId).
        IsKeptAs (cell_times z p.weak_cells) (slot_at p z) (get_or (slice_set p.slots x.0 y) z.0 new_slot))
        (sym same)
        (rw (get_or-set_same p.slots x.0 y new_slot below) kept))
        (λ (ne : s.0 ≢ x.0).
        rw (get_or-set_other p.slots x.0 s.0 y new_slot ne) (same_slot _ (slot_at p s)))
        (cases_slot s x))
        (λ past. rw (set_past p.slots x.0 y past) (same_slot _ (slot_at p s)))
        (cases_lt x.0 (length p.slots))

-- one slot and one seat are written
by_slot : (p q r : Plain) (s : SlotId) (y : PlainSlot) → SameButSeats p r
    → IsKeptAs (cell_times s p.weak_cells) (slot_at p s) y → q ≡ with_slot r s y → IsCalmed p q
by_slot p q r s y same kept is =
    one_slot p q s y kept (ap (λ (z : Plain). z.slots) is ∙ ap (λ l. slice_set l s.0 y) same.0)
    (ap (λ (z : Plain). z.cells) is ∙ same.1) (ap (λ (z : Plain). z.weak_cells) is ∙ same.2)
    (ap (λ (z : Plain). z.tickets) is ∙ same.3)

-- one seat at most is written
by_seat : (p q r : Plain) → SameButSeats p r → q ≡ r → IsCalmed p q
by_seat p q r same is =
    same_slots p q (
      ap (λ (z : Plain). z.slots) is ∙ same.0,
      ap (λ (z : Plain). z.cells) is ∙ same.1,
      ap (λ (z : Plain). z.weak_cells) is ∙ same.2,
      ap (λ (z : Plain). z.tickets) is ∙ same.3,
    )

-- a slot in a dying list has ended
dying_ended : (p : Plain) (n : ℕ) (s : SlotId) → Lawful p → n < length p.seats
    → 0 < times s (seat_at p n).dying → stage_at p s ≡ Ended
dying_ended p n s lawful there dies =
    let at = seats_at (λ (v : PlainSeat). times s v.dying) p.seats n there in
    (lawful.dying s).1 (omega arith)

ended_not : (x : PlainSlot) → x.stage ≡ Ended → x.stage ≢ Live
ended_not x e live = let f : Ended ≡ Live = sym e ∙ live in cc

stage_made : (x : PlainSlot) (g : Stage) → x.stage ≡ g → IsMade g → IsMade x.stage
stage_made x g e made = (λ f. made.0 (sym e ∙ f), λ f. made.1 (sym e ∙ f))

ended_made : IsMade Ended
ended_made = (λ (e : Ended ≡ Free). cc, λ (e : Ended ≡ Blank). cc)

-- a slot that isn't live loses fields, and nothing else
cleared : (refs : ℕ) (x y : PlainSlot) → x.stage ≢ Live → y.stage ≡ x.stage → y.marked ≡ x.marked
    → y.life ≡ x.life → y.payload ≡ x.payload → StaysOrNull x.first y.first
    → StaysOrNull x.second y.second → StaysOrNull x.weak_field y.weak_field → IsKeptAs refs x y
cleared refs x y not stage mark life payload first second weak = record {
  life = life;
  mark = λ h. mark ∙ h;
  live = λ e. sym stage ∙ e;
  ends = λ e m. absurd (not e);
  payload = λ e. payload;
  fields = λ e. absurd (not e);
  held = λ h made. (stage_made y x.stage stage made, payload);
  made = λ made. ((λ f. made.0 (stage ∙ f), λ f. made.1 (stage ∙ f)), payload, first, second, weak);
}

field_cleared : (refs : ℕ) (first : Bool) (x : PlainSlot) → x.stage ≢ Live
    → IsKeptAs refs x (if first then record x { first = None } else record x { second = None })
field_cleared refs true x not =
    cleared refs x (record x { first = None }) not refl refl refl refl (inr refl) (inl refl) (inl refl)
field_cleared refs false x not =
    cleared refs x (record x { second = None }) not refl refl refl refl (inl refl) (inr refl) (inl refl)

clears : (p q r : Plain) (n : ℕ) (place : EventPlace) → Lawful p → n < length p.seats
    → IsDyingField p n place → SameButSeats p r → q ≡ with_content r place None → IsCalmed p q
clears p q r n (Cell i) lawful there dies same is = absurd dies
clears p q r n (Field s i) lawful there dies same is =
    let not = ended_not (slot_at p s) (dying_ended p n s lawful there dies.1.0) in
    let slot : slot_at r s ≡ slot_at p s = ap (λ l. get_or l s.0 new_slot) same.0 in
    one_slot p q s (with_field i None (slot_at p s)) (field_cleared _ (i == 0) (slot_at p s) not)
    (ap (λ (z : Plain). z.slots) is
    ∙ (ap (λ l. slice_set l s.0 (with_field i None (slot_at r s))) same.0
    ∙ ap (λ x. slice_set p.slots s.0 (with_field i None x)) slot))
    (ap (λ (z : Plain). z.cells) is ∙ same.1)
    (ap (λ (z : Plain). z.weak_cells) is ∙ same.2)
    (ap (λ (z : Plain). z.tickets) is ∙ same.3)
clears p q r n (WeakCell i) lawful there dies same is = absurd dies
clears p q r n (WeakField s) lawful there dies same is =
    let not = ended_not (slot_at p s) (dying_ended p n s lawful there dies.0) in
    let slot : slot_at r s ≡ slot_at p s = ap (λ l. get_or l s.0 new_slot) same.0 in
    one_slot p q s (record (slot_at p s) { weak_field = None })
    (cleared _ (slot_at p s) (record (slot_at p s) { weak_field = None }) not refl refl refl refl
    (inl refl) (inl refl) (inr refl))
    (ap (λ (z : Plain). z.slots) is
    ∙ (ap (λ l. slice_set l s.0 (record (slot_at r s) { weak_field = None })) same.0
    ∙ ap (λ (x : PlainSlot). slice_set p.slots s.0 (record x { weak_field = None })) slot))
    (ap (λ (z : Plain). z.cells) is ∙ same.1)
    (ap (λ (z : Plain). z.weak_cells) is ∙ same.2)
    (ap (λ (z : Plain). z.tickets) is ∙ same.3)

-- a free slot is claimed
claimed : (refs : ℕ) (x : PlainSlot) → x.stage ≡ Free → IsKeptAs refs x (record x { stage = Blank })
claimed refs x free = record {
  life = refl;
  mark = λ h. h;
  live = λ (e : Blank ≡ Live). cc;
  ends = λ e m. let g : Free ≡ Live = sym free ∙ e in cc;
  payload = λ e. refl;
  fields = λ e. (refl, refl, refl);
  held = λ h made. absurd (made.0 free);
  made = λ made. absurd (made.1 refl);
}

-- a blank slot is filled
filled : (refs : ℕ) (x : PlainSlot) (payload : List ℕ) → x.stage ≡ Blank
    → IsKeptAs refs x (record x { payload = payload })
filled refs x payload blank = record {
  life = refl;
  mark = λ h. h;
  live = λ e. e;
  ends = λ e m. e;
  payload = λ e. let g : Blank ≡ Live = sym blank ∙ e in cc;
  fields = λ e. (refl, refl, refl);
  held = λ h made. absurd (made.1 blank);
  made = λ made. absurd (made.1 blank);
}

-- a live object gets its zero mark
marked : (refs : ℕ) (x : PlainSlot) → IsKeptAs refs x (record x { marked = true })
marked refs x = record {
  life = refl;
  mark = λ h. refl;
  live = λ e. e;
  ends = λ e m. e;
  payload = λ e. refl;
  fields = λ e. (refl, refl, refl);
  held = λ h made. (made, refl);
  made = λ made. (made, refl, inl refl, inl refl, inl refl);
}

-- a live object ends
ended : (refs : ℕ) (x : PlainSlot) → x.stage ≡ Live
    → IsKeptAs refs x (record x { stage = Ended; marked = true })
ended refs x live = record {
  life = refl;
  mark = λ h. refl;
  live = λ (e : Ended ≡ Live). cc;
  ends = λ e (m : true ≡ false). cc;
  payload = λ e. refl;
  fields = λ e. (refl, refl, refl);
  held = λ h made. (ended_made, refl);
  made = λ made. (
    stage_made x Live live (λ (e : Live ≡ Free). cc, λ (e : Live ≡ Blank). cc),
    refl,
    inl refl,
    inl refl,
    inl refl,
  );
}

-- an ended object is destroyed
destroyed : (refs : ℕ) (x : PlainSlot) → x.stage ≡ Ended → IsKeptAs refs x (record x { stage = Husk })
destroyed refs x over = record {
  life = refl;
  mark = λ h. h;
  live = λ (e : Husk ≡ Live). cc;
  ends = λ e m. absurd (ended_not x over e);
  payload = λ e. refl;
  fields = λ e. (refl, refl, refl);
  held = λ h made. ((λ (e : Husk ≡ Free). cc, λ (e : Husk ≡ Blank). cc), refl);
  made = λ made. (stage_made x Ended over ended_made, refl, inl refl, inl refl, inl refl);
}

-- a husk that nothing refers to is given again
given : (refs : ℕ) (x : PlainSlot) → x.stage ≡ Husk → refs ≡ 0
    → IsKeptAs refs x (record x { stage = Free })
given refs x husk none = record {
  life = refl;
  mark = λ h. h;
  live = λ (e : Free ≡ Live). cc;
  ends = λ e m. let g : Husk ≡ Live = sym husk ∙ e in cc;
  payload = λ e. refl;
  fields = λ e. (refl, refl, refl);
  held = λ h made. absurd (omega arith);
  made = λ made. absurd (made.0 refl);
}

pub calm_leaves : (p q : Plain) (n : ℕ) (step : PlainAct) (found : ℕ) → Lawful p → IsCalm step
    → Does p n step found q → IsCalmed p q
calm_leaves p q n (act.Claim s) found lawful calm d =
    by_slot p q (with_seat p n _) s _ (refl, refl, refl, refl)
    (claimed _ _ d.1.1) d.1.4
calm_leaves p q n (act.Fill s i word) found lawful calm d =
    by_slot p q p s _ (refl, refl, refl, refl)
    (filled _ _ _ d.1.0) d.1.4
calm_leaves p q n (act.Make s) found lawful calm d = absurd calm
calm_leaves p q n (act.Add s) found lawful calm d = ⊎_elim
    (λ up. by_seat p q (with_seat p n _) (refl, refl, refl, refl) up.2)
    (λ dead. by_seat p q (with_seat p n _) (refl, refl, refl, refl) dead.2)
    d.1.1
calm_leaves p q n (act.Drop s) found lawful calm d =
    by_seat p q (with_seat p n _) (refl, refl, refl, refl) d.1.3
calm_leaves p q n (act.WeakGain s) found lawful calm d =
    by_seat p q (with_seat p n _) (refl, refl, refl, refl) d.1.2
calm_leaves p q n (act.WeakDrop s) found lawful calm d =
    by_seat p q (with_seat p n _) (refl, refl, refl, refl) d.1.3
calm_leaves p q n (act.Look place) found lawful calm d = by_seat p q p (refl, refl, refl, refl) d.1.2
calm_leaves p q n (act.Check j place) found lawful calm d = ⊎_elim
    (λ same. by_seat p q p (refl, refl, refl, refl) same)
    (λ taken. by_seat p q (with_seat p n _) (refl, refl, refl, refl) taken.2.2)
    d.1.2
calm_leaves p q n (act.Alive j) found lawful calm d = ⊎_elim
    (λ zero. by_seat p q p (refl, refl, refl, refl) zero.1)
    (λ alive. by_seat p q (with_seat p n _) (refl, refl, refl, refl) alive.2.2)
    d.1.3
calm_leaves p q n (act.EndSnapshot k s) found lawful calm d =
    by_seat p q (with_seat p n _) (refl, refl, refl, refl) d.1.3
calm_leaves p q n (act.Replace place new) found lawful calm d = absurd calm
calm_leaves p q n (act.TryReplace place old new) found lawful calm d = absurd calm
calm_leaves p q n (act.Count s) found lawful calm d = by_seat p q p (refl, refl, refl, refl) d.1.2
calm_leaves p q n (act.Mark s) found lawful calm d = ⊎_elim
    (λ same. by_seat p q p (refl, refl, refl, refl) same.0)
    (λ zero. by_slot p q p s _ (refl, refl, refl, refl)
    (marked _ _) zero.2)
    d.1.1
calm_leaves p q n (act.WeakCount s) found lawful calm d = by_seat p q p (refl, refl, refl, refl) d.1.2
calm_leaves p q n (act.See s i) found lawful calm d = by_seat p q p (refl, refl, refl, refl) d.1.3
calm_leaves p q n (act.Eject k s) found lawful calm d =
    by_seat p q (with_seat p n _) (refl, refl, refl, refl) d.1.3
calm_leaves p q n (act.End s) found lawful calm d =
    by_slot p q (with_seat p n _) s _ (refl, refl, refl, refl)
    (ended _ _ d.1.0)
    d.1.3
calm_leaves p q n (act.Clear place) found lawful calm d =
    clears p q (with_seat p n _) n place lawful d.0.0 d.1.0 (refl, refl, refl, refl) d.1.2
calm_leaves p q n (act.Destroy s) found lawful calm d =
    by_slot p q (with_seat p n _) s _ (refl, refl, refl, refl)
    (destroyed _ _ (dying_ended p n s lawful d.0.0
    (times_lost s (seat_at p n).dying d.1.3.0 d.1.3.1)))
    d.1.3.2
calm_leaves p q n (act.Give s) found lawful calm d =
    by_slot p q p s _ (refl, refl, refl, refl)
    (given _ _ d.1.0 (let none : weak_refs p s ≡ 0 = d.1.1 in omega arith))
    d.1.3
calm_leaves p q n (act.Leave j) found lawful calm d = absurd calm
calm_leaves p q n act.Split found lawful calm d =
    by_seat p q (with_seat p n _) (refl, refl, refl, refl) d.1.1.2
calm_leaves p q n act.Ticket found lawful calm d = absurd calm
calm_leaves p q n act.Still found lawful calm d = by_seat p q p (refl, refl, refl, refl) d.1.1
