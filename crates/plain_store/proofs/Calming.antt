-- A step that gives up nothing keeps every calm slot calm, and a drop keeps every other one so.
use Rattle.std.proofs.Common.{◌≡◌, ◌≢◌, ⊎_elim, ℕ, ◌+◌, ◌<◌, ◌≤◌, List, [], ◌∷◌, ◌++◌, length, refl, ap, sym, ◌∙◌, subst, arith, Option, Some, None, true}
use Rattle.std.proofs.lemmas.List.{length-set}
use Rattle.plain_state.specs.declared.act.EventPlace.{EventPlace}
use Rattle.plain_state.specs.declared.act.PlainAct.{PlainAct}
use Rattle.plain_state.specs.declared.act.PlainAct.TheVariants as act
use Rattle.plain_state.specs.declared.slot.Kind.TheVariants.{Strong, Weak}
use Rattle.plain_state.specs.declared.slot.SlotId.{SlotId}
use Rattle.plain_state.specs.declared.slot.PlainSlot.{PlainSlot}
use Rattle.plain_state.specs.declared.slot.Stage.TheVariants.{Blank, Live}
use Rattle.plain_state.specs.Lists.{times, entry_times}
use Rattle.plain_state.specs.State.{Plain, PlainSeat, seat_at, slot_at, stage_at, with_seat, with_slot}
use Rattle.plain_state.specs.Places.{IsOpen}
use Rattle.plain_state.specs.References.{own_reference, strong_fields, weak_fields, strong_refs, weak_refs}
use Rattle.plain_state.specs.Runs.{Runs}
use Rattle.plain_state.specs.Sound.{Sound}
use Rattle.plain_state.specs.Steps.{Does, Replaces}
use Rattle.plain_state.proofs.Changes.{seat_change, slot_change, slot_same, slot_other}
use Rattle.plain_state.proofs.EveryStep.{step_sound}
use Rattle.plain_state.proofs.Kit.{slot_is, cases_slot, held_self, held_other, times_push, times_loses}
use Rattle.plain_state.proofs.SeatRows.{is_there, open_there}
use Rattle.plain_store.specs.Draining.{IsCalm}
use Rattle.plain_store.proofs.Placing.{replaced, replaced_size, replaced_objects, replaced_refs}
use Rattle.plain_store.proofs.SettlingRefs.{calm_same, calm_other}

-- as many slots as before, and each calm one stays calm
pub record StaysCalm (p q : Plain) : Type 0 where
  pub slots : length q.slots ≡ length p.slots
  pub calm : (s : SlotId) → IsCalm p s → IsCalm q s

-- each calm one but x
pub record StaysCalmBut (x : SlotId) (p q : Plain) : Type 0 where
  pub slots : length q.slots ≡ length p.slots
  pub calm : (s : SlotId) → s ≢ x → IsCalm p s → IsCalm q s

pub calm_still : (p q : Plain) → q ≡ p → StaysCalm p q
calm_still p q e = subst (StaysCalm p) (sym e) (record { slots = refl; calm = λ s calm. calm })

calm_then : (p m q : Plain) → StaysCalm p m → StaysCalm m q → StaysCalm p q
calm_then p m q a b = record { slots = b.slots ∙ a.slots; calm = λ s calm. b.calm s (a.calm s calm) }

-- a slot of the same stage with no reference fewer is as calm as before
calm_on : (p q : Plain) (s : SlotId) → stage_at q s ≡ stage_at p s → strong_refs p s ≤ strong_refs q s → weak_refs p s ≤ weak_refs q s → IsCalm p s → IsCalm q s
calm_on p q s stage strong weak calm = (
  λ live. (let h = calm.0 (sym stage ∙ live) in omega arith),
  λ husk. (let h = calm.1 (sym stage ∙ husk) in omega arith),
)

-- a seat is written: as many owned and deferred references to s, or more
abbrev HasAsMany : PlainSeat → PlainSeat → SlotId → Type 0
HasAsMany v w s =
    (times s v.owned + entry_times Strong s v.deferred ≤ times s w.owned + entry_times Strong s w.deferred)
    × (times s v.weaks + entry_times Weak s v.deferred ≤ times s w.weaks + entry_times Weak s w.deferred)

module _ (p : Plain) (n : ℕ) (w : PlainSeat) (here : n < length p.seats) where
  seat_calm_at : (s : SlotId) → HasAsMany (seat_at p n) w s → IsCalm p s → IsCalm (with_seat p n w) s
  seat_calm_at s many calm =
      let c = seat_change p n w s here in
      calm_on p (with_seat p n w) s refl (omega (arith, c.strong, many.0)) (omega (arith, c.weak, many.1)) calm

  seat_calm : ((s : SlotId) → HasAsMany (seat_at p n) w s) → StaysCalm p (with_seat p n w)
  seat_calm many = record { slots = refl; calm = λ s. seat_calm_at s (many s) }

-- a slot is written, and its fields stay
module _ (p : Plain) (x : SlotId) (y : PlainSlot) (there : x.0 < length p.slots)
    (strong : (t : SlotId) → strong_fields t y ≡ strong_fields t (slot_at p x))
    (weak : (t : SlotId) → weak_fields t y ≡ weak_fields t (slot_at p x)) where
  slot_calm : (IsCalm p x → IsCalm (with_slot p x y) x) → StaysCalm p (with_slot p x y)
  slot_calm here = record {
    slots = length-set p.slots x.0 y;
    calm = λ s. ⊎_elim
        (λ (same : s ≡ x). subst (λ (z : SlotId). IsCalm p z → IsCalm (with_slot p x y) z) (sym same) here)
        (λ (ne : s.0 ≢ x.0).
        let e = slot_other p x y s ne in
        let c = slot_change p x y s there in
        let own : own_reference (stage_at (with_slot p x y) s) ≡ own_reference (stage_at p s) = ap (λ (z : PlainSlot). own_reference z.stage) e in
        calm_on p (with_slot p x y) s (ap (λ (z : PlainSlot). z.stage) e)
        (omega (arith, c.strong, strong s)) (omega (arith, c.weak, weak s, own)))
        (cases_slot s x);
  }

  -- where it is blank then, it is calm
  blank_calm : y.stage ≡ Blank → StaysCalm p (with_slot p x y)
  blank_calm blank =
      let stage : stage_at (with_slot p x y) x ≡ Blank = ap (λ (z : PlainSlot). z.stage) (slot_same p x y there) ∙ blank in
      slot_calm (λ calm. calm_other (with_slot p x y) x (λ live. cc) (λ husk. cc))

-- a slot with a reference is made
made_calm : (p : Plain) (x : SlotId) (y : PlainSlot) → x.0 < length p.slots → ((t : SlotId) → strong_fields t y ≡ strong_fields t (slot_at p x))
    → ((t : SlotId) → weak_fields t y ≡ weak_fields t (slot_at p x)) → y.stage ≡ Live → 0 < strong_refs p x → StaysCalm p (with_slot p x y)
made_calm p x y there strong weak live some =
    let stage : stage_at (with_slot p x y) x ≡ Live = ap (λ (z : PlainSlot). z.stage) (slot_same p x y there) ∙ live in
    let c = slot_change p x y x there in
    slot_calm p x y there strong weak (λ calm. (λ _. omega (arith, c.strong, strong x, some), λ husk. absurd cc))

-- a place takes what the seat gives up, and what it held is deferred
replace_calm : (p q : Plain) (place : EventPlace) (new : Option SlotId) → Sound p → 0 < length p.seats → IsOpen p 0 place → Replaces p 0 place new q → StaysCalm p q
replace_calm p q place new so here opened (w, gives, e) =
    let there = open_there p 0 place so here opened in
    subst (StaysCalm p) (sym e) (record {
      slots = replaced_size p place new w;
      calm = λ s. calm_same p (replaced p place new w) s (replaced_objects p place new w there s).0 (replaced_refs p place new w here there gives s);
    })

-- the steps that give up no reference, and that end, destroy or give no slot
abbrev pub GivesUpNothing : PlainAct → Type 0
GivesUpNothing (act.Drop s) = ⊥
GivesUpNothing (act.WeakDrop s) = ⊥
GivesUpNothing (act.Eject k s) = ⊥
GivesUpNothing (act.End s) = ⊥
GivesUpNothing (act.Clear place) = ⊥
GivesUpNothing (act.Destroy s) = ⊥
GivesUpNothing (act.Give s) = ⊥
GivesUpNothing (act.Leave j) = ⊥
GivesUpNothing _ = Unit {0}

pub step_calm : (p q : Plain) (a : PlainAct) (found : ℕ) → Sound p → GivesUpNothing a → Does p 0 a found q → StaysCalm p q
step_calm p q (act.Claim s) found so gives d =
    let v = seat_at p 0 in
    let w : PlainSeat = record v { filling = Some s } in
    subst (StaysCalm p) (sym d.1.4)
    (calm_then p (with_seat p 0 w) _ (seat_calm p 0 w d.0.0 (λ t. (omega arith, omega arith)))
    (blank_calm (with_seat p 0 w) s (record (slot_at p s) { stage = Blank }) d.1.0 (λ t. refl) (λ t. refl) refl))
step_calm p q (act.Fill s i word) found so gives d =
    subst (StaysCalm p) (sym d.1.4) (blank_calm p s _ (is_there p s (let b = d.1.0 in λ free. cc)) (λ t. refl) (λ t. refl) d.1.0)
step_calm p q (act.Make s) found so gives d =
    let v = seat_at p 0 in
    let w : PlainSeat = record v { owned = v.owned ++ s ∷ []; filling = None; adds = v.adds + 1 } in
    let c = seat_change p 0 w s d.0.0 in
    let own = held_self s in
    subst (StaysCalm p) (sym d.1.3)
    (calm_then p (with_seat p 0 w) _ (seat_calm p 0 w d.0.0 (λ t. (omega (arith, times_push t s v.owned), omega arith)))
    (made_calm (with_seat p 0 w) s _ (is_there p s (let b = d.1.0 in λ free. cc)) (λ t. refl) (λ t. refl) refl (omega (arith, c.strong, times_push s s v.owned, own))))
step_calm p q (act.Add s) found so gives d =
    let v = seat_at p 0 in
    ⊎_elim
    (λ up. subst (StaysCalm p) (sym up.2)
    (seat_calm p 0 (record v { owned = v.owned ++ s ∷ []; adds = v.adds + 1 }) d.0.0 (λ t. (omega (arith, times_push t s v.owned), omega arith))))
    (λ refused. subst (StaysCalm p) (sym refused.2) (seat_calm p 0 (record v { adds = v.adds + 1 }) d.0.0 (λ t. (omega arith, omega arith))))
    d.1.1
step_calm p q (act.WeakGain s) found so gives d =
    let v = seat_at p 0 in
    subst (StaysCalm p) (sym d.1.2)
    (seat_calm p 0 (record v { weaks = v.weaks ++ s ∷ []; adds = v.adds + 1 }) d.0.0 (λ t. (omega arith, omega (arith, times_push t s v.weaks))))
step_calm p q (act.Look place) found so gives d = calm_still p q d.1.2
step_calm p q (act.Check j place) found so gives d =
    ⊎_elim
    (λ same. calm_still p q same)
    (λ taken.
    let gain = taken.2 in
    subst (StaysCalm p) (sym gain.2)
    (seat_calm p 0 (record (seat_at p 0) { snapshots = gain.0 }) d.0.0 (λ t. (omega arith, omega arith))))
    d.1.2
step_calm p q (act.EndSnapshot k s) found so gives d =
    subst (StaysCalm p) (sym d.1.3) (seat_calm p 0 (record (seat_at p 0) { snapshots = d.1.0 }) d.0.0 (λ t. (omega arith, omega arith)))
step_calm p q (act.Replace place new) found so gives d = replace_calm p q place new so d.0.0 d.1.0 d.1.2
step_calm p q (act.TryReplace place old new) found so gives d =
    ⊎_elim (λ done. replace_calm p q place new so d.0.0 d.1.0 done.1) (λ lost. calm_still p q lost.1) d.1.2
step_calm p q (act.Count s) found so gives d = calm_still p q d.1.2
step_calm p q (act.Mark s) found so gives d =
    ⊎_elim
    (λ same. calm_still p q same.0)
    (λ zero.
    let none = zero.1 in
    let live = zero.0 in
    subst (StaysCalm p) (sym zero.2)
    (slot_calm p s (record (slot_at p s) { marked = true }) (is_there p s (λ free. cc)) (λ t. refl) (λ t. refl)
    (λ calm. absurd (let some = calm.0 zero.0 in omega arith))))
    d.1.1
step_calm p q (act.WeakCount s) found so gives d = calm_still p q d.1.2
step_calm p q (act.See s i) found so gives d = calm_still p q d.1.3
step_calm p q act.Split found so gives d =
    let same = d.1.1 in
    subst (StaysCalm p) (sym same.2)
    (seat_calm p 0 (record (seat_at p 0) { deferred = same.0 }) d.0.0 (λ t. (omega (arith, same.1 Strong t), omega (arith, same.1 Weak t))))
step_calm p q act.Ticket found so gives d =
    let v = seat_at p 0 in
    let c = seat_calm p 0 (record v { adds = v.adds + 1 }) d.0.0 (λ t. (omega arith, omega arith)) in
    subst (StaysCalm p) (sym d.1.1) (record { slots = c.slots; calm = c.calm })
step_calm p q (act.Alive j) found so gives d =
    ⊎_elim
    (λ ended. calm_still p q ended.1)
    (λ taken.
    let gain = taken.2 in
    subst (StaysCalm p) (sym gain.2)
    (seat_calm p 0 (record (seat_at p 0) { snapshots = gain.0 }) d.0.0 (λ t. (omega arith, omega arith))))
    d.1.3
step_calm p q act.Still found so gives d = calm_still p q d.1.1
step_calm p q _ found so gives d = absurd gives

-- several such steps in turn
abbrev pub GiveUpNothing : List PlainAct → Type 0
GiveUpNothing [] = Unit {0}
GiveUpNothing (a ∷ more) = GivesUpNothing a × GiveUpNothing more

pub runs_calm : (acts : List PlainAct) (p q : Plain) → Sound p → GiveUpNothing acts → Runs p 0 acts q → StaysCalm p q
runs_calm [] p q so gives e = calm_still p q e
runs_calm (a ∷ more) p q so gives (m, found, d, rest) =
    calm_then p m q (step_calm p m a found so gives.0 d) (runs_calm more m q (step_sound p m 0 a found so d) gives.1 rest)

-- a drop takes one reference to its slot away
pub drop_calm : (p q : Plain) (x : SlotId) (found : ℕ) → Does p 0 (act.Drop x) found q → StaysCalmBut x p q
drop_calm p q x found d =
    let v = seat_at p 0 in
    let w : PlainSeat = record v { owned = d.1.0 } in
    subst (StaysCalmBut x p) (sym d.1.3) (record {
      slots = refl;
      calm = λ s ne. seat_calm_at p 0 w d.0.0 s
          (let o = held_other s x (λ e. ne (slot_is s x (sym e))) in (omega (arith, times_loses s x v.owned d.1.0 d.1.1), omega arith));
    })

pub weak_drop_calm : (p q : Plain) (x : SlotId) (found : ℕ) → Does p 0 (act.WeakDrop x) found q → StaysCalmBut x p q
weak_drop_calm p q x found d =
    let v = seat_at p 0 in
    let w : PlainSeat = record v { weaks = d.1.0 } in
    subst (StaysCalmBut x p) (sym d.1.3) (record {
      slots = refl;
      calm = λ s ne. seat_calm_at p 0 w d.0.0 s
          (let o = held_other s x (λ e. ne (slot_is s x (sym e))) in (omega arith, omega (arith, times_loses s x v.weaks d.1.0 d.1.1)));
    })
