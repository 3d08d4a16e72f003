-- What a calm step of the real plain state leaves beside what `calm_leaves` says: what is referred to stays live, and
-- what is referred to weakly isn't filled anew.
use Rattle.std.proofs.Common.{◌≡◌, ◌≢◌, ◌⊎◌, inl, inr, ⊎_elim, ℕ, ◌<◌, Bool, true, false, List, length, get_or, set, refl, sym, ap, subst, ◌∙◌, arith, None}
use Rattle.std.specs.Prelude.{slice_set}
use Rattle.std.proofs.lemmas.List.{get_or-set_same, get_or-set_other, set_past}
use Rattle.std.proofs.lemmas.Bool.{cases_lt, false≢true}
use Rattle.plain_protocol.specs.plain_state.declared.act.EventPlace.{EventPlace}
use Rattle.plain_protocol.specs.plain_state.declared.act.EventPlace.TheVariants.{Cell, Field, WeakCell, WeakField}
use Rattle.plain_protocol.specs.plain_state.declared.act.PlainAct.{PlainAct}
use Rattle.plain_protocol.specs.plain_state.declared.act.PlainAct.TheVariants as act
use Rattle.plain_protocol.specs.plain_state.declared.slot.PlainSlot.{PlainSlot}
use Rattle.plain_protocol.specs.plain_state.declared.slot.SlotId.{SlotId}
use Rattle.plain_protocol.specs.plain_state.declared.slot.Stage.TheVariants.{Free, Blank, Live, Ended, Husk}
use Rattle.plain_protocol.specs.plain_state.Lists.{times}
use Rattle.plain_protocol.specs.plain_state.References.{strong_refs, weak_refs}
use Rattle.plain_protocol.specs.plain_state.State.{Plain, PlainSeat, new_slot, slot_at, stage_at, with_seat, with_slot}
use Rattle.plain_protocol.specs.plain_state.Lawful.{Lawful}
use Rattle.plain_protocol.specs.plain_state.Places.{with_content}
use Rattle.plain_protocol.specs.plain_state.Steps.{Does}
use Rattle.plain_protocol.proofs.Below.plain_state_Kit.{cases_slot, seats_at, times_lost}
use Rattle.plain_protocol.specs.Acts.{IsCalm}

-- how the stage of a slot may change
abbrev pub Turns : Plain → Plain → SlotId → Type 0
Turns p q s = (stage_at q s ≡ stage_at p s)
    ⊎ (((stage_at p s ≡ Free) × (stage_at q s ≡ Blank))
    ⊎ (((stage_at p s ≡ Live) × ((slot_at p s).marked ≡ true ⊎ (strong_refs p s ≡ 0))
    × (stage_at q s ≡ Ended))
    ⊎ (((stage_at p s ≡ Ended) × (stage_at q s ≡ Husk))
    ⊎ ((stage_at p s ≡ Husk) × (stage_at q s ≡ Free)))))

written : (xs : List PlainSlot) (x s : SlotId) (y : PlainSlot)
    → (get_or (set xs x.0 y) s.0 new_slot ≡ get_or xs s.0 new_slot)
    ⊎ ((s ≡ x) × (get_or (set xs x.0 y) s.0 new_slot ≡ y))
written xs x s y = ⊎_elim
    (λ (same : s ≡ x). ⊎_elim
    (λ low. inr (
      same,
      ap (λ (z : SlotId). get_or (set xs x.0 y) z.0 new_slot) same
          ∙ get_or-set_same xs x.0 y new_slot low,
    ))
    (λ past. inl (ap (λ l. get_or l s.0 new_slot) (set_past xs x.0 y past)))
    (cases_lt x.0 (length xs)))
    (λ ne. inl (get_or-set_other xs x.0 s.0 y new_slot ne)) (cases_slot s x)

same_slots : (p q : Plain) → q.slots ≡ p.slots → (s : SlotId) → Turns p q s
same_slots p q e s = inl (ap (λ l. (get_or l s.0 new_slot).stage) e)

by_seat : (p q r : Plain) → r.slots ≡ p.slots → q ≡ r → (s : SlotId) → Turns p q s
by_seat p q r e is = same_slots p q (ap (λ (z : Plain). z.slots) is ∙ e)

by_slot : (p q r : Plain) (x : SlotId) (y : PlainSlot) → r.slots ≡ p.slots → q ≡ with_slot r x y
    → ((s : SlotId) → s ≡ x → stage_at q s ≡ y.stage → Turns p q s) → (s : SlotId) → Turns p q s
by_slot p q r x y e is turn s =
    let all : q.slots ≡ set p.slots x.0 y = ap (λ (z : Plain). z.slots) is ∙ ap (λ l. set l x.0 y) e in
    let at : slot_at q s ≡ get_or (set p.slots x.0 y) s.0 new_slot =
    ap (λ l. get_or l s.0 new_slot) all in
    ⊎_elim
    (λ old. inl (ap (λ (z : PlainSlot). z.stage) (at ∙ old)))
    (λ new. turn s new.0 (ap (λ (z : PlainSlot). z.stage) (at ∙ new.1)))
    (written p.slots x s y)

cleared : (p q r : Plain) (place : EventPlace) → r.slots ≡ p.slots → q ≡ with_content r place None
    → (s : SlotId) → Turns p q s
cleared p q r (Cell i) e is = same_slots p q (ap (λ (z : Plain). z.slots) is ∙ e)
cleared p q r (Field x i) e is = by_slot p q r x _ e is
    (λ s same st. inl (st ∙ (field_stage (Rattle.std.specs.Prelude.◌==◌ i 0) (slot_at r x)
    ∙ (ap (λ l. (get_or l x.0 new_slot).stage) e ∙ ap (λ (z : SlotId). stage_at p z) (sym same)))))
  where
    field_stage : (b : Bool) (x : PlainSlot)
        → (Rattle.std.specs.Prelude.if◌then◌else◌ b (record x { first = None })
        (record x { second = None })).stage ≡ x.stage
    field_stage true x = refl
    field_stage false x = refl
cleared p q r (WeakCell i) e is = same_slots p q (ap (λ (z : Plain). z.slots) is ∙ e)
cleared p q r (WeakField x) e is = by_slot p q r x _ e is
    (λ s same st. inl (st ∙ (ap (λ l. (get_or l x.0 new_slot).stage) e ∙ ap (λ (z : SlotId). stage_at p z)
    (sym same))))

pub calm_turns : (p q : Plain) (n : ℕ) (step : PlainAct) (found : ℕ) → Lawful p → IsCalm step
    → Does p n step found q → (s : SlotId) → Turns p q s
calm_turns p q n (act.Claim x) found lawful calm d = by_slot p q (with_seat p n _) x _ refl d.1.4
    (λ s same st. inr (inl (ap (λ (z : SlotId). stage_at p z) same ∙ d.1.1, st)))
calm_turns p q n (act.Fill x i word) found lawful calm d = by_slot p q p x _ refl d.1.4
    (λ s same st. inl (st ∙ ap (λ (z : SlotId). stage_at p z) (sym same)))
calm_turns p q n (act.Make x) found lawful calm d = absurd calm
calm_turns p q n (act.Add x) found lawful calm d = ⊎_elim (λ up. by_seat p q (with_seat p n _) refl up.2)
    (λ dead. by_seat p q (with_seat p n _) refl dead.2) d.1.1
calm_turns p q n (act.Drop x) found lawful calm d = by_seat p q (with_seat p n _) refl d.1.3
calm_turns p q n (act.WeakGain x) found lawful calm d = by_seat p q (with_seat p n _) refl d.1.2
calm_turns p q n (act.WeakDrop x) found lawful calm d = by_seat p q (with_seat p n _) refl d.1.3
calm_turns p q n (act.Look place) found lawful calm d = by_seat p q p refl d.1.2
calm_turns p q n (act.Check j place) found lawful calm d = ⊎_elim (λ same. by_seat p q p refl same)
    (λ taken. by_seat p q (with_seat p n _) refl taken.2.2) d.1.2
calm_turns p q n (act.Alive j) found lawful calm d = ⊎_elim (λ zero. by_seat p q p refl zero.1)
    (λ alive. by_seat p q (with_seat p n _) refl alive.2.2) d.1.3
calm_turns p q n (act.EndSnapshot k x) found lawful calm d = by_seat p q (with_seat p n _) refl d.1.3
calm_turns p q n (act.Replace place new) found lawful calm d = absurd calm
calm_turns p q n (act.TryReplace place old new) found lawful calm d = absurd calm
calm_turns p q n (act.Count x) found lawful calm d = by_seat p q p refl d.1.2
calm_turns p q n (act.Mark x) found lawful calm d = ⊎_elim (λ same. by_seat p q p refl same.0)
    (λ zero. by_slot p q p x _ refl zero.2
    (λ s same st. inl (st ∙ ap (λ (z : SlotId). stage_at p z) (sym same)))) d.1.1
calm_turns p q n (act.WeakCount x) found lawful calm d = by_seat p q p refl d.1.2
calm_turns p q n (act.See x i) found lawful calm d = by_seat p q p refl d.1.3
calm_turns p q n (act.Eject k x) found lawful calm d = by_seat p q (with_seat p n _) refl d.1.3
calm_turns p q n (act.End x) found lawful calm d = by_slot p q (with_seat p n _) x _ refl d.1.3
    (λ s same st. inr (inr (inl (
      ap (λ (z : SlotId). stage_at p z) same ∙ d.1.0,
      subst (λ (z : SlotId). (slot_at p z).marked ≡ true ⊎ (strong_refs p z ≡ 0)) (sym same) d.1.1,
      st,
    ))))
calm_turns p q n (act.Clear place) found lawful calm d = cleared p q (with_seat p n _) place refl d.1.2
calm_turns p q n (act.Destroy x) found lawful calm d =
    let at = seats_at (λ (v : PlainSeat). times x v.dying) p.seats n d.0.0 in
    let some_times = times_lost x _ _ d.1.3.1 in
    let ended : stage_at p x ≡ Ended = (lawful.dying x).1 (omega arith) in
    by_slot p q (with_seat p n _) x _ refl d.1.3.2
    (λ s same st. inr (inr (inr (inl (ap (λ (z : SlotId). stage_at p z) same ∙ ended, st)))))
calm_turns p q n (act.Give x) found lawful calm d = by_slot p q p x _ refl d.1.3
    (λ s same st. inr (inr (inr (inr (ap (λ (z : SlotId). stage_at p z) same ∙ d.1.0, st)))))
calm_turns p q n (act.Leave j) found lawful calm d = absurd calm
calm_turns p q n act.Ticket found lawful calm d = absurd calm
calm_turns p q n act.Split found lawful calm d = by_seat p q (with_seat p n _) refl d.1.1.2
calm_turns p q n act.Still found lawful calm d = by_seat p q p refl d.1.1

-- what is referred to stays live
pub stays : (p q : Plain) (n : ℕ) (step : PlainAct) (found : ℕ) → Lawful p → IsCalm step
    → Does p n step found q → (s : SlotId) → 0 < strong_refs p s → stage_at q s ≡ Live
stays p q n step found lawful calm d s refs =
    let live = (lawful.strong s refs).0 in
    ⊎_elim (λ same. same ∙ live)
    (λ a. ⊎_elim (λ f. absurd (let e = sym f.0 ∙ live in cc))
    (λ b. ⊎_elim
    (λ ends. ⊎_elim (λ marked. absurd (false≢true (sym (lawful.strong s refs).1 ∙ marked)))
    (λ none. absurd (omega arith)) ends.1)
    (λ c. ⊎_elim (λ f. absurd (let e = sym f.0 ∙ live in cc))
    (λ f. absurd (let e = sym f.0 ∙ live in cc)) c) b) a)
    (calm_turns p q n step found lawful calm d s)

-- what is referred to weakly, and isn't blank, doesn't become blank
pub solid : (p q : Plain) (n : ℕ) (step : PlainAct) (found : ℕ) → Lawful p → IsCalm step
    → Does p n step found q → (s : SlotId) → 0 < weak_refs p s → stage_at p s ≢ Blank
    → stage_at q s ≢ Blank
solid p q n step found lawful calm d s refs not blank =
    ⊎_elim (λ same. not (sym same ∙ blank))
    (λ a. ⊎_elim (λ f. lawful.weak s refs f.0)
    (λ b. ⊎_elim (λ ends. let e = sym ends.2 ∙ blank in absurd cc)
    (λ c. ⊎_elim (λ f. let e = sym f.1 ∙ blank in absurd cc) (λ f. let e = sym f.1 ∙ blank in
    absurd cc) c) b) a)
    (calm_turns p q n step found lawful calm d s)
