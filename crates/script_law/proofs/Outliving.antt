-- What lives when all is tidied lives at every step of every tidying.
use Rattle.std.proofs.Common.{◌≡◌, ◌≢◌, ◌⊎◌, ⊎_elim, ℕ, suc, ◌<◌, List, [], ◌∷◌, ◌++◌, length, get_or, refl, ap, sym, ◌∙◌, subst, arith, true}
use Rattle.std.proofs.lemmas.List.Sums.{sum_by-cons}
use Rattle.script_desk.specs.plain_state.declared.act.PlainAct.{PlainAct}
use Rattle.script_desk.specs.plain_state.declared.act.PlainAct.TheVariants as act
use Rattle.script_desk.specs.plain_state.declared.slot.Kind.TheVariants.{Strong}
use Rattle.script_desk.specs.plain_state.declared.slot.PlainSlot.{PlainSlot}
use Rattle.script_desk.specs.plain_state.declared.slot.SlotId.{SlotId}
use Rattle.script_desk.specs.plain_state.declared.slot.Stage.{Stage}
use Rattle.script_desk.specs.plain_state.declared.slot.Stage.TheVariants.{Free, Blank, Live, Ended, Husk}
use Rattle.script_desk.specs.plain_state.Lawful.{IsVacant}
use Rattle.script_desk.specs.plain_state.Lists.{cell_times, entry_times, times}
use Rattle.script_desk.specs.plain_state.Places.{content, place_kind}
use Rattle.script_desk.specs.plain_state.References.{held_in, over_slots, snapshot_times, strong_fields, strong_refs}
use Rattle.script_desk.specs.plain_state.Sound.{Sound}
use Rattle.script_desk.specs.plain_state.State.{Plain, PlainSeat, new_slot, with_slot, seat_at, slot_at, stage_at, with_seat}
use Rattle.script_desk.specs.plain_state.Steps.{Does, joined}
use Rattle.script_desk.proofs.Below.plain_state_Changes.{slot_other}
use Rattle.script_desk.proofs.Below.plain_state_Kit.{cases_slot, held_none, none_by, none_or_some, slots_at, times_lost, times_none}
use Rattle.script_desk.proofs.Below.plain_state_SeatRows.{is_there}
use Rattle.script_desk.proofs.Below.plain_state_SlotRows.{dying_ended}
use Rattle.script_desk.specs.plain_store.Settling.{IsSettled}
use Rattle.script_desk.specs.plain_settling.Settling.{Tidies}
use Rattle.script_desk.proofs.Below.plain_audit_Numbers.{seat_alone}
use Rattle.script_desk.specs.heap_audit.Heaps.{slot}
use Rattle.script_law.specs.Renamings.{IsRenaming}
use Rattle.script_law.specs.States.{StatesAlike}
use Rattle.script_law.proofs.Counts.{cells_renamed}
use Rattle.script_law.proofs.States.{fields_of, strong_fields_alike}
use Rattle.script_law.proofs.Fates.{Tidying, there}
use Rattle.script_law.proofs.Tidying.{cleared}

-- a slot of which something is counted
some_slot : (f : PlainSlot → ℕ) (xs : List PlainSlot) → 0 < over_slots f xs
    → (i : ℕ) × (i < length xs) × (0 < f (get_or xs i new_slot))
unfolding over_slots
some_slot f [] h = absurd (omega arith)
some_slot f (x ∷ xs) h =
    let c = sum_by-cons f x xs in
    ⊎_elim
    (λ (none : f x ≡ 0). let m = some_slot f xs (omega arith) in (suc m.0, omega (arith, m.1), m.2))
    (λ (some : 0 < f x). (0, omega arith, some))
    (none_or_some (f x))

-- nothing has ended that isn't destroyed, where all is tidied
pub none_ended : (p : Plain) (s : SlotId) → Sound p → length p.seats ≡ 1 → IsSettled p → stage_at p s ≢ Ended
none_ended p s so one settled ended =
    let some = (so.lawful.dying s).0 ended in
    let a = seat_alone (λ v. times s v.dying) p one in
    let b = ap (times s) settled.destroyed in
    let c = times_none s in omega arith

-- what has strong fields that hold something is alive there
holder_lives : (p : Plain) (s t : SlotId) → Sound p → length p.seats ≡ 1 → IsSettled p → 0 < strong_fields s (slot_at p t)
    → stage_at p t ≡ Live
holder_lives p s t so one settled some = of (stage_at p t) refl
  where
    vacant : IsVacant (slot_at p t) → ⊥
    vacant v =
        let null = so.lawful.nulls t v in
        let a = ap (held_in s) null.0 in
        let b = ap (held_in s) null.1 in
        let z = held_none s in omega arith

    of : (x : Stage) → stage_at p t ≡ x → stage_at p t ≡ Live
    of Live e = e
    of Free e = absurd (vacant ((λ l. cc), (λ f. cc)))
    of Blank e = absurd (vacant ((λ l. cc), (λ f. cc)))
    of Husk e = absurd (vacant ((λ l. cc), (λ f. cc)))
    of Ended e = absurd (none_ended p t so one settled e)

-- an object that may end has no references
without_refs : (p : Plain) (s : SlotId) → Sound p → ((slot_at p s).marked ≡ true) ⊎ (strong_refs p s ≡ 0) → strong_refs p s ≡ 0
without_refs p s so cases =
    ⊎_elim
    (λ (m : (slot_at p s).marked ≡ true). none_by (strong_refs p s) (λ some. let e = (so.lawful.strong s some).1 in cc))
    (λ z. z)
    cases

-- p' is p by the new names, and settles to q'
module _ (to from : SlotId → SlotId) (p p' q' : Plain) (r : IsRenaming (length p.slots) to from) (alike : StatesAlike to p p')
    (t' : Tidying p' q') (settled : IsSettled q') where
  -- what lives there is alive in m
  abbrev pub Outlived : Plain → Type 0
  Outlived m = (s : SlotId) → stage_at q' (to s) ≡ Live → stage_at m s ≡ Live

  pub outlived_first : Outlived p
  outlived_first s live =
      sym (alike.slots s).stage ∙ ap (λ (x : PlainSlot). x.stage) (sym ((t'.slots.fates (to s)).live live)) ∙ live

  module _ (m : Plain) (t : Tidying p m) (lives : Outlived m) where
    -- a field that holds it in the end holds it in m
    held_there : (s u : SlotId) → 0 < strong_fields (to s) (slot_at q' u) → 0 < strong_refs m s
    held_there s u some =
        let live' : stage_at q' u ≡ Live = holder_lives q' (to s) u t'.sound t'.seats settled some in
        let v = from u in
        let is : to v ≡ u = r.forth u in
        let live : stage_at m v ≡ Live = lives v (ap (stage_at q') is ∙ live') in
        let one : slot_at q' u ≡ slot_at p' (to v) = (t'.slots.fates u).live live' ∙ ap (slot_at p') (sym is) in
        let two : slot_at m v ≡ slot_at p v = (t.slots.fates v).live live in
        let a = ap (strong_fields (to s)) one in
        let b = strong_fields_alike to from (length p.slots) r s (slot_at p v) (slot_at p' (to v))
        (fields_of to (slot_at p v) (slot_at p' (to v)) (alike.slots v)) in
        let c = ap (strong_fields s) two in
        let d = slots_at (strong_fields s) m.slots v.0 (is_there m v (λ f. cc)) in omega arith

    -- what has no references in m isn't alive in the end
    apart_in_the_end : (s : SlotId) → strong_refs m s ≡ 0 → stage_at q' (to s) ≡ Live → ⊥
    apart_in_the_end s none live =
        let some = settled.ended (to s) live in
        let owned = seat_alone (λ v. times (to s) v.owned) q' t'.seats ∙ ap (times (to s)) t'.lists.owned ∙ alike.seat.owned s
        ∙ sym (ap (times s) t.lists.owned) ∙ sym (seat_alone (λ v. times s v.owned) m t.seats) in
        let cells = ap (cell_times (to s)) (t'.slots.cells ∙ alike.cells) ∙ cells_renamed to from r.back r.forth s p.cells
        ∙ sym (ap (cell_times s) t.slots.cells) in
        let waits = seat_alone (λ v. entry_times Strong (to s) v.deferred) q' t'.seats in
        let announced = settled.ejected Strong (to s) in
        let snapshots = ap (entry_times Strong (to s)) t'.lists.snapshots ∙ alike.seat.snapshots Strong s
        ∙ sym (ap (entry_times Strong s) t.lists.snapshots) ∙ sym (seat_alone (λ v. entry_times Strong s v.snapshots) m t.seats) in
        ⊎_elim
        (λ (z : over_slots (strong_fields (to s)) q'.slots ≡ 0).
        ⊎_elim
        (λ (y : snapshot_times Strong m s ≡ 0). omega arith)
        (λ (x : 0 < snapshot_times Strong m s). let covered = t.sound.lawful.covered Strong s x in omega arith)
        (none_or_some (snapshot_times Strong m s)))
        (λ (x : 0 < over_slots (strong_fields (to s)) q'.slots).
        let i = some_slot (strong_fields (to s)) q'.slots x in
        let h = held_there s (slot i.0) i.2 in omega arith)
        (none_or_some (over_slots (strong_fields (to s)) q'.slots))

  -- a slot is written that isn't alive in the end
  written_after : (m : Plain) (s : SlotId) (y : PlainSlot) → Outlived m → (stage_at q' (to s) ≡ Live → ⊥) → Outlived (with_slot m s y)
  written_after m s y lives dead u live =
      ⊎_elim
      (λ (e : u ≡ s). absurd (dead (ap (λ (v : SlotId). stage_at q' (to v)) (sym e) ∙ live)))
      (λ (ne : u.0 ≢ s.0). ap (λ (x : PlainSlot). x.stage) (slot_other m s y u ne) ∙ lives u live)
      (cases_slot u s)

  pub outlived_step : (m q : Plain) (a : PlainAct) (found : ℕ) → Tidying p m → Outlived m → Tidies m a → Does m 0 a found q
      → Outlived q
  outlived_step m q (act.Eject k s) found t lives may (here, (es, loses, z, e, covered)) =
      subst Outlived (sym e) lives
  outlived_step m q act.Split found t lives may (here, (z, (es, same, e))) = subst Outlived (sym e) lives
  outlived_step m q (act.End s) found t lives may (here, (live, none, z, e)) =
      let w : PlainSeat = record (seat_at m 0) { dying = (seat_at m 0).dying ++ s ∷ [] } in
      subst Outlived (sym e) (written_after (with_seat m 0 w) s _ lives
      (apart_in_the_end m t lives s (without_refs m s t.sound none)))
  outlived_step m q (act.Clear place) found t lives may (here, (dying, z, e)) =
      let w : PlainSeat = record (seat_at m 0) { deferred = joined (place_kind place) (content m place) (seat_at m 0).deferred } in
      let c = cleared m place w dying t.sound (there p m t w) in
      subst Outlived (sym (e ∙ c.3)) (written_after (with_seat m 0 w) c.0 c.1 lives
      (λ l. let ended = c.2 in let live = lives c.0 l in cc))
  outlived_step m q (act.Destroy s) found t lives may (here, (nulls, unseen, z, (xs, loses, e))) =
      let w : PlainSeat = record (seat_at m 0) { dying = xs } in
      let ended = dying_ended m 0 s t.sound (there p m t w) (times_lost s (seat_at m 0).dying xs loses) in
      subst Outlived (sym e) (written_after (with_seat m 0 w) s _ lives (λ l. let live = lives s l in cc))
  outlived_step m q (act.Give s) found t lives may (here, (husk, none, z, e)) =
      subst Outlived (sym e) (written_after m s _ lives (λ l. let live = lives s l in cc))
  outlived_step m q _ found t lives may d = absurd may
