-- Nothing of an orderly desk refers to a free slot.
use Rattle.std.proofs.Common.{◌≡◌, ⊎_elim, ◌<◌, ◌≤◌, length, ap, arith}
use Rattle.std.proofs.lemmas.Bool.{cases_lt}
use Rattle.std.proofs.lemmas.List.{get_or_past}
use Rattle.script_desk.specs.plain_state.declared.slot.Kind.{Kind}
use Rattle.script_desk.specs.plain_state.declared.slot.Kind.TheVariants.{Strong, Weak, Disposal}
use Rattle.script_desk.specs.plain_state.declared.slot.PlainSlot.{PlainSlot}
use Rattle.script_desk.specs.plain_state.declared.slot.SlotId.{SlotId}
use Rattle.script_desk.specs.plain_state.declared.slot.Stage.TheVariants.{Free}
use Rattle.script_desk.specs.plain_state.Lawful.{HasNullFields}
use Rattle.script_desk.specs.plain_state.Lists.{cell_times, entry_times, times}
use Rattle.script_desk.specs.plain_state.References.{held_in, snapshot_times, strong_fields, strong_refs, weak_fields, weak_refs}
use Rattle.script_desk.specs.plain_state.Sound.{Sound}
use Rattle.script_desk.specs.plain_state.State.{Plain, new_slot, seat_at, slot_at, stage_at}
use Rattle.script_desk.proofs.Below.plain_state_Kit.{held_none, none_by, slots_at}
use Rattle.script_desk.proofs.Below.plain_audit_Numbers.{seat_alone}
use Rattle.script_law.specs.Orderly.{IsQuiet}

module _ (p : Plain) (so : Sound p) (one : length p.seats ≡ 1) (quiet : IsQuiet p) (s : SlotId) (free : stage_at p s ≡ Free) where
  no_strong : strong_refs p s ≡ 0
  no_strong = none_by (strong_refs p s) (λ some. let live = (so.lawful.strong s some).0 in absurd cc)

  no_weak : weak_refs p s ≡ 0
  no_weak = none_by (weak_refs p s) (λ some. so.lawful.weak s some free)

  pub owned_none : times s (seat_at p 0).owned ≡ 0
  owned_none = let a = seat_alone (λ v. times s v.owned) p one in let n = no_strong in omega arith

  pub weaks_none : times s (seat_at p 0).weaks ≡ 0
  weaks_none = let a = seat_alone (λ v. times s v.weaks) p one in let n = no_weak in omega arith

  pub deferred_none : (k : Kind) → entry_times k s (seat_at p 0).deferred ≡ 0
  deferred_none Strong = let a = seat_alone (λ v. entry_times Strong s v.deferred) p one in let n = no_strong in omega arith
  deferred_none Weak = let a = seat_alone (λ v. entry_times Weak s v.deferred) p one in let n = no_weak in omega arith
  deferred_none Disposal = quiet s

  snapshots_of : (k : Kind) → (0 < snapshot_times k p s → ⊥) → entry_times k s (seat_at p 0).snapshots ≡ 0
  snapshots_of k not =
      let a = seat_alone (λ v. entry_times k s v.snapshots) p one in
      let z = none_by (snapshot_times k p s) not in omega arith

  pub snapshots_none : (k : Kind) → entry_times k s (seat_at p 0).snapshots ≡ 0
  snapshots_none Strong = snapshots_of Strong (λ h. let c = so.lawful.covered Strong s h in let n = no_strong in omega arith)
  snapshots_none Weak = snapshots_of Weak (λ h. let c = so.lawful.covered Weak s h in let n = no_weak in omega arith)
  snapshots_none Disposal = snapshots_of Disposal (λ h. let c = so.lawful.covered Disposal s h in ⊎_elim (λ e. cc) (λ e. cc) c)

  pub cells_unheld : cell_times s p.cells ≡ 0
  cells_unheld = let n = no_strong in omega arith

  pub weak_cells_unheld : cell_times s p.weak_cells ≡ 0
  weak_cells_unheld = let n = no_weak in omega arith

  -- a slot that isn't there holds nothing
  past_nulls : (t : SlotId) → length p.slots ≤ t.0 → HasNullFields (slot_at p t)
  past_nulls t past =
      let e : slot_at p t ≡ new_slot = get_or_past p.slots t.0 new_slot past in
      (ap (λ (x : PlainSlot). x.first) e, ap (λ (x : PlainSlot). x.second) e, ap (λ (x : PlainSlot). x.weak_field) e)

  strong_unheld : (t : SlotId) → strong_fields s (slot_at p t) ≡ 0
  strong_unheld t =
      ⊎_elim
      (λ lt. let a = slots_at (strong_fields s) p.slots t.0 lt in let n = no_strong in omega arith)
      (λ past.
      let null = past_nulls t past in
      let a = ap (held_in s) null.0 in
      let b = ap (held_in s) null.1 in
      let z = held_none s in omega arith)
      (cases_lt t.0 (length p.slots))

  pub first_unheld : (t : SlotId) → held_in s (slot_at p t).first ≡ 0
  first_unheld t = let a = strong_unheld t in omega arith

  pub second_unheld : (t : SlotId) → held_in s (slot_at p t).second ≡ 0
  second_unheld t = let a = strong_unheld t in omega arith

  pub weak_unheld : (t : SlotId) → held_in s (slot_at p t).weak_field ≡ 0
  weak_unheld t =
      ⊎_elim
      (λ lt. let a = slots_at (weak_fields s) p.slots t.0 lt in let n = no_weak in omega arith)
      (λ past. let null = past_nulls t past in let b = ap (held_in s) null.2 in let z = held_none s in omega arith)
      (cases_lt t.0 (length p.slots))
