-- A new store is kept.
use Rattle.std.proofs.Common.{◌≡◌, ℕ, ◌^◌, ◌≤◌, length, replicate, ap, sym, ◌∙◌, subst, arith, lit<}
use Rattle.std.proofs.lemmas.List.{length-replicate, get_or-replicate}
use Rattle.plain_state.specs.Limits.{most_slots}
use Rattle.plain_state.specs.declared.slot.Kind.TheVariants.{Disposal}
use Rattle.plain_state.specs.declared.slot.PlainSlot.{PlainSlot}
use Rattle.plain_state.specs.declared.slot.SlotId.{SlotId}
use Rattle.plain_state.specs.declared.slot.Stage.TheVariants.{Free}
use Rattle.plain_store.specs.Heaps.{NoDisposals}
use Rattle.plain_store.specs.declared.store.Store.{Store}
use Rattle.plain_state.specs.State.{Plain, new_slot, stage_at, empty}
use Rattle.plain_state.specs.Sound.{Sound}
use Rattle.plain_store.specs.Stores.{plain_of, Tallied, Kept}
use Rattle.plain_state.proofs.Kit.{entry_none}
use Rattle.plain_state.proofs.Start.{every_slot_new, empty_sound}
use Rattle.plain_store.proofs.Stores.{free_strong, free_weak}

module _ (slots cells weak_cells : ℕ) where
  abbrev new : Plain
  new = empty 1 slots cells weak_cells

  all_free : (s : SlotId) → stage_at new s ≡ Free
  all_free s = ap (λ (x : PlainSlot). x.stage) (every_slot_new 1 slots cells weak_cells s)

  tallied_new : Tallied new (replicate slots 0) (replicate slots 0)
  tallied_new =
      let so = empty_sound 1 slots cells weak_cells in
      let size = length-replicate slots new_slot in
      record {
        strong_size = length-replicate slots 0 ∙ sym size;
        weak_size = length-replicate slots 0 ∙ sym size;
        strong = λ s lt. get_or-replicate slots s.0 0 0 (omega arith) ∙ sym (free_strong new s so (all_free s));
        weak = λ s lt. get_or-replicate slots s.0 0 0 (omega arith) ∙ sym (free_weak new s so (all_free s));
      }

  pub kept_new : (h : Store) → plain_of h ≡ new → h.strong.items ≡ replicate slots 0 → h.weak.items ≡ replicate slots 0
      → h.adds ≡ 0 → slots ≤ most_slots → h.next ≡ 0 → Kept h
  kept_new h e f g adds fits next =
      let size : length h.slots.items ≡ slots = ap (λ (p : Plain). length p.slots) e ∙ length-replicate slots new_slot in
      record {
        sound = subst Sound (sym e) (empty_sound 1 slots cells weak_cells);
        disposals = subst NoDisposals (sym e) (record { snapshots = λ s. entry_none Disposal s; deferred = λ s. entry_none Disposal s });
        tallied = subst (λ (p : Plain). Tallied p h.strong.items h.weak.items) (sym e) (rw (f, g) tallied_new);
        adds = rw adds (lit< tt);
        slots = omega arith;
        next = omega arith;
      }
