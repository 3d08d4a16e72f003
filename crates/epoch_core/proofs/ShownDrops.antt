-- What a reference that is given up shows: a drop or an ejection, and the end of the object where it was the last one.
use Rattle.std.proofs.Common.{◌≡◌, ◌≢◌, inr, ℕ, ◌+◌, ◌<◌, true, false, List, [], ◌∷◌, ◌++◌, set, refl, ap, sym, ◌∙◌, subst, arith}
use Rattle.std.proofs.lemmas.List.{get_or-set_other, get_or-set_same, length-set}
use Rattle.core_law.specs.plain_state.declared.act.PlainAct.{PlainAct}
use Rattle.core_law.specs.plain_state.declared.act.PlainAct.TheVariants as plain
use Rattle.core_law.specs.plain_state.declared.slot.Kind.TheVariants.{Strong}
use Rattle.core_law.specs.plain_state.declared.slot.SlotId.{SlotId}
use Rattle.core_law.specs.plain_state.declared.slot.Stage.TheVariants.{Live, Ended}
use Rattle.core_law.specs.plain_state.Lists.{times, entry_times}
use Rattle.core_law.specs.plain_state.References.{strong_refs}
use Rattle.core_law.specs.plain_state.State.{Plain, PlainSeat, new_seat, seat_at, with_seat, with_slot}
use Rattle.core_law.specs.plain_state.Steps.{Row}
use Rattle.core_law.proofs.Does as does
use Rattle.core_law.proofs.Kit.{one_other, one_same, times_push, times_without}
use Rattle.core_law.proofs.Losing.{loses_without}
use Rattle.core_law.specs.core_events.Views.{without}
use Rattle.core_law.proofs.Lists.{each_same}
use Rattle.epoch_core.specs.declared.shape.EpochShape.{EpochShape}
use Rattle.epoch_core.specs.declared.view.EpochMove.{EpochMove}
use Rattle.epoch_core.specs.declared.view.EpochPhase.TheVariants as phase
use Rattle.epoch_core.specs.declared.view.EpochView.{EpochView}
use Rattle.epoch_core.specs.Views.{Holds}
use Rattle.epoch_core.specs.Slots.{numbers}
use Rattle.epoch_core.specs.Words.{cell_at, count_at, field_at, payload_at}
use Rattle.epoch_core.specs.Runs.{Core, view_at}
use Rattle.epoch_core.specs.Counts.{count, dying_times, refs}
use Rattle.epoch_core.specs.Good.{stage}
use Rattle.epoch_core.specs.Shows.{shows, show_seat, show_slot, lives}
use Rattle.epoch_core.specs.ShownSteps.{Chain, step}
use Rattle.epoch_core.specs.Sound.{Sound}
use Rattle.epoch_core.proofs.Bridge.{shown_slot, shown_strong}
use Rattle.epoch_core.proofs.Held.{held_refs, live_of}
use Rattle.epoch_core.proofs.Parts.{by}
use Rattle.epoch_core.proofs.Put.{moves, stepped}
use Rattle.epoch_core.proofs.ShownFrames.{SameSlot, seat_and_slot, slot_shown, words_off}
use Rattle.epoch_core.proofs.ShownKit.{held_live, held_there, is_seat, is_shown, one_step, seat_listed, seats_set, twice, two_steps}

module _ (z : EpochShape) (c : Core) (n : ℕ) (so : Sound z c) (hn : n < z.seats) where
  abbrev v : EpochView
  v = view_at c n

  abbrev dropped_view : SlotId → List SlotId → List EpochMove → EpochView
  dropped_view s ds t = record v { owned = without s v.owned; dying = ds; trail = t }

  abbrev p : Plain
  p = shows z c

  -- The first step gives up the last reference to s and changes the seat to y; then the object ends.
  pub gives_last : (a : PlainAct) (s : SlotId) (y : PlainSeat) (u : EpochView) → v.left ≡ false
      → s.0 < z.slots → stage z c s ≡ Live
      → Row (shows z c) n a 0 (with_seat (shows z c) n y)
      → y.left ≡ false → strong_refs (with_seat (shows z c) n y) s ≡ 0
      → show_seat u ≡ record y { dying = y.dying ++ s ∷ [] }
      → Sound z (stepped c n u (set c.words (count_at z s) 0) c.opened)
      → ((x : SlotId) → x.0 ≢ s.0 → SameSlot x v u) → times s u.made ≡ times s v.made
      → 0 < dying_times (stepped c n u (set c.words (count_at z s) 0) c.opened) s
      → Chain n (shows z c) (step a ∷ step (plain.End s) ∷ [])
      (shows z (stepped c n u (set c.words (count_at z s) 0) c.opened))
  gives_last a s y u here hs live row y_here none is so' same made dies =
      let d : Core = stepped c n u (set c.words (count_at z s) 0) c.opened in
      let mid : Plain = with_seat (shows z c) n y in
      let at : seat_at (with_seat (shows z c) n y) n ≡ y =
      get_or-set_same (shows z c).seats n y new_seat (seat_listed z c n so hn) in
      let ended : stage z d s ≡ Ended = (by z d so' s hs).ended dies in
      let l = length-set (shows z c).seats n y in
      let m = moves z c n u (λ (x : EpochView). times s x.made) so hn in
      let m0 = m.0 in
      two_steps n (shows z c) mid (shows z d) a (plain.End s) (is_seat z c n so hn here) row
      (let t = (seat_listed z c n so hn) in omega arith, ap (λ (x : PlainSeat). x.left) at ∙ y_here)
      (does.does_end mid (shows z d) n y at s (show_slot z c s) (shown_slot z c s hs) live (inr none)
      (seat_and_slot z c n u (set c.words (count_at z s) 0) c.opened so hn s
      (record (show_slot z c s) { stage = Ended; marked = true }) hs
      (λ i h. get_or-set_other c.words (count_at z s) (cell_at z i) 0 0 (omega arith))
      (λ x h ne. words_off z c.words (count_at z s) 0 x (λ k k19. omega arith))
      (λ x h ne. same x ne)
      (slot_shown z c d s Ended (lives c s) _ ended (omega arith)
      (each_same 16 _ _ (λ i h. get_or-set_other c.words (count_at z s) (payload_at z s i) 0 0 (omega arith)))
      (record {
        first = get_or-set_other c.words (count_at z s) (field_at z s 0) 0 0 (omega arith);
        second = get_or-set_other c.words (count_at z s) (field_at z s 1) 0 0 (omega arith);
      }))
      ∙ ap (λ (q : Plain). with_slot q s (record (show_slot z c s) { stage = Ended; marked = true }))
      (ap (with_seat (shows z c) n) is ∙ sym (twice (shows z c) n y (record y { dying = y.dying ++ s ∷ [] })))))

  -- A reference that isn't the last one is given up: the seat changes, and no slot.
  pub gives_left : (a : PlainAct) (y : PlainSeat) (u : EpochView) (s : SlotId) (w' : ℕ) → v.left ≡ false
      → Row (shows z c) n a 0 (with_seat (shows z c) n y)
      → shows z (stepped c n u (set c.words (count_at z s) w') c.opened) ≡ with_seat (shows z c) n y
      → Chain n (shows z c) (step a ∷ [])
      (shows z (stepped c n u (set c.words (count_at z s) w') c.opened))
  gives_left a y u s w' here row is =
      one_step n (shows z c) _ a (is_seat z c n so hn here)
      (subst (Row (shows z c) n a 0) (sym is) row)

  -- REFERENCES THAT ARE LEFT
  -- how many references to x there are where seat n has y
  refs_with : (y : PlainSeat) (x : SlotId)
      → strong_refs (with_seat (shows z c) n y) x + (times x v.owned + entry_times Strong x (show_seat v).deferred)
      ≡ refs z c x + (times x y.owned + entry_times Strong x y.deferred)
  refs_with y x =
      let a = seats_set (λ (t : PlainSeat). times x t.owned) (shows z c).seats n y (seat_listed z c n so hn) in
      let b = seats_set (λ (t : PlainSeat). entry_times Strong x t.deferred) (shows z c).seats n y (seat_listed z c n so hn) in
      let is = is_shown z c n so hn in
      let e = ap (λ (t : PlainSeat). times x t.owned) is in
      let f = ap (λ (t : PlainSeat). entry_times Strong x t.deferred) is in
      let r = shown_strong z c x in omega arith

  -- the seat owns s once less: nobody refers to it where that was the last reference
  pub none_with : (y : PlainSeat) (s : SlotId) → count z c s ≡ 1 → count z c s ≡ refs z c s
      → times s y.owned + entry_times Strong s y.deferred + 1
      ≡ times s v.owned + entry_times Strong s (show_seat v).deferred
      → strong_refs (with_seat (shows z c) n y) s ≡ 0
  none_with y s is counts less = let r = refs_with y s in omega arith

  -- DROPS
  pub dropped_last : (s : SlotId) (t : List EpochMove) → v.phase ≡ phase.Idle → v.left ≡ false → 0 < times s v.owned
      → count z c s ≡ 1
      → Sound z (stepped c n (dropped_view s (v.dying ++ s ∷ []) t) (set c.words (count_at z s) 0) c.opened)
      → Chain n (shows z c) (step (plain.Drop s) ∷ step (plain.End s) ∷ [])
      (shows z (stepped c n (dropped_view s (v.dying ++ s ∷ []) t) (set c.words (count_at z s) 0) c.opened))
  dropped_last s t idle here own is so' =
      let hold : Holds v s = omega arith in
      let hs = held_there z c n so hn s hold in
      let m = live_of _ (numbers z c s) (so.slots s hs) (held_refs z c n s so hn hold) in
      let o = one_same s s refl in
      let less = times_without s s v.owned own in
      let push = times_push s s v.dying in
      let u : EpochView = dropped_view s (v.dying ++ s ∷ []) t in
      let dies = moves z c n u (λ (x : EpochView). times s x.dying) so hn in
      let dies0 = dies.0 in
      gives_last (plain.Drop s) s (record (show_seat v) { owned = without s v.owned }) u here hs
      (held_live z c n so hn s hold)
      (does.does_drop (shows z c) _ n (show_seat v) (is_shown z c n so hn) s (without s v.owned)
      (loses_without s v.owned own) refl)
      here (none_with (record (show_seat v) { owned = without s v.owned }) s is m.word (omega arith))
      refl so'
      (λ x ne.
      let no = one_other x s (λ e. ne (sym e)) in
      let p' = times_push x s v.dying in record { fill = refl; dying = omega arith; made = refl })
      refl (omega arith)
