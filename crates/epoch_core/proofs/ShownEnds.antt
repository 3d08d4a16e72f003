-- What an exit and a free show.
use Rattle.std.proofs.Common.{◌≡◌, ℕ, ◌<◌, Bool, false, List, [], ◌∷◌, length, set, map, refl, ap, sym, subst, ◌∙◌, arith, None}
use Rattle.std.proofs.lemmas.List.{get_or-set_other, get_or-set_same, length-set, set-set}
use Rattle.std.proofs.lemmas.List.Sums.{sum_by-set}
use Rattle.core_law.specs.plain_state.declared.act.PlainAct.TheVariants as plain
use Rattle.core_law.specs.plain_state.declared.slot.Kind.TheVariants.{Strong, Weak}
use Rattle.core_law.specs.plain_state.declared.slot.SlotId.{SlotId}
use Rattle.core_law.specs.plain_state.declared.slot.PlainSlot.{PlainSlot}
use Rattle.core_law.specs.plain_state.declared.slot.Stage.TheVariants.{Ended, Free, Husk}
use Rattle.core_law.specs.plain_state.Lists.{Entry, entry_times, times}
use Rattle.core_law.specs.plain_state.References.{held_in, over_slots, own_reference, weak_fields, weak_refs}
use Rattle.core_law.specs.plain_state.State.{Plain, PlainSeat, new_seat, new_slot, seat_at, slot_at, with_seat, with_slot}
use Rattle.core_law.specs.core_events.Words.{slot_in}
use Rattle.core_law.specs.core_events.Views.{without}
use Rattle.core_law.proofs.Does as does
use Rattle.core_law.proofs.Each.{length_each}
use Rattle.core_law.proofs.Kit.{one_other, times_none, times_without}
use Rattle.core_law.proofs.Lists.{each_same}
use Rattle.core_law.proofs.Losing.{loses_without}
use Rattle.core_law.proofs.Quiet.{same_plain}
use Rattle.epoch_core.specs.declared.act.EpochAct.TheVariants as act
use Rattle.epoch_core.specs.declared.shape.EpochShape.{EpochShape}
use Rattle.epoch_core.specs.declared.view.EpochMove.{EpochMove}
use Rattle.epoch_core.specs.declared.view.EpochView.{EpochView}
use Rattle.epoch_core.specs.Words.{cell_at, count_at, field_at, free_word, payload_at, region_at}
use Rattle.epoch_core.specs.Runs.{Core, Enabled, HasNullFields, after, view_at}
use Rattle.epoch_core.specs.Good.{stage}
use Rattle.epoch_core.specs.Shows.{is_marked, lives, shows, show_seat, show_slot}
use Rattle.epoch_core.specs.ShownSteps.{Chain, step}
use Rattle.epoch_core.specs.Sound.{Sound}
use Rattle.epoch_core.proofs.Bridge.{no_weak_field, other_snapshots, shown_slot, shown_weak}
use Rattle.epoch_core.proofs.Held.{named_in_range}
use Rattle.epoch_core.proofs.Parts.{by}
use Rattle.epoch_core.proofs.Put.{moves, stepped}
use Rattle.epoch_core.proofs.ShownFills.{free_stage}
use Rattle.epoch_core.proofs.ShownFrames.{same_view, seat_alone, seat_and_slot, slot_shown, words_off}
use Rattle.epoch_core.proofs.ShownKit.{is_seat, is_shown, seat_listed, seats_set, twice, two_steps}
use Rattle.epoch_core.proofs.ShownQuiet.{strong_of}

-- SNAPSHOTS
-- all snapshots of a seat end, one after another
ends_all : (p : Plain) (n : ℕ) (y : PlainSeat) (xs : List SlotId) → n < length p.seats → y.left ≡ false
    → y.snapshots ≡ map (λ (s : SlotId). strong_of s) xs
    → Chain n (with_seat p n y) (map (λ (s : SlotId). step (plain.EndSnapshot Strong s)) xs)
    (with_seat p n (record y { snapshots = [] }))
ends_all p n y [] h here is =
    ap (λ (es : List Entry). with_seat p n (record y { snapshots = es })) (sym is)
ends_all p n y (x ∷ xs) h here is =
    let left : List Entry = map (λ (s : SlotId). strong_of s) xs in
    let at : seat_at (with_seat p n y) n ≡ y = get_or-set_same p.seats n y new_seat h in
    let l = length-set p.seats n y in (
      with_seat p n (record y { snapshots = left }),
      (
        (omega arith, ap (λ (t : PlainSeat). t.left) at ∙ here),
        does.does_end_snapshot (with_seat p n y) _ n y at Strong x left ([], left, is, refl)
            (sym (twice p n y (record y { snapshots = left }))),
      ),
      ends_all p n (record y { snapshots = left }) xs h here refl,
    )

module _ (z : EpochShape) (c : Core) (n : ℕ) (so : Sound z c) (hn : n < z.seats) where
  abbrev v : EpochView
  v = view_at c n

  left_region : (t : List EpochMove) → v.left ≡ false
      → Chain n (shows z c) (map (λ (s : SlotId). step (plain.EndSnapshot Strong s)) v.seen)
      (shows z (stepped c n (record v { number = 0; seen = []; trail = t })
      (set c.words (region_at v.seat) 0) c.opened))
  left_region t here =
      let number = (so.seats n hn).number in
      let u : EpochView = record v { number = 0; seen = []; trail = t } in
      let ws : List ℕ = set c.words (region_at v.seat) 0 in
      let d = stepped c n u ws c.opened in
      let whole : shows z c ≡ with_seat (shows z c) n (show_seat v) =
      sym (same_plain (shows z c) _ n (show_seat v) refl (sym (is_shown z c n so hn))) in
      let gone : shows z d ≡ with_seat (shows z c) n (record (show_seat v) { snapshots = [] }) =
      seat_alone z c n u ws c.opened so hn
      (λ i h. get_or-set_other c.words (region_at v.seat) (cell_at z i) 0 0 (omega arith))
      (λ x h. words_off z c.words (region_at v.seat) 0 x (λ k k19. omega arith))
      (λ x h. same_view x v u refl refl refl) in
      subst (λ (p : Plain). Chain n p (map (λ (s : SlotId). step (plain.EndSnapshot Strong s)) v.seen) (shows z d))
      (sym whole)
      (subst (Chain n (with_seat (shows z c) n (show_seat v))
      (map (λ (s : SlotId). step (plain.EndSnapshot Strong s)) v.seen)) (sym gone)
      (ends_all (shows z c) n (show_seat v) v.seen (seat_listed z c n so hn) here refl))

  pub exit_shows : Enabled z c n act.Exit
      → Chain n (shows z c) (map (λ (s : SlotId). step (plain.EndSnapshot Strong s)) v.seen)
      (shows z (after z c n act.Exit))
  exit_shows on = left_region _ on.1.0.1

  -- A FREE
  -- a slot's own weak reference is all that there is, and a husk has none
  none_weak : (s : SlotId) (y : PlainSeat) (x : PlainSlot) → s.0 < z.slots → y.weaks ≡ []
      → y.deferred ≡ (show_seat v).deferred → x.stage ≡ Husk → x.weak_field ≡ None
      → weak_refs (with_slot (with_seat (shows z c) n y) s x) s ≡ 0
  unfolding over_slots
  none_weak s y x hs weaks deferred husk none =
      let w = shown_weak z c s in
      let a = seats_set (λ (t : PlainSeat). times s t.weaks) (shows z c).seats n y (seat_listed z c n so hn) in
      let b = seats_set (λ (t : PlainSeat). entry_times Weak s t.deferred) (shows z c).seats n y (seat_listed z c n so hn) in
      let is = is_shown z c n so hn in
      let e = ap (λ (t : PlainSeat). times s t.weaks) is in
      let f = ap (λ (t : PlainSeat). entry_times Weak s t.deferred) is in
      let g = ap (times s) weaks in
      let h = ap (entry_times Weak s) deferred in
      let k = times_none s in
      let l = length_each 0 z.slots (λ x. show_slot z c (record { 0 = x })) in
      let m = sum_by-set (weak_fields s) (shows z c).slots s.0 x new_slot (omega arith) in
      let o = no_weak_field s z c s in
      let q = ap (weak_fields s) (shown_slot z c s hs) in
      let r = ap (held_in s) none in
      let now : slot_at (with_slot (with_seat (shows z c) n y) s x) s ≡ x =
      get_or-set_same (shows z c).slots s.0 x new_slot (omega arith) in
      let own = ap (λ (u : PlainSlot). own_reference u.stage) now ∙ ap own_reference husk in omega arith

  freed : (s : SlotId) (t : List EpochMove) → v.left ≡ false → 0 < times s v.dying → HasNullFields z c.words s
      → Chain n (shows z c) (step (plain.Destroy s) ∷ step (plain.Give s) ∷ [])
      (shows z (stepped c n (record v { dying = without s v.dying; trail = t })
      (set c.words (count_at z s) free_word) c.opened))
  freed s t here mine nulls =
      let u : EpochView = record v { dying = without s v.dying; trail = t } in
      let ws : List ℕ = set c.words (count_at z s) free_word in
      let d : Core = stepped c n u ws c.opened in
      let len = so.words in
      let hs = named_in_range z n v s (so.seats n hn) (omega arith) in
      let x : PlainSlot = show_slot z c s in
      let y : PlainSeat = record (show_seat v) { dying = without s v.dying } in
      let husk : PlainSlot = record x { stage = Husk } in
      let mid : Plain = with_slot (with_seat (shows z c) n y) s husk in
      let m = moves z c n v (λ (w : EpochView). times s w.dying) so hn in
      let m1 = m.1 in
      let ended : stage z c s ≡ Ended = (by z c so s hs).ended (omega arith) in
      let h = (seat_listed z c n so hn) in
      let l = length_each 0 z.slots (λ k. show_slot z c (record { 0 = k })) in
      let at : seat_at mid n ≡ y = get_or-set_same (shows z c).seats n y new_seat (seat_listed z c n so hn) in
      let slot : slot_at mid s ≡ husk = get_or-set_same (shows z c).slots s.0 husk new_slot (omega arith) in
      let k = length-set (shows z c).seats n y in
      let none = other_snapshots z c s in
      let same : shows z d ≡ with_slot (with_seat (shows z c) n y) s (record x { stage = Free }) =
      seat_and_slot z c n u ws c.opened so hn s (record x { stage = Free }) hs
      (λ i j. get_or-set_other c.words (count_at z s) (cell_at z i) free_word 0 (omega arith))
      (λ b j ne. words_off z c.words (count_at z s) free_word b (λ e k19. omega arith))
      (λ b j ne.
      let no = one_other b s (λ e. ne (sym e)) in
      let w = times_without b s v.dying mine in record { fill = refl; dying = omega arith; made = refl })
      (slot_shown z c d s Free (lives c s) _
      (free_stage _ _ _ (get_or-set_same c.words (count_at z s) free_word 0 (omega arith)))
      (let g = moves z c n u (λ (w : EpochView). times s w.made) so hn in let g0 = g.0 in omega arith)
      (each_same 16 _ _ (λ i j. get_or-set_other c.words (count_at z s) (payload_at z s i) free_word 0 (omega arith)))
      (record {
        first = get_or-set_other c.words (count_at z s) (field_at z s 0) free_word 0 (omega arith);
        second = get_or-set_other c.words (count_at z s) (field_at z s 1) free_word 0 (omega arith);
      })
      ∙ ap (λ (b : Bool). record x { stage = Free; marked = b }) (sym (ap is_marked ended))) in
      two_steps n (shows z c) mid (shows z d) (plain.Destroy s) (plain.Give s) (is_seat z c n so hn here)
      (does.does_destroy (shows z c) mid n (show_seat v) (is_shown z c n so hn) s x (shown_slot z c s hs)
      (without s v.dying) (ap slot_in nulls.0, ap slot_in nulls.1, refl) none.1 (loses_without s v.dying mine) refl)
      (omega arith, ap (λ (w : PlainSeat). w.left) at ∙ here)
      (does.does_give mid (shows z d) n y at s husk slot refl
      (none_weak s y husk hs refl refl refl refl)
      (same ∙ sym (ap (λ (xs : List PlainSlot). record (with_seat (shows z c) n y) { slots = xs })
      (set-set (shows z c).slots s.0 husk (record x { stage = Free })))))

  pub free_shows : (s : SlotId) → Enabled z c n (act.Free s)
      → Chain n (shows z c) (step (plain.Destroy s) ∷ step (plain.Give s) ∷ []) (shows z (after z c n (act.Free s)))
  free_shows s on = freed s _ on.1.0.1 on.1.1 on.2
