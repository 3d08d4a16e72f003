-- What the events on a count word show: an add, a drop and a payment, which may end the object; and a read.
use Rattle.std.proofs.Common.{◌≡◌, ◌≢◌, ⊎_elim, ℕ, ◌<◌, List, [], ◌∷◌, set, refl, sym, ◌∙◌, arith}
use Rattle.std.proofs.lemmas.Bool.Decides.{nat_tests}
use Rattle.std.proofs.lemmas.List.{get_or-set_other, get_or-set_same}
use Rattle.core_law.specs.plain_state.declared.act.PlainAct.TheVariants as plain
use Rattle.core_law.specs.plain_state.declared.slot.SlotId.{SlotId}
use Rattle.core_law.specs.plain_state.declared.slot.Stage.TheVariants.{Live}
use Rattle.core_law.specs.plain_state.Lists.{times}
use Rattle.core_law.specs.plain_state.State.{with_seat}
use Rattle.core_law.specs.core_events.Steps.{plus_one}
use Rattle.core_law.proofs.Does as does
use Rattle.core_law.proofs.Kit.{by_slot}
use Rattle.core_law.proofs.Lists.{each_same}
use Rattle.epoch_core.specs.declared.act.EpochAct.TheVariants as act
use Rattle.epoch_core.specs.declared.shape.EpochShape.{EpochShape}
use Rattle.epoch_core.specs.declared.view.EpochView.{EpochView}
use Rattle.epoch_core.specs.Words.{cell_at, count_at, field_at, free_word, payload_at}
use Rattle.epoch_core.specs.Runs.{Core, Enabled, after, view_at}
use Rattle.epoch_core.specs.Counts.{count, filling}
use Rattle.epoch_core.specs.Good.{stage, stage_of}
use Rattle.epoch_core.specs.Shows.{shows, show_seat, show_slot}
use Rattle.epoch_core.specs.ShownSteps.{Chain, step}
use Rattle.epoch_core.specs.Slots.{numbers}
use Rattle.epoch_core.specs.Sound.{Sound}
use Rattle.epoch_core.proofs.Held.{held_refs, live_of}
use Rattle.epoch_core.proofs.Put.{adds_fit, moves, stepped}
use Rattle.epoch_core.proofs.ShownFrames.{SameSlot, same_view, seat_only, slot_kept, slot_same, words_off}
use Rattle.epoch_core.proofs.ShownKit.{held_live, held_there, held_unmarked, holds_shown, is_seat, is_shown, one_step}
use Rattle.epoch_core.proofs.ShownQuiet.{still_shown}

-- a live slot goes on to be live, whatever its word counts
live_still : (w w' f d : ℕ) → stage_of w f d ≡ Live → w' ≢ free_word → stage_of w' f d ≡ Live
unfolding stage_of
live_still w w' f d is ne = grind (arith, nat_tests)

stage_goes_on : (w w' f f' d d' x : ℕ) → stage_of w f d ≡ Live → w' ≡ x → x ≢ free_word
    → f' ≡ f → d' ≡ d → stage_of w' f' d' ≡ stage_of w f d
stage_goes_on w w' f f' d d' x is e ne a b =
    rw (a, b) (live_still w w' f d is (λ g. ne (sym e ∙ g)) ∙ sym is)

module _ (z : EpochShape) (c : Core) (n : ℕ) (so : Sound z c) (hn : n < z.seats) where
  abbrev v : EpochView
  v = view_at c n

  pub see_shows : (s : SlotId) (i : ℕ) → Enabled z c n (act.See s i)
      → Chain n (shows z c)
      (step (plain.See s i) ∷ []) (shows z (after z c n (act.See s i)))
  see_shows s i on =
      let may = on.1 in
      one_step n (shows z c) (shows z (after z c n (act.See s i))) (plain.See s i) (is_seat z c n so hn may.0.1)
      (does.does_see (shows z c) _ n (show_seat v) (is_shown z c n so hn) s i
      (⊎_elim (λ holds. let h = holds_shown v s holds in omega arith) (λ dying. omega arith) may.1)
      may.2
      (still_shown z c n _ c.opened so hn (λ x. same_view x v _ refl refl refl) refl
      (payload_at z s i)))

  -- the count word of a live slot is written, which goes on to be live
  pub count_seat : (s : SlotId) (u : EpochView) (w : ℕ) → s.0 < z.slots → stage z c s ≡ Live → w ≢ free_word
      → ((x : SlotId) → SameSlot x v u)
      → shows z (stepped c n u (set c.words (count_at z s) w) c.opened)
      ≡ with_seat (shows z c) n (show_seat u)
  count_seat s u w hs is ne same =
      let ws : List ℕ = set c.words (count_at z s) w in
      let len = so.words in
      seat_only z c n u ws c.opened so hn
      (λ i h. get_or-set_other c.words (count_at z s) (cell_at z i) w 0 (omega arith))
      (λ x hx. by_slot s x (λ y. show_slot z (stepped c n u ws c.opened) y ≡ show_slot z c y)
      (slot_kept z c n u ws c.opened so hn s
      (let f = moves z c n u (λ (y : EpochView). filling s y.phase) so hn in
      let g = moves z c n u (λ (y : EpochView). times s y.dying) so hn in
      let f0 = f.0 in
      let g0 = g.0 in
      let a = (same s).fill in
      let b = (same s).dying in
      stage_goes_on _ _ _ _ _ _ _ is (get_or-set_same c.words (count_at z s) w 0 (omega arith)) ne
      (omega arith) (omega arith))
      (same s).made
      (record {
        first = get_or-set_other c.words (count_at z s) (field_at z s 0) w 0 (omega arith);
        second = get_or-set_other c.words (count_at z s) (field_at z s 1) w 0 (omega arith);
      })
      (each_same 16 _ _ (λ i h. get_or-set_other c.words (count_at z s) (payload_at z s i) w 0 (omega arith))))
      (λ ne'. slot_same z c n u ws c.opened so hn x
      (words_off z c.words (count_at z s) w x (λ k l. omega arith)) (same x)))

  pub add_shows : (s : SlotId) → Enabled z c n (act.Add s)
      → Chain n (shows z c) (step (plain.Add s) ∷ []) (shows z (after z c n (act.Add s)))
  add_shows s on =
      let may = on.1 in
      let hs = held_there z c n so hn s may.2 in
      let m = live_of _ (numbers z c s) (so.slots s hs) (held_refs z c n s so hn may.2) in
      let fit = adds_fit z c so in
      let few = m.few in
      let next : plus_one (count z c s) ≢ free_word = grind (arith, nat_tests) in
      one_step n (shows z c) (shows z (after z c n (act.Add s))) (plain.Add s) (is_seat z c n so hn may.0.1)
      (does.does_add_up (shows z c) _ n (show_seat v) (is_shown z c n so hn) s
      (holds_shown v s may.2) (held_unmarked z c n so hn s may.2)
      (count_seat s _ (plus_one (count z c s)) hs (held_live z c n so hn s may.2) next
      (λ x. same_view x v _ refl refl refl)))
