-- What a claim, a fill and a start show.
use Rattle.std.proofs.Common.{◌≡◌, ◌≢◌, ℕ, ◌+◌, ◌<◌, Bool, false, List, [], ◌∷◌, ◌++◌, length, set, map, refl, ap, sym, ◌∙◌, arith, None, Some}
use Rattle.std.specs.Prelude.{◌==◌, if◌then◌else◌}
use Rattle.std.proofs.lemmas.Bool.Decides.{nat_tests}
use Rattle.std.proofs.lemmas.List.{get_or-set_other, get_or-set_same}
use Rattle.core_law.specs.plain_state.declared.act.PlainAct.TheVariants as plain
use Rattle.core_law.specs.plain_state.declared.slot.SlotId.{SlotId}
use Rattle.core_law.specs.plain_state.declared.slot.Stage.{Stage}
use Rattle.core_law.specs.plain_state.declared.slot.Stage.TheVariants.{Blank, Free, Live}
use Rattle.core_law.specs.plain_state.Lists.{Entry, times}
use Rattle.core_law.specs.plain_state.State.{Plain, PlainSeat, with_seat, with_slot}
use Rattle.core_law.proofs.Does as does
use Rattle.core_law.proofs.Kit.{by_test, one_other, one_same, times_push}
use Rattle.core_law.proofs.Lists.{each_same, each_set}
use Rattle.core_law.proofs.Each.{length_each}
use Rattle.core_law.proofs.Quiet.{same_plain}
use Rattle.epoch_core.specs.declared.act.EpochAct.TheVariants as act
use Rattle.epoch_core.specs.declared.act.Dated.{Dated}
use Rattle.epoch_core.specs.declared.shape.EpochShape.{EpochShape}
use Rattle.epoch_core.specs.declared.view.EpochMove.{EpochMove}
use Rattle.epoch_core.specs.declared.view.EpochPhase.{EpochPhase}
use Rattle.epoch_core.specs.declared.view.EpochPhase.TheVariants as phase
use Rattle.epoch_core.specs.declared.view.EpochView.{EpochView}
use Rattle.epoch_core.specs.Words.{cell_at, count_at, field_at, free_word, payload_at}
use Rattle.epoch_core.specs.Views.{IsIdle, slot_of}
use Rattle.epoch_core.specs.Runs.{Core, Enabled, after, view_at}
use Rattle.epoch_core.specs.Counts.{count, filling, fillers}
use Rattle.epoch_core.specs.Good.{stage, stage_of}
use Rattle.epoch_core.specs.Shows.{filled, is_marked, lives, shows, show_seat, show_slot, undated_entry}
use Rattle.epoch_core.specs.ShownSteps.{Chain, step}
use Rattle.epoch_core.specs.Slots.{numbers}
use Rattle.epoch_core.specs.Sound.{Sound}
use Rattle.epoch_core.proofs.Bridge.{shown_slot}
use Rattle.epoch_core.proofs.Held.{held_of, named_in_range}
use Rattle.epoch_core.proofs.Phases.{in_blank, in_idle, not_idle_blank}
use Rattle.epoch_core.proofs.Swept.{not_left}
use Rattle.epoch_core.proofs.Put.{moves, stepped}
use Rattle.epoch_core.proofs.ShownFrames.{payload_of, same_view, seat_and_slot, slot_shown, words_off}
use Rattle.epoch_core.proofs.ShownKit.{is_seat, is_shown, one_step}
use Rattle.epoch_core.proofs.ShownQuiet.{still_shown, strong_of}
use Rattle.epoch_core.proofs.ShownRegions.{bare_idle}

-- STAGES
pub free_stage : (w f d : ℕ) → w ≡ free_word → stage_of w f d ≡ Free
unfolding stage_of
free_stage w f d is = grind (arith, nat_tests)

blank_stage : (w f d : ℕ) → w ≢ free_word → 0 < f → stage_of w f d ≡ Blank
unfolding stage_of
blank_stage w f d ne some = grind (arith, nat_tests)

live_stage : (w f d : ℕ) → w ≢ free_word → f ≡ 0 → d ≡ 0 → stage_of w f d ≡ Live
unfolding stage_of
live_stage w f d ne none none' = grind (arith, nat_tests)

-- WHAT THE SEAT SHOWS
blank_seat : (v : EpochView) (s : SlotId) (m : ℕ) (t : List EpochMove) → undated_entry v.phase ≡ []
    → show_seat (record v { makes = m; phase = phase.Blank s; trail = t })
    ≡ record (show_seat v) { filling = Some s }
blank_seat v s m t is =
    ap (λ (es : List Entry). record (show_seat v) {
      filling = Some s;
      deferred = map (λ (d : Dated). strong_of d.slot) v.pending ++ es;
    }) (sym is)

started_seat : (v : EpochView) (s : SlotId) (t : List EpochMove) → undated_entry v.phase ≡ []
    → show_seat (record v {
      owned = v.owned ++ s ∷ [];
      made = v.made ++ s ∷ [];
      adds = v.adds + 1;
      phase = phase.Idle;
      trail = t;
    })
    ≡ record (show_seat v) { owned = v.owned ++ s ∷ []; filling = None; adds = v.adds + 1 }
started_seat v s t is =
    ap (λ (es : List Entry). record (show_seat v) {
      owned = v.owned ++ s ∷ [];
      filling = None;
      adds = v.adds + 1;
      deferred = map (λ (d : Dated). strong_of d.slot) v.pending ++ es;
    }) (sym is)

blank_shown : (p : EpochPhase) (s : SlotId) → p ≡ phase.Blank s
    → (filled p ≡ Some s) × (undated_entry p ≡ [])
blank_shown p s is = rw is (refl, refl)

module _ (z : EpochShape) (c : Core) (n : ℕ) (so : Sound z c) (hn : n < z.seats) where
  abbrev v : EpochView
  v = view_at c n

  -- A CLAIM
  slot_there : (s : SlotId) → s.0 < z.slots → s.0 < length (shows z c).slots
  slot_there s hs =
      let l = length_each 0 z.slots (λ x. show_slot z c (record { 0 = x })) in omega arith

  claim_found : (s : SlotId) (t : List EpochMove) → IsIdle v → s.0 < z.slots → count z c s ≡ free_word
      → Chain n (shows z c) (step (plain.Claim s) ∷ [])
      (shows z (stepped c n (record v { makes = v.makes + 1; phase = phase.Blank s; trail = t })
      (set c.words (count_at z s) 0) c.opened))
  claim_found s t idle hs word =
      let u : EpochView = record v { makes = v.makes + 1; phase = phase.Blank s; trail = t } in
      let ws : List ℕ = set c.words (count_at z s) 0 in
      let d : Core = stepped c n u ws c.opened in
      let len = so.words in
      let bare = bare_idle v.phase idle.0 in
      let o = one_same s s refl in
      let was = in_idle v.phase s idle.0 in
      let free : stage z c s ≡ Free = free_stage _ _ _ word in
      let f = moves z c n u (λ (x : EpochView). filling s x.phase) so hn in
      let f0 = f.0 in
      let blank : stage z d s ≡ Blank = blank_stage _ _ _
      (let e = get_or-set_same c.words (count_at z s) 0 0 (omega arith) in omega arith) (omega arith) in
      one_step n (shows z c) (shows z d) (plain.Claim s) (is_seat z c n so hn idle.1)
      (does.does_claim (shows z c) (shows z d) n (show_seat v) (is_shown z c n so hn) s (show_slot z c s)
      (shown_slot z c s hs) (slot_there s hs) free bare.filled
      (seat_and_slot z c n u ws c.opened so hn s (record (show_slot z c s) { stage = Blank }) hs
      (λ i h. get_or-set_other c.words (count_at z s) (cell_at z i) 0 0 (omega arith))
      (λ x h ne. words_off z c.words (count_at z s) 0 x (λ k k19. omega arith))
      (λ x h ne.
      let no = one_other x s (λ e. ne (sym e)) in
      let q = in_idle v.phase x idle.0 in record { fill = omega arith; dying = refl; made = refl })
      (slot_shown z c d s Blank (lives c s) _ blank
      (let m = moves z c n u (λ (x : EpochView). times s x.made) so hn in let m0 = m.0 in omega arith)
      (each_same 16 _ _ (λ i h. get_or-set_other c.words (count_at z s) (payload_at z s i) 0 0 (omega arith)))
      (record {
        first = get_or-set_other c.words (count_at z s) (field_at z s 0) 0 0 (omega arith);
        second = get_or-set_other c.words (count_at z s) (field_at z s 1) 0 0 (omega arith);
      })
      ∙ ap (λ (b : Bool). record (show_slot z c s) { stage = Blank; marked = b }) (sym (ap is_marked free)))
      ∙ ap (λ (y : PlainSeat). with_slot (with_seat (shows z c) n y) s (record (show_slot z c s) { stage = Blank }))
      (blank_seat v s (v.makes + 1) t bare.undated)))

  pub claim_shows : (s : SlotId) → Enabled z c n (act.Claim s)
      → Chain n (shows z c) (if count z c s == free_word then step (plain.Claim s) ∷ [] else [])
      (shows z (after z c n (act.Claim s)))
  claim_shows s on =
      let may = on.1 in
      by_test (count z c s == free_word)
      (λ is. rw is (claim_found s _ may.0 may.1 (grind (arith, nat_tests))))
      (λ not. rw not (still_shown z c n _ c.opened so hn (λ x. same_view x v _ refl refl refl) refl (count_at z s)))

  -- a seat that fills a slot
  fills_there : (s : SlotId) → v.phase ≡ phase.Blank s
      → (s.0 < z.slots) × (0 < fillers c s) × (v.left ≡ false)
  fills_there s at =
      let o = one_same s s refl in
      let q = in_blank v.phase s s at in
      let m = moves z c n v (λ (x : EpochView). filling s x.phase) so hn in (
        named_in_range z n v s (so.seats n hn) (omega arith),
        let m1 = m.1 in omega arith,
        not_left z n v (so.seats n hn) (not_idle_blank v.phase s at),
      )

  -- A FILL
  filled_word : (s : SlotId) (i w : ℕ) (t : List EpochMove) → v.phase ≡ phase.Blank s → i < 16
      → Chain n (shows z c) (step (plain.Fill s i w) ∷ [])
      (shows z (stepped c n (record v { trail = t }) (set c.words (payload_at z s i) w) c.opened))
  filled_word s i w t at hi =
      let u : EpochView = record v { trail = t } in
      let ws : List ℕ = set c.words (payload_at z s i) w in
      let d : Core = stepped c n u ws c.opened in
      let len = so.words in
      let there = fills_there s at in
      let hs = there.0 in
      let l = held_of _ (numbers z c s) (so.slots s hs) (let a = there.1 in omega arith) in
      let word = l.word in
      let blank : stage z c s ≡ Blank = blank_stage _ _ _ (omega arith) there.1 in
      let same = get_or-set_other c.words (payload_at z s i) (count_at z s) w 0 (omega arith) in
      let f = moves z c n u (λ (x : EpochView). filling s x.phase) so hn in
      let f0 = f.0 in
      let still : stage z d s ≡ Blank = blank_stage _ _ _ (omega arith) (let a = there.1 in omega arith) in
      one_step n (shows z c) (shows z d) (plain.Fill s i w) (is_seat z c n so hn there.2)
      (does.does_fill (shows z c) (shows z d) n (show_seat v) (is_shown z c n so hn) s (show_slot z c s)
      (shown_slot z c s hs) i w blank (blank_shown v.phase s at).0 hi
      (seat_and_slot z c n u ws c.opened so hn s
      (record (show_slot z c s) { payload = set (payload_of z c.words s) i w }) hs
      (λ k h. get_or-set_other c.words (payload_at z s i) (cell_at z k) w 0 (omega arith))
      (λ x h ne. words_off z c.words (payload_at z s i) w x (λ k k19. omega arith))
      (λ x h ne. same_view x v u refl refl refl)
      (slot_shown z c d s Blank (lives c s) (set (payload_of z c.words s) i w) still
      (let m = moves z c n u (λ (x : EpochView). times s x.made) so hn in let m0 = m.0 in omega arith)
      (each_set 16 i _ _ w hi (get_or-set_same c.words (payload_at z s i) w 0 (omega arith))
      (λ k h ne. get_or-set_other c.words (payload_at z s i) (payload_at z s k) w 0 (omega arith)))
      (record {
        first = get_or-set_other c.words (payload_at z s i) (field_at z s 0) w 0 (omega arith);
        second = get_or-set_other c.words (payload_at z s i) (field_at z s 1) w 0 (omega arith);
      })
      ∙ ap (λ (st : Stage). record (show_slot z c s) {
        stage = st;
        marked = is_marked st;
        payload = set (payload_of z c.words s) i w;
      }) (sym blank))
      ∙ ap (λ (p : Plain). with_slot p s (record (show_slot z c s) { payload = set (payload_of z c.words s) i w }))
      (same_plain (shows z c) _ n (show_seat v) refl (sym (is_shown z c n so hn)))))

  pub fill_shows : (i w : ℕ) (s : SlotId) → Enabled z c n (act.Fill i w) → v.phase ≡ phase.Blank s
      → Chain n (shows z c) (step (plain.Fill s i w) ∷ []) (shows z (after z c n (act.Fill i w)))
  fill_shows i w s on at =
      let may = on.1 in rw (ap slot_of at) (filled_word s i w _ at may.1)

  -- A START
  started : (s : SlotId) (t : List EpochMove) → v.phase ≡ phase.Blank s
      → Chain n (shows z c) (step (plain.Make s) ∷ [])
      (shows z (stepped c n (record v {
        owned = v.owned ++ s ∷ [];
        made = v.made ++ s ∷ [];
        adds = v.adds + 1;
        phase = phase.Idle;
        trail = t;
      }) (set c.words (count_at z s) 1) c.opened))
  started s t at =
      let u : EpochView = record v {
        owned = v.owned ++ s ∷ [];
        made = v.made ++ s ∷ [];
        adds = v.adds + 1;
        phase = phase.Idle;
        trail = t;
      } in
      let ws : List ℕ = set c.words (count_at z s) 1 in
      let d : Core = stepped c n u ws c.opened in
      let len = so.words in
      let there = fills_there s at in
      let hs = there.0 in
      let bare = blank_shown v.phase s at in
      let o = one_same s s refl in
      let was = in_blank v.phase s s at in
      let l = held_of _ (numbers z c s) (so.slots s hs) (let a = there.1 in omega arith) in
      let word = l.word in
      let one_only = l.one in
      let blank : stage z c s ≡ Blank = blank_stage _ _ _ (omega arith) there.1 in
      let same = get_or-set_same c.words (count_at z s) 1 0 (omega arith) in
      let f = moves z c n u (λ (x : EpochView). filling s x.phase) so hn in
      let f0 = f.0 in
      let g = moves z c n u (λ (x : EpochView). times s x.dying) so hn in
      let g0 = g.0 in
      let m = moves z c n u (λ (x : EpochView). times s x.made) so hn in
      let m0 = m.0 in
      let push = times_push s s v.made in
      let live : stage z d s ≡ Live = live_stage _ _ _ (omega arith) (omega arith) (omega arith) in
      one_step n (shows z c) (shows z d) (plain.Make s) (is_seat z c n so hn there.2)
      (does.does_make (shows z c) (shows z d) n (show_seat v) (is_shown z c n so hn) s (show_slot z c s)
      (shown_slot z c s hs) blank bare.0
      (seat_and_slot z c n u ws c.opened so hn s
      (record (show_slot z c s) { stage = Live; marked = false; life = lives c s + 1 }) hs
      (λ i h. get_or-set_other c.words (count_at z s) (cell_at z i) 1 0 (omega arith))
      (λ x h ne. words_off z c.words (count_at z s) 1 x (λ k k19. omega arith))
      (λ x h ne.
      let no = one_other x s (λ e. ne (sym e)) in
      let q = in_blank v.phase x s at in
      let p' = times_push x s v.made in record { fill = omega arith; dying = refl; made = omega arith })
      (slot_shown z c d s Live (lives c s + 1) _ live (omega arith)
      (each_same 16 _ _ (λ i h. get_or-set_other c.words (count_at z s) (payload_at z s i) 1 0 (omega arith)))
      (record {
        first = get_or-set_other c.words (count_at z s) (field_at z s 0) 1 0 (omega arith);
        second = get_or-set_other c.words (count_at z s) (field_at z s 1) 1 0 (omega arith);
      }))
      ∙ ap (λ (y : PlainSeat). with_slot (with_seat (shows z c) n y) s
      (record (show_slot z c s) { stage = Live; marked = false; life = lives c s + 1 }))
      (started_seat v s t bare.1)))

  pub start_shows : (s : SlotId) → Enabled z c n act.Start → v.phase ≡ phase.Blank s
      → Chain n (shows z c) (step (plain.Make s) ∷ []) (shows z (after z c n act.Start))
  start_shows s on at = rw (ap slot_of at) (started s _ at)
