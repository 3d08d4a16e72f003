-- A finish, a take and a mark show a plain step each.
use Rattle.std.proofs.Common.{◌≡◌, ◌≢◌, ◌⊎◌, inl, inr, ℕ, ◌+◌, ◌-◌, ◌<◌, ◌≤◌, true, List, [], ◌∷◌, ◌++◌, set, refl, ap, sym, ◌∙◌, arith}
use Rattle.std.specs.Prelude.{Some, slice_index, ◌==◌, Option, None}
use Rattle.std.proofs.lemmas.List.{get_or-set_same, get_or-set_other}
use Rattle.std.proofs.lemmas.Bool.Decides.{nat_tests}
use Rattle.core_events.specs.plain_state.declared.act.PlainAct.TheVariants as plain
use Rattle.core_events.specs.plain_state.declared.slot.PlainSlot.{PlainSlot}
use Rattle.core_events.specs.plain_state.declared.slot.SlotId.{SlotId}
use Rattle.core_events.specs.plain_state.declared.slot.Stage.TheVariants.{Ended}
use Rattle.core_events.specs.plain_state.References.{strong_refs}
use Rattle.core_events.specs.plain_state.State.{Plain, seat_at, with_seat, with_slot}
use Rattle.core_events.specs.plain_state.Steps.{Row}
use Rattle.core_events.specs.declared.act.Act.TheVariants as act
use Rattle.core_events.specs.declared.shape.Shape.{Shape}
use Rattle.core_events.specs.declared.view.CoreView.{CoreView}
use Rattle.core_events.specs.declared.view.Move.{Move}
use Rattle.core_events.specs.declared.view.Phase.{Phase}
use Rattle.core_events.specs.declared.view.Phase.TheVariants as phase
use Rattle.core_events.specs.Words.{strong_at, bits_at, bit_in}
use Rattle.core_events.specs.counter_word.Words.{ZERO, HELP, has_zero, has_help, value}
use Rattle.core_events.specs.Views.{slot_of}
use Rattle.core_events.specs.Runs.{Core, Enabled, view_at}
use Rattle.core_events.specs.Counts.{strong, adds_used, stage, signs, free_bit, is_live_word}
use Rattle.core_events.specs.Shows.{shows, show_seat, show_slot, lives, filled}
use Rattle.core_law.specs.Slots.{numbers}
use Rattle.core_law.specs.Sound.{Sound}
use Rattle.core_law.proofs.InRange.{phase_there}
use Rattle.core_law.proofs.Kit.{by_test, one_same, one_other, times_push}
use Rattle.core_law.proofs.Flags.{flags, cleared, live_low}
use Rattle.core_law.proofs.Parts.{value_is}
use Rattle.core_law.proofs.Put.{put, at_seat, adds_fit}
use Rattle.core_law.proofs.Bridge.{shown_seat, shown_slot, shown_strong}
use Rattle.core_law.proofs.Changes.{strong_changes}
use Rattle.core_law.proofs.Does as does
use Rattle.core_law.proofs.Does.{ShowsRow}
use Rattle.core_law.proofs.Quiet.{same_plain, unfilled, unfilled_if, fills_nothing, still_quiet, claimers_move, dying_move, lives_move}
use Rattle.core_law.proofs.Ranges.{zero_stands}
use Rattle.core_law.proofs.Stages.{ended_stage, alive_stage, live_started, is_live}

-- a word with the help flag is that of an object that lives, until the flag is taken
help_lives : (w : ℕ) → has_help w ≡ true → is_live_word w ≡ true
help_lives w e = grind (arith, nat_tests)

help_taken : (w w' : ℕ) → w' ≡ w - HELP → ZERO + HELP ≤ w → has_zero w' ≡ true
help_taken w w' e big = grind (arith, nat_tests)

module _ (z : Shape) (c : Core) (n : ℕ) (so : Sound z c) (hn : n < z.seats) where
  abbrev v : CoreView
  v = view_at c n

  is : seat_at (shows z c) n ≡ show_seat (view_at c n)
  is = shown_seat z c n (at_seat z c n so hn)

  -- the bit of s after a write of its strong word
  bit_stays : (s : SlotId) (w : ℕ) → s.0 < z.slots
      → bit_in s (slice_index (set c.words (strong_at z s) w) (bits_at z s)) ≡ free_bit z c s
  bit_stays s w hs = ap (bit_in s)
      (get_or-set_other c.words (strong_at z s) (bits_at z s) w 0 (omega arith))

  -- the object of s ends: its strong word becomes w
  ends : (s : SlotId) (t : List Move) (w : ℕ) → s.0 < z.slots → filled v.phase ≡ None
      → is_live_word (strong z c s) ≡ true
      → (has_zero (strong z c s) ≡ true) ⊎ (strong_refs (shows z c) s ≡ 0) → has_zero w ≡ true
      → Row (shows z c) n (plain.End s) 0
      (shows z (put c n (record v { dying = v.dying ++ s ∷ []; phase = phase.Idle; trail = t })
      (strong_at z s) w))
  ends s t w hs none live over mark =
      let u : CoreView = record v { dying = v.dying ++ s ∷ []; phase = phase.Idle; trail = t } in
      let ws : List ℕ = set c.words (strong_at z s) w in
      let started = live_started z c so s hs live in
      let b = started.bit in
      let cl = started.claimers in
      let b' = bit_stays s w hs in
      let m = claimers_move z c n u so hn ws s in
      let fill = unfilled v.phase s none in
      let d = dying_move z c n u so hn ws s in
      let l = lives_move z c n u so hn ws s in
      let p = times_push s s v.dying in
      let o = one_same s s refl in
      does.does_end (shows z c) _ n (show_seat v) is s (show_slot z c s)
      (shown_slot z c s hs) (is_live z c so s hs live) over
      (strong_changes z c n u s so hn hs
      (λ x ne.
      let f = unfilled v.phase x none in
      let q = times_push x s v.dying in
      let r = one_other x s (λ e. ne (sym e)) in
      record { claims = omega arith; dying = omega arith; made = refl })
      w Ended true (lives c s)
      (ended_stage (signs z (put c n u (strong_at z s) w) s) (omega arith) (omega arith) (omega arith))
      mark (omega arith)
      ∙ ap (λ (f : Option SlotId). with_slot (with_seat (shows z c) n
      (record (show_seat v) { dying = v.dying ++ s ∷ []; filling = f })) s
      (record (show_slot z c s) { stage = Ended; marked = true })) (sym none))

  -- nothing but the phase changes
  stays : (u : CoreView) (p : ℕ) → filled v.phase ≡ None → filled u.phase ≡ None
      → u.dying ≡ v.dying → u.made ≡ v.made → show_seat u ≡ show_seat v
      → shows z (put c n u p (slice_index c.words p)) ≡ shows z c
  stays u p was none d m same = same_plain (shows z c) _ n (show_seat u)
      (still_quiet z c n u so hn p (fills_nothing v u was none d m)) (same ∙ sym is)

  -- what shows no filled slot after as before
  refill : (p : Phase) → filled v.phase ≡ None → filled p ≡ None
      → record (show_seat v) { filling = filled p } ≡ show_seat v
  refill p was none =
      ap (λ (f : Option SlotId). record (show_seat v) { filling = f }) (none ∙ sym was)

  -- where the word is 0 there are no references
  unreferred : (s : SlotId) → s.0 < z.slots → strong z c s ≡ 0 → strong_refs (shows z c) s ≡ 0
  unreferred s hs null =
      shown_strong z c s
      ∙ (sym (value_is (adds_used c) (numbers z c s) (so.slots s hs) (adds_fit z c so))
      ∙ ap value null)

  -- the slot of the seat's phase is there
  there : (s : SlotId) → slot_of v.phase ≡ Some s → s.0 < z.slots
  there s at = phase_there z n v (so.seats n hn) s at

  pub finish_shows : Enabled z c n act.Finish → ShowsRow z c n act.Finish
  finish_shows on =
      let s : SlotId = on.1.0 in
      let was = ap filled on.1.1 in
      let hs = there on.1.0 (ap slot_of on.1.1) in
      by_test (strong z c on.1.0 == 0)
      (λ test.
      let null : strong z c s ≡ 0 = grind (arith, nat_tests) in
      rw (ap slot_of on.1.1, test) (ends s _ ZERO hs was (live_low (strong z c s) (omega arith))
      (inr (unreferred s hs null)) refl))
      (λ test.
      let none = unfilled_if (has_help (strong z c s)) (phase.Help s) phase.Idle refl refl in
      rw (ap slot_of on.1.1, test)
      (refl, stays _ (strong_at z s) was none refl refl (refill _ was none)))

  pub take_shows : Enabled z c n act.Take → ShowsRow z c n act.Take
  take_shows on =
      let s : SlotId = on.1.0 in
      let was = ap filled on.1.1 in
      let hs = there on.1.0 (ap slot_of on.1.1) in
      let f = flags (adds_used c) (numbers z c s) (so.slots s hs) (adds_fit z c so) in
      let mask = cleared (strong z c on.1.0) f.fits in
      by_test (has_help (strong z c on.1.0))
      (λ test.
      let big = f.help test in
      let marked : has_zero (strong z c s) ≡ true = grind (arith, nat_tests) in
      rw (ap slot_of on.1.1, mask, test) (ends s _ (strong z c s - HELP) hs was
      (help_lives (strong z c s) test) (inl marked) (help_taken (strong z c s) _ refl big)))
      (λ test. rw (ap slot_of on.1.1, mask, test)
      (refl, stays _ (strong_at z s) was refl refl refl (refill phase.Idle was refl)))

  -- a mark of a word that is 0
  marks : (s : SlotId) (t : List Move) → v.phase ≡ phase.Zero s → s.0 < z.slots → strong z c s ≡ 0
      → shows z (put c n (record v { phase = phase.Idle; trail = t }) (strong_at z s) (ZERO + HELP))
      ≡ with_slot (shows z c) s (record (show_slot z c s) { marked = true })
  marks s t at hs null =
      let u : CoreView = record v { phase = phase.Idle; trail = t } in
      let ws : List ℕ = set c.words (strong_at z s) (ZERO + HELP) in
      let live = live_low (strong z c s) (omega arith) in
      let started = live_started z c so s hs live in
      let b = started.bit in
      let cl = started.claimers in
      let dy = started.dying in
      let b' = bit_stays s (ZERO + HELP) hs in
      let m = claimers_move z c n u so hn ws s in
      let fill = unfilled v.phase s (ap filled at) in
      let d = dying_move z c n u so hn ws s in
      let l = lives_move z c n u so hn ws s in
      let len = so.words in
      let here = ap is_live_word (get_or-set_same c.words (strong_at z s) (ZERO + HELP) 0 (omega arith)) in
      strong_changes z c n u s so hn hs
      (λ x ne. fills_nothing v u (ap filled at) refl refl refl x)
      (ZERO + HELP) (stage z c s) true (lives c s)
      (alive_stage (signs z (put c n u (strong_at z s) (ZERO + HELP)) s)
      (omega arith) (omega arith) (omega arith) here ∙ sym (is_live z c so s hs live))
      refl (omega arith)
      ∙ ap (λ (P : Plain). with_slot P s (record (show_slot z c s) { marked = true }))
      (same_plain (shows z c) _ n (show_seat u) refl (refill phase.Idle (ap filled at) refl ∙ sym is))

  pub mark_shows : Enabled z c n act.Mark → ShowsRow z c n act.Mark
  mark_shows on =
      let s : SlotId = on.1.0 in
      let was = ap filled on.1.1 in
      let hs = there on.1.0 (ap slot_of on.1.1) in
      let reads = value_is (adds_used c) (numbers z c s) (so.slots s hs) (adds_fit z c so)
      ∙ sym (shown_strong z c s) in
      by_test (strong z c on.1.0 == 0)
      (λ test.
      let null : strong z c s ≡ 0 = grind (arith, nat_tests) in
      rw (ap slot_of on.1.1, test) (does.does_mark (shows z c) _ n (show_seat v) is s (show_slot z c s)
      (shown_slot z c s hs) (value (strong z c s)) reads
      (is_live z c so s hs (live_low (strong z c s) (omega arith))) (unreferred s hs null)
      (marks s _ on.1.1 hs null)))
      (λ test.
      let some' : strong z c s ≢ 0 = grind (arith, nat_tests) in
      rw (ap slot_of on.1.1, test) (
        reads,
        inl (
          stays _ (strong_at z s) was refl refl refl (refill phase.Idle was refl),
          λ none. ap (λ (x : PlainSlot). x.marked) (shown_slot z c s hs)
              ∙ zero_stands (strong z c s) some' none,
        ),
      ))
