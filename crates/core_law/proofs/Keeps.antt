-- Every event but a leave keeps the invariant: by cases on the act and on the word found.
use Rattle.std.proofs.Common.{◌≡◌, ◌≢◌, ⊎_elim, ℕ, ◌+◌, ◌^◌, ◌<◌, ◌≤◌, List, length, set, refl, ap, arith}
use Rattle.std.specs.Prelude.{slice_index, nat_lt, ◌==◌, if◌then◌else◌, Option, None}
use Rattle.std.proofs.lemmas.List.{get_or-set_other}
use Rattle.std.proofs.lemmas.Bool.Decides.{nat_tests}
use Rattle.core_events.specs.plain_state.declared.act.EventPlace.{EventPlace}
use Rattle.core_events.specs.plain_state.declared.act.EventPlace.TheVariants.{Cell, Field, WeakCell, WeakField}
use Rattle.core_events.specs.plain_state.declared.slot.Kind.{Kind}
use Rattle.core_events.specs.plain_state.declared.slot.Kind.TheVariants.{Strong, Weak, Disposal}
use Rattle.core_events.specs.plain_state.declared.slot.SlotId.{SlotId}
use Rattle.core_events.specs.plain_state.Lists.{times}
use Rattle.core_events.specs.plain_state.Places.{place_kind}
use Rattle.core_events.specs.plain_state.Steps.{word_of}
use Rattle.core_events.specs.declared.act.Act.{Act}
use Rattle.core_events.specs.declared.act.Act.TheVariants as act
use Rattle.core_events.specs.declared.outcome.Outcome.TheVariants as outcome
use Rattle.core_events.specs.declared.shape.Shape.{Shape}
use Rattle.core_events.specs.declared.view.CoreView.{CoreView}
use Rattle.core_events.specs.declared.view.Move.{Move}
use Rattle.core_events.specs.declared.view.Note.TheVariants as note
use Rattle.core_events.specs.declared.view.Phase.TheVariants as phase
use Rattle.core_events.specs.Words.{note_at, strong_at, weak_at, place_at, payload_at, bits_at, bit_in, announcements}
use Rattle.core_events.specs.announce_slots.Words.{code}
use Rattle.core_events.specs.counter_word.Words.{value}
use Rattle.core_events.specs.Views.{IsOpen, IsRipeField, slot_of}
use Rattle.core_events.specs.Steps.{May, CanGive}
use Rattle.core_events.specs.Runs.{Core, view_at, Enabled, after, HasNullFields}
use Rattle.core_events.specs.Counts.{strong, weak, dying_times, is_live_word}
use Rattle.core_law.specs.Sound.{Sound, covering}
use Rattle.core_law.proofs.Kit.{by_test, one_other, total_at}
use Rattle.core_law.proofs.Held.{strongly_refs, held_named}
use Rattle.core_law.proofs.Bits.{bit_most, clear_stays}
use Rattle.core_law.proofs.Guards.{guards_same}
use Rattle.core_law.proofs.Writes.{IsPlace, OffBits, payload_off}
use Rattle.core_law.proofs.Put.{law_alike, at_seat}
use Rattle.core_law.proofs.Wrote.{wrote_off}
use Rattle.core_law.proofs.Steady.{steady_sound, off_rest, named_in_range}
use Rattle.core_law.proofs.InRange.{open_in_range, readable_in_range, ripe_in_range, phase_there}
use Rattle.core_law.proofs.OneWord.{trail_step}
use Rattle.core_law.proofs.Lives as life
use Rattle.core_law.proofs.Tickets.{ticket_step}
use Rattle.core_law.proofs.Weaks as weak_word
use Rattle.core_law.proofs.Notes as announced
use Rattle.core_law.proofs.Scans as scan
use Rattle.core_law.proofs.ExchangeStep.{exchange_step, IsAlive}
use Rattle.core_law.proofs.KeepsCounts.{longer, is_one, not_one, add_keeps, drop_keeps, pay_keeps, finish_keeps, take_keeps, count_keeps, mark_keeps}

module _ (z : Shape) (c : Core) (n : ℕ) (so : Sound z c) (hn : n < z.seats) where
  abbrev v : CoreView
  v = view_at c n

  -- an announcement fits its word
  code_fits : (k : Kind) (s : SlotId) → s.0 < z.slots → code k s < 2 ^ 64
  code_fits k s h = let few = so.shape.3 in grind arith

  own_note : (j : ℕ) → note_at v.seat j ≡ note_at n j
  own_note j = ap (λ (m : ℕ). note_at m j) (so.seats n hn).number

  announce_keeps : (j : ℕ) (k : Kind) (s : SlotId) → May z (act.Announce j k s) v
      → Sound z (after z c n (act.Announce j k s))
  announce_keeps j k s may =
      announced.note_step z c n so hn j (note.Announced k s) _ _ (own_note j) may.0 may.1
      (code_fits k s may.3) (λ k' x e. absurd (cc (e)))
      (λ x le. let there = may.3 in one_other x s (omega arith))

  release_keeps : (j : ℕ) → May z (act.Release j) v → Sound z (after z c n (act.Release j))
  release_keeps j may =
      announced.note_step z c n so hn j note.Idle _ _ (own_note j) may.0 may.1 (omega arith)
      (λ k' x e. absurd (cc (e))) (λ x le. refl)

  -- a place that is open is there, and its slot is live
  pub open_there : (q : EventPlace) → IsOpen z v q → IsPlace z q
  open_there q h = open_in_range z n v (so.seats n hn) q h

  pub open_alive : (q : EventPlace) → IsOpen z v q → IsAlive z c n so hn q
  open_alive (Cell i) h = tt
  open_alive (Field s i) h = let r = strongly_refs z c n s so hn h.1 in omega arith
  open_alive (WeakCell i) h = tt
  open_alive (WeakField s) h = let r = strongly_refs z c n s so hn h in omega arith

  dying_in : (s : SlotId) → times s v.dying ≤ dying_times c s
  dying_in s = total_at (λ (u : CoreView). times s u.dying) c.views n (at_seat z c n so hn)

  ripe_alive : (q : EventPlace) → IsRipeField v q → IsAlive z c n so hn q
  ripe_alive (Cell i) h = tt
  ripe_alive (Field s i) h =
      let r = dying_in s in let e = (so.seats n hn).ripe s in let d = h.1 in omega arith
  ripe_alive (WeakCell i) h = tt
  ripe_alive (WeakField s) h = let r = dying_in s in let e = (so.seats n hn).ripe s in omega arith

  check_keeps : (j : ℕ) (q : EventPlace) → May z (act.Check j q) v
      → Sound z (after z c n (act.Check j q))
  check_keeps j q may = by_test (slice_index c.words (place_at z q) == may.2.0.0 + 1)
      (λ is. rw (may.2.1, is) (announced.check_step z c n so hn j q may.2.0 _ may.0 may.1
      (readable_in_range z n v (so.seats n hn) q may.3) may.2.1 (grind (arith, nat_tests))))
      (λ is. rw (may.2.1, is) (trail_step z c n so hn _ (place_at z q)))

  alive_keeps : (j : ℕ) → May z (act.Alive j) v → Sound z (after z c n (act.Alive j))
  alive_keeps j may =
      let there = named_in_range z n v may.2.0 (so.seats n hn) (held_named may.2.0 v may.2.2) in
      by_test (nat_lt 0 (value (strong z c may.2.0)))
      (λ is. rw (may.2.1, is) (announced.alive_step z c n so hn j may.2.0 _ may.0 may.1 there may.2.1
      (grind (arith, nat_tests))))
      (λ is. rw (may.2.1, is) (trail_step z c n so hn _ (strong_at z may.2.0)))

  scan_keeps : May z act.Scan v → Sound z (after z c n act.Scan)
  scan_keeps may =
      let w : ℕ = slice_index c.words (1 + length v.seen) in
      by_test (length v.seen + 1 == announcements z)
      (λ is. rw is (scan.split_step z c n so hn w _ may (grind (arith, nat_tests)) refl
      (1 + length v.seen)))
      (λ is. rw is (scan.scan_step z c n so hn w _ may (grind (arith, nat_tests)) refl
      (1 + length v.seen)))

  swap_keeps : (q : EventPlace) (new : Option SlotId) → May z (act.Swap q new) v
      → Sound z (after z c n (act.Swap q new))
  swap_keeps q new may = ⊎_elim
      (λ h. exchange_step z c n so hn q new _ may.0 may.1 (open_there q h.0) (open_alive q h.0) h.1)
      (λ h. exchange_step z c n so hn q new _ may.0 may.1
      (ripe_in_range z n v (so.seats n hn) q h.0) (ripe_alive q h.0)
      (rw h.1 (null_given (place_kind q))))
      may.2
    where
      null_given : (k : Kind) → CanGive k None v
      null_given Strong = tt
      null_given Weak = tt
      null_given Disposal = tt

  cas_keeps : (q : EventPlace) (old new : Option SlotId) → May z (act.Cas q old new) v
      → Sound z (after z c n (act.Cas q old new))
  cas_keeps q old new may = by_test (slice_index c.words (place_at z q) == word_of old)
      (λ is. rw is (exchange_step z c n so hn q new _ may.0 may.1 (open_there q may.2)
      (open_alive q may.2) may.3))
      (λ is. rw is (trail_step z c n so hn _ (place_at z q)))

  -- a word whose bit is clear stays as it is
  claim_keeps : (s : SlotId) → May z (act.Claim s) v → Sound z (after z c n (act.Claim s))
  claim_keeps s may =
      let w : ℕ = slice_index c.words (bits_at z s) in
      let m = bit_most s w in
      by_test (bit_in s w == 1)
      (λ is. rw is (life.claim_free z c n so hn s _ may.0 may.1 may.2 may.3 (grind (arith, nat_tests))))
      (λ is.
      let taken : bit_in s w ≢ 1 = grind (arith, nat_tests) in
      let same = clear_stays s w (so.fit.fit (bits_at z s)) (omega arith) in
      rw (is, same) (trail_step z c n so hn _ (bits_at z s)))

  arm_keeps : May z act.Arm v → Sound z (after z c n act.Arm)
  arm_keeps may = rw (ap slot_of may.1)
      (life.arm_bare z c n so hn may.0 (longer v act.Arm outcome.Plain) may.1)

  -- a payload word is of no count
  fill_keeps : (i x : ℕ) → May z (act.Fill i x) v → Sound z (after z c n (act.Fill i x))
  fill_keeps i x may = rw (ap slot_of may.0.1) (
      let p : ℕ = payload_at z may.0.0 i in
      let t : List Move = longer v (act.Fill i x) outcome.Plain in
      let u : CoreView = record v { trail = t } in
      let law = so.seats n hn in
      let small = may.1 in
      let hs = phase_there z n v law may.0.0 (ap slot_of may.0.1) in
      let off = payload_off z may.0.0 i may.1 in
      let before : OffBits z p = omega arith in
      steady_sound z c n u p x so hn (off_rest z c.words p x off before may.2) (omega arith)
      (assumption law)
      (λ y hy. law_alike z c n u (set c.words p x) y so hn (omega arith) (omega arith)
      (wrote_off z c.words p x y off.0 hy (omega arith) (omega arith) (omega arith)) hy)
      (assumption)
      (omega arith) (λ y. omega arith)
      (λ a y hy unripe.
      let g = guards_same a Disposal y v u refl refl refl in
      let e : covering Disposal z (set c.words p x) y ≡ covering Disposal z c.words y =
      ap (λ (k : ℕ). if is_live_word k then 1 else 0)
      (get_or-set_other c.words p (strong_at z y) x 0 (omega arith)) in
      ((λ pos. omega arith), (λ pos. omega arith)))
      (omega arith))

  start_keeps : May z act.Start v → Sound z (after z c n act.Start)
  start_keeps may = rw (ap slot_of may.1)
      (life.start_live z c n so hn may.0
      (longer v act.Start outcome.Plain) may.1)

  free_keeps : May z act.Free v → Sound z (after z c n act.Free)
  free_keeps may = rw (ap slot_of may.1)
      (life.give_back z c n so hn may.0 (longer v act.Free outcome.Plain) may.1)

  wdrop_keeps : (s : SlotId) → May z (act.Wdrop s) v → Sound z (after z c n (act.Wdrop s))
  wdrop_keeps s may =
      let own = may.1 in
      let there = named_in_range z n v s (so.seats n hn) (omega arith) in
      by_test (weak z c s == 1)
      (λ is. rw is (weak_word.weak_last z c n so hn s _ there may.0 refl
      (weak_word.weak_drops z c n so hn s (phase.Give s) _ may.1) (is_one z c n so hn _ is)))
      (λ is. rw is (weak_word.weak_left z c n so hn s _ there may.0 refl
      (weak_word.weak_drops z c n so hn s phase.Idle _ may.1) (not_one z c n so hn _ is)))

  destroy_keeps : (s : SlotId) → May z (act.Destroy s) v → HasNullFields z c.words s
      → Sound z (after z c n (act.Destroy s))
  destroy_keeps s may nulls = by_test (weak z c s == 1)
      (λ is. rw is (weak_word.destroy_last z c n so hn s _ may.0 may.1 nulls (is_one z c n so hn _ is)))
      (λ is. rw is (weak_word.destroy_left z c n so hn s _ may.0 may.1 nulls (not_one z c n so hn _ is)))

  -- every act but a leave
  pub keeps : (a : Act) → Enabled z c n a → ((j : ℕ) → a ≡ act.Leave j → ⊥)
      → Sound z (after z c n a)
  keeps (act.Add s) on stays = add_keeps z c n so hn s on.1
  keeps (act.Drop s) on stays = drop_keeps z c n so hn s on.1
  keeps act.Pay on stays = pay_keeps z c n so hn on.1
  keeps act.Finish on stays = finish_keeps z c n so hn on.1
  keeps act.Take on stays = take_keeps z c n so hn on.1
  keeps (act.Count s) on stays = count_keeps z c n so hn s on.1
  keeps act.Mark on stays = mark_keeps z c n so hn on.1
  keeps (act.Announce j k s) on stays = announce_keeps j k s on.1
  keeps (act.Release j) on stays = release_keeps j on.1
  keeps (act.Look q) on stays = trail_step z c n so hn _ (place_at z q)
  keeps (act.Check j q) on stays = check_keeps j q on.1
  keeps (act.Alive j) on stays = alive_keeps j on.1
  keeps act.Scan on stays = scan_keeps on.1
  keeps (act.Swap q new) on stays = swap_keeps q new on.1
  keeps (act.Cas q old new) on stays = cas_keeps q old new on.1
  keeps (act.Claim s) on stays = claim_keeps s on.1
  keeps act.Arm on stays = arm_keeps on.1
  keeps (act.Fill i x) on stays = fill_keeps i x on.1
  keeps act.Start on stays = start_keeps on.1
  keeps (act.See s i) on stays = trail_step z c n so hn _ (payload_at z s i)
  keeps act.Free on stays = free_keeps on.1
  keeps act.Ticket on stays = ticket_step z c n so hn (longer v act.Ticket _) on.1.0 on.1.1
  keeps (act.Wadd s) on stays = let may = on.1 in weak_word.weak_add z c n so hn s
      (longer v (act.Wadd s) outcome.Plain) may.0 may.1 may.2
  keeps (act.Wdrop s) on stays = wdrop_keeps s on.1
  keeps (act.Destroy s) on stays = destroy_keeps s on.1 on.2
  keeps (act.Wcount s) on stays = trail_step z c n so hn _ (weak_at z s)
  keeps (act.Leave j) on stays = absurd (stays j refl)
