-- The counters' events keep the invariant: by cases on the word found.
use Rattle.std.proofs.Common.{◌≡◌, ◌≢◌, ℕ, ◌<◌, true, false, List, [], ◌∷◌, ◌++◌, refl, ap, arith}
use Rattle.std.specs.Prelude.{slice_index, ◌==◌, nat_lt}
use Rattle.std.proofs.lemmas.Bool.Decides.{nat_tests}
use Rattle.core_events.specs.plain_state.declared.slot.Kind.{Kind}
use Rattle.core_events.specs.plain_state.declared.slot.Kind.TheVariants.{Strong, Weak, Disposal}
use Rattle.core_events.specs.plain_state.declared.slot.SlotId.{SlotId}
use Rattle.core_events.specs.plain_state.Lists.{Entry, entry_times}
use Rattle.core_events.specs.declared.act.Act.{Act}
use Rattle.core_events.specs.declared.act.Act.TheVariants as act
use Rattle.core_events.specs.declared.outcome.Outcome.{Outcome}
use Rattle.core_events.specs.declared.shape.Shape.{Shape}
use Rattle.core_events.specs.declared.view.CoreView.{CoreView}
use Rattle.core_events.specs.declared.view.Move.{Move}
use Rattle.core_events.specs.declared.view.Phase.{Phase}
use Rattle.core_events.specs.declared.view.Phase.TheVariants as phase
use Rattle.core_events.specs.Words.{strong_at}
use Rattle.core_events.specs.counter_word.Words.{ZERO, has_help}
use Rattle.core_events.specs.Views.{slot_of}
use Rattle.core_events.specs.Steps.{May, noted, decremented, given_up, paid, paid_outcome, owed_at, counter_at, minus_one}
use Rattle.core_events.specs.Runs.{Core, view_at, after}
use Rattle.core_events.specs.Counts.{strong, weak}
use Rattle.core_law.specs.Slots.{numbers}
use Rattle.core_law.specs.Sound.{Sound}
use Rattle.core_law.proofs.Kit.{by_test, one_same, entry_cons}
use Rattle.core_law.proofs.InRange.{owed_named, phase_there}
use Rattle.core_law.proofs.Flags.{flags, cleared}
use Rattle.core_law.proofs.Put.{put, adds_fit}
use Rattle.core_law.proofs.Steady.{named_in_range}
use Rattle.core_law.proofs.OneWord.{trail_step}
use Rattle.core_law.proofs.Counters as counter
use Rattle.core_law.proofs.Endings as ending
use Rattle.core_law.proofs.Weaks as weak_word

-- the trail with one event more
abbrev pub longer : CoreView → Act → Outcome → List Move
longer v a o = v.trail ++ record { act = a; outcome = o } ∷ []

module _ (z : Shape) (c : Core) (n : ℕ) (so : Sound z c) (hn : n < z.seats) where
  abbrev v : CoreView
  v = view_at c n

  -- what a test on a word tells
  pub is_one : (w : ℕ) → (w == 1) ≡ true → w ≡ 1
  is_one w e = grind (arith, nat_tests)

  pub not_one : (w : ℕ) → (w == 1) ≡ false → w ≢ 1
  not_one w e = grind (arith, nat_tests)

  is_zero : (w : ℕ) → (w == 0) ≡ true → w ≡ 0
  is_zero w e = grind (arith, nat_tests)

  not_zero : (w : ℕ) → (w == 0) ≡ false → w ≢ 0
  not_zero w e = grind (arith, nat_tests)

  pub add_keeps : (s : SlotId) → May z (act.Add s) v → Sound z (after z c n (act.Add s))
  add_keeps s may = by_test (nat_lt (strong z c s) ZERO)
      (λ is. rw is (counter.add_up z c n so hn s _ may.0 may.1 may.2 (grind (arith, nat_tests))))
      (λ is. rw is (counter.add_dead z c n so hn s _ may.0 may.1 may.2 (grind (arith, nat_tests))))

  pub drop_keeps : (s : SlotId) → May z (act.Drop s) v → Sound z (after z c n (act.Drop s))
  drop_keeps s may =
      let own = may.1 in
      let there = named_in_range z n v s (so.seats n hn) (omega arith) in
      by_test (strong z c s == 1)
      (λ is. rw is (counter.strong_last z c n so hn s _ there may.0 refl
      (counter.drops z c n so hn s (phase.Finish s) _ may.1) (is_one _ is)))
      (λ is. rw is (counter.strong_left z c n so hn s _ there may.0 refl
      (counter.drops z c n so hn s phase.Idle _ may.1) (not_one _ is)))

  pub pay_keeps : May z act.Pay v → Sound z (after z c n act.Pay)
  pay_keeps may = of v.owed refl
    where
      there : (k : Kind) (s : SlotId) (rest : List Entry) → v.owed ≡ (k, s) ∷ rest → s.0 < z.slots
      there k s rest owes = named_in_range z n v s (so.seats n hn) (owed_named z n v (so.seats n hn) k s rest owes)

      never : (s : SlotId) (rest : List Entry) → v.owed ≡ (Disposal, s) ∷ rest → ⊥
      never s rest owes =
          let d = (so.seats n hn).kinds s in
          let a = ap (entry_times Disposal s) owes in
          let e = entry_cons Disposal s (Disposal, s) rest in
          let o = one_same s s refl in absurd (omega arith)

      first : (k : Kind) (s : SlotId) (rest : List Entry) → v.owed ≡ (k, s) ∷ rest
          → Sound z (put c n (noted act.Pay (decremented k (slice_index c.words (counter_at z k s)))
          (given_up k s (slice_index c.words (counter_at z k s)) (record v { owed = rest })))
          (counter_at z k s) (minus_one (slice_index c.words (counter_at z k s))))
      first Strong s rest owes =
          let gives = λ (p : Phase) (t : List Move).
          counter.pays z c n so hn Strong s rest p t (λ e. cc) owes in
          by_test (strong z c s == 1)
          (λ is. rw is (counter.strong_last z c n so hn s _ (there Strong s rest owes) may.0 refl
          (gives (phase.Finish s) _) (is_one _ is)))
          (λ is. rw is (counter.strong_left z c n so hn s _ (there Strong s rest owes) may.0 refl
          (gives phase.Idle _) (not_one _ is)))
      first Weak s rest owes =
          let gives = λ (p : Phase) (t : List Move).
          counter.pays z c n so hn Weak s rest p t (λ e. cc) owes in
          by_test (weak z c s == 1)
          (λ is. rw is (weak_word.weak_last z c n so hn s _ (there Weak s rest owes) may.0 refl
          (gives (phase.Give s) _) (is_one _ is)))
          (λ is. rw is (weak_word.weak_left z c n so hn s _ (there Weak s rest owes) may.0 refl
          (gives phase.Idle _) (not_one _ is)))
      first Disposal s rest owes = absurd (never s rest owes)

      of : (es : List Entry) → v.owed ≡ es
          → Sound z (put c n (noted act.Pay (paid_outcome (slice_index c.words (owed_at z es)) es)
          (paid (slice_index c.words (owed_at z es)) es v))
          (owed_at z es) (minus_one (slice_index c.words (owed_at z es))))
      of [] owes = absurd (may.1 owes)
      of (e ∷ rest) owes = first e.0 e.1 rest owes

  pub finish_keeps : May z act.Finish v → Sound z (after z c n act.Finish)
  finish_keeps may =
      let s : SlotId = may.0 in
      let hs = phase_there z n v (so.seats n hn) may.0 (ap slot_of may.1) in
      let f = flags _ (numbers z c s) (so.slots s hs) (adds_fit z c so) in
      by_test (strong z c may.0 == 0)
      (λ is. rw (ap slot_of may.1, is) (ending.finish_ended z c n so hn s _ may.1 (is_zero _ is)))
      (λ not. by_test (has_help (strong z c may.0))
      (λ is. rw (ap slot_of may.1, not, is) (ending.finish_help z c n so hn s _ may.1 (f.help is)))
      (λ is. rw (ap slot_of may.1, not, is)
      (ending.finish_lost z c n so hn s _ may.1 (not_zero _ not) (f.no_help is))))

  pub take_keeps : May z act.Take v → Sound z (after z c n act.Take)
  take_keeps may =
      let s : SlotId = may.0 in
      let hs = phase_there z n v (so.seats n hn) may.0 (ap slot_of may.1) in
      let f = flags _ (numbers z c s) (so.slots s hs) (adds_fit z c so) in
      let mask = cleared (strong z c may.0) f.fits in
      by_test (has_help (strong z c may.0))
      (λ is. rw (ap slot_of may.1, mask, is) (ending.take_ended z c n so hn s _ may.1 (f.help is)))
      (λ is. rw (ap slot_of may.1, mask, is) (ending.take_none z c n so hn s _ may.1 (f.no_help is)))

  pub count_keeps : (s : SlotId) → May z (act.Count s) v → Sound z (after z c n (act.Count s))
  count_keeps s may = by_test (strong z c s == 0)
      (λ is. rw is (counter.count_again z c n so hn s _ may.0 may.1))
      (λ is. rw is (trail_step z c n so hn _ (strong_at z s)))

  pub mark_keeps : May z act.Mark v → Sound z (after z c n act.Mark)
  mark_keeps may = by_test (strong z c may.0 == 0)
      (λ is. rw (ap slot_of may.1, is) (ending.mark_zero z c n so hn may.0 _ may.1 (is_zero _ is)))
      (λ is. rw (ap slot_of may.1, is) (ending.mark_other z c n so hn may.0 _ may.1))
