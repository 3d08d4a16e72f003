-- The counters' events show a plain step each.
use Rattle.std.proofs.Common.{◌≡◌, ℕ, ◌<◌, true, false, List, [], ◌∷◌, ◌++◌, length, refl, ap, sym, ◌∙◌, subst, arith}
use Rattle.std.specs.Prelude.{slice_index, ◌==◌, nat_lt, Option, None}
use Rattle.std.proofs.lemmas.Bool.Decides.{nat_tests}
use Rattle.core_events.specs.plain_state.declared.act.PlainAct.TheVariants as plain
use Rattle.core_events.specs.plain_state.declared.slot.Kind.{Kind}
use Rattle.core_events.specs.plain_state.declared.slot.Kind.TheVariants.{Strong, Weak, Disposal}
use Rattle.core_events.specs.plain_state.declared.slot.SlotId.{SlotId}
use Rattle.core_events.specs.plain_state.declared.slot.PlainSlot.{PlainSlot}
use Rattle.core_events.specs.plain_state.Lawful.{IsCovered}
use Rattle.core_events.specs.plain_state.Lists.{Entry, entry_times}
use Rattle.core_events.specs.plain_state.State.{seat_at, with_seat}
use Rattle.core_events.specs.plain_state.Steps.{Row}
use Rattle.core_events.specs.declared.act.Act.TheVariants as act
use Rattle.core_events.specs.declared.shape.Shape.{Shape}
use Rattle.core_events.specs.declared.view.CoreView.{CoreView}
use Rattle.core_events.specs.declared.view.Phase.{Phase}
use Rattle.core_events.specs.declared.view.Phase.TheVariants as phase
use Rattle.core_events.specs.Words.{strong_at}
use Rattle.core_events.specs.counter_word.Words.{ZERO, has_zero}
use Rattle.core_events.specs.Views.{without}
use Rattle.core_events.specs.Steps.{noted, plus_one, minus_one, counter_at, decremented, given_up, paid, paid_outcome, owed_at}
use Rattle.core_events.specs.Runs.{Core, Enabled, view_at}
use Rattle.core_events.specs.Counts.{strong, weak, adds_used, listed, refs}
use Rattle.core_events.specs.Shows.{shows, show_seat, filled}
use Rattle.core_events.specs.ShownSteps.{ejects}
use Rattle.core_law.specs.Slots.{numbers}
use Rattle.core_law.specs.Sound.{Sound}
use Rattle.core_law.proofs.Kit.{by_test, total_at, entry_cons, entry_append, one_same}
use Rattle.core_law.proofs.Held.{held_named}
use Rattle.core_law.proofs.Parts.{sound_good, value_is}
use Rattle.core_law.proofs.Put.{put, at_seat, adds_fit}
use Rattle.core_law.proofs.Steady.{named_in_range}
use Rattle.core_law.proofs.Bridge.{shown_seat, shown_slot, shown_strong}
use Rattle.core_law.proofs.Does as does
use Rattle.core_law.proofs.Does.{ShowsRow}
use Rattle.core_law.proofs.Covered.{covered_after}
use Rattle.core_law.proofs.Losing.{loses_without}
use Rattle.core_law.proofs.Quiet.{same_plain, unfilled_if, calm, fills_nothing, strong_quiet, weak_quiet, still_quiet}
use Rattle.core_law.proofs.Ranges.{SameFlags, plus_flags, low_flags, counts_low}

module _ (z : Shape) (c : Core) (n : ℕ) (so : Sound z c) (hn : n < z.seats) where
  abbrev v : CoreView
  v = view_at c n

  h : n < length c.views
  h = at_seat z c n so hn

  is : seat_at (shows z c) n ≡ show_seat (view_at c n)
  is = shown_seat z c n (at_seat z c n so hn)

  pub add_shows : (s : SlotId) → Enabled z c n (act.Add s) → ShowsRow z c n (act.Add s)
  add_shows s on =
      let hs = named_in_range z n v s (so.seats n hn) (held_named s v on.1.2) in
      let fit = adds_fit z c so in
      let most = ((sound_good z c so).bounds s hs).strong_most in
      let keeps = plus_flags (strong z c s) (so.fit.fit (strong_at z s)) (omega arith) in
      let marks = ap (λ (x : PlainSlot). x.marked) (shown_slot z c s hs) in
      by_test (nat_lt (strong z c s) ZERO)
      (λ test.
      let unmarked : has_zero (strong z c s) ≡ false = grind (arith, nat_tests) in
      rw test (does.does_add_up (shows z c) _ n (show_seat v) is s on.1.2 (marks ∙ unmarked)
      (strong_quiet z c n _ so hn s (plus_one (strong z c s)) hs keeps (calm v _ refl refl refl))))
      (λ test.
      let marked : has_zero (strong z c s) ≡ true = grind (arith, nat_tests) in
      rw test (does.does_add_dead (shows z c) _ n (show_seat v) is s on.1.2 (marks ∙ marked)
      (strong_quiet z c n _ so hn s (plus_one (strong z c s)) hs keeps (calm v _ refl refl refl))))

  -- a strong word that counts a reference of this seat, after one is given up
  fewer : (s : SlotId) → s.0 < z.slots → 0 < listed Strong s v
      → SameFlags (strong z c s) (minus_one (strong z c s))
  fewer s hs own =
      let t = total_at (listed Strong s) c.views n h in
      let e = value_is (adds_used c) (numbers z c s) (so.slots s hs) (adds_fit z c so) in
      let p = counts_low (strong z c s) (refs Strong z c s) e (omega arith) in
      let a = p.0 in let b = p.1 in
      low_flags (strong z c s) (minus_one (strong z c s)) p.1 (omega arith)

  pub drop_shows : (s : SlotId) → Enabled z c n (act.Drop s) → ShowsRow z c n (act.Drop s)
  drop_shows s on =
      let own = on.1.1 in
      let hs = named_in_range z n v s (so.seats n hn) (omega arith) in
      let was = ap filled on.1.0.0 in
      let none = unfilled_if (strong z c s == 1) (phase.Finish s) phase.Idle refl refl in
      does.does_drop (shows z c) _ n (show_seat v) is s (without s v.owned)
      (loses_without s v.owned on.1.1)
      (strong_quiet z c n _ so hn s (minus_one (strong z c s)) hs (fewer s hs (omega arith))
      (fills_nothing v _ was none refl refl)
      ∙ ap (λ (f : Option SlotId). with_seat (shows z c) n
      (record (show_seat v) { owned = without s v.owned; filling = f })) (none ∙ sym was))

  pub pay_shows : Enabled z c n act.Pay → ShowsRow z c n act.Pay
  pay_shows on = of v.owed refl
    where
      was : filled v.phase ≡ None
      was = ap filled on.1.0.0

      ejects_first : (k : Kind) (s : SlotId) (rest : List Entry) (d : Core) → v.owed ≡ (k, s) ∷ rest
          → shows z d
          ≡ with_seat (shows z c) n (record (show_seat v) { deferred = rest ++ v.retired })
          → Row (shows z c) n (plain.Eject k s) 0 (shows z d)
      ejects_first k s rest d owes e =
          does.does_eject (shows z c) _ n (show_seat v) is k s (rest ++ v.retired)
          ([], rest ++ v.retired, ap (λ (es : List Entry). es ++ v.retired) owes, refl)
          e (subst IsCovered (sym e)
          (covered_after z c so n (record (show_seat v) { deferred = rest ++ v.retired }) hn refl
          (λ k' x. let a = entry_append k' x rest v.retired in omega arith)))

      -- the seat counts the reference that it owes
      counts : (k : Kind) (s : SlotId) (rest : List Entry) → v.owed ≡ (k, s) ∷ rest → 0 < listed k s v
      counts k s rest owes =
          let l = entry_cons k s (k, s) rest in
          let o = one_same s s refl in
          let e = ap (entry_times k s) owes in grind arith

      next' : (rest : List Entry) (p : Phase) → filled p ≡ None
          → with_seat (shows z c) n
          (record (show_seat v) { deferred = rest ++ v.retired; filling = filled p })
          ≡ with_seat (shows z c) n (record (show_seat v) { deferred = rest ++ v.retired })
      next' rest p none = ap (λ (f : Option SlotId). with_seat (shows z c) n
          (record (show_seat v) { deferred = rest ++ v.retired; filling = f })) (none ∙ sym was)

      first : (k : Kind) (s : SlotId) (rest : List Entry) → v.owed ≡ (k, s) ∷ rest
          → Row (shows z c) n (plain.Eject k s) 0
          (shows z (put c n (noted act.Pay (decremented k (slice_index c.words (counter_at z k s)))
          (given_up k s (slice_index c.words (counter_at z k s)) (record v { owed = rest })))
          (counter_at z k s) (minus_one (slice_index c.words (counter_at z k s)))))
      first Strong s rest owes =
          let own = counts Strong s rest owes in
          let hs = named_in_range z n v s (so.seats n hn) (omega arith) in
          let none = unfilled_if (strong z c s == 1) (phase.Finish s) phase.Idle refl refl in
          ejects_first Strong s rest _ owes
          (strong_quiet z c n _ so hn s (minus_one (strong z c s)) hs (fewer s hs own)
          (fills_nothing v _ was none refl refl) ∙ next' rest _ none)
      first Weak s rest owes =
          let own = counts Weak s rest owes in
          let hs = named_in_range z n v s (so.seats n hn) (omega arith) in
          let none = unfilled_if (weak z c s == 1) (phase.Give s) phase.Idle refl refl in
          ejects_first Weak s rest _ owes
          (weak_quiet z c n _ so hn s (minus_one (weak z c s)) hs
          (fills_nothing v _ was none refl refl) ∙ next' rest _ none)
      first Disposal s rest owes =
          let own = counts Disposal s rest owes in
          let never = (so.seats n hn).kinds s in absurd (omega arith)

      of : (es : List Entry) → v.owed ≡ es
          → Row (shows z c) n (ejects es) 0
          (shows z (put c n (noted act.Pay (paid_outcome (slice_index c.words (owed_at z es)) es)
          (paid (slice_index c.words (owed_at z es)) es v))
          (owed_at z es) (minus_one (slice_index c.words (owed_at z es)))))
      of [] owes = absurd (on.1.1 owes)
      of (e ∷ rest) owes = first e.0 e.1 rest owes

  pub count_shows : (s : SlotId) → Enabled z c n (act.Count s) → ShowsRow z c n (act.Count s)
  count_shows s on =
      let hs = named_in_range z n v s (so.seats n hn) (held_named s v on.1.1) in
      let was = ap filled on.1.0.0 in
      let reads = value_is (adds_used c) (numbers z c s) (so.slots s hs) (adds_fit z c so)
      ∙ sym (shown_strong z c s) in
      by_test (strong z c s == 0)
      (λ test. rw test (does.does_count (shows z c) _ n (show_seat v) is s _ on.1.1 reads
      (same_plain (shows z c) _ n _
      (still_quiet z c n _ so hn (strong_at z s) (fills_nothing v _ was refl refl refl))
      (ap (λ (f : Option SlotId). record (show_seat v) { filling = f }) (sym was) ∙ sym is))))
      (λ test. rw test (does.does_count (shows z c) _ n (show_seat v) is s _ on.1.1 reads
      (same_plain (shows z c) _ n _
      (still_quiet z c n _ so hn (strong_at z s) (calm v _ refl refl refl)) (sym is))))
