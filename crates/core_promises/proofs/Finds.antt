-- What an event finds in its counter word, and what its answer tells, by the law of the slot.
use Rattle.std.proofs.Common.{◌≡◌, ◌≢◌, ℕ, ◌+◌, ◌<◌, ◌≤◌, ◌^◌, Bool, true, false, List, [], ◌∷◌, length, refl, ap, sym, ◌∙◌, subst, arith}
use Rattle.std.specs.Prelude.{slice_index, nat_lt, ◌==◌, if◌then◌else◌}
use Rattle.std.proofs.lemmas.Bool.Decides.{nat_tests}
use Rattle.core_law.specs.plain_state.declared.slot.Kind.{Kind}
use Rattle.core_law.specs.plain_state.declared.slot.Kind.TheVariants.{Strong, Weak, Disposal}
use Rattle.core_law.specs.plain_state.declared.slot.SlotId.{SlotId}
use Rattle.core_law.specs.plain_state.Lists.{Entry, times, entry_times}
use Rattle.core_law.specs.core_events.declared.act.Act.{Act}
use Rattle.core_law.specs.core_events.declared.act.Act.TheVariants as act
use Rattle.core_law.specs.core_events.declared.outcome.Outcome.TheVariants as outcome
use Rattle.core_law.specs.core_events.declared.shape.Shape.{Shape}
use Rattle.core_law.specs.core_events.declared.view.CoreView.{CoreView}
use Rattle.core_law.specs.core_events.declared.view.Phase.{Phase}
use Rattle.core_law.specs.core_events.declared.view.Phase.TheVariants as phase
use Rattle.core_law.specs.core_events.Counts.{adds_used, in_phase, listed, naming, refs, strong, weak}
use Rattle.core_law.specs.core_events.Good.{SeatLaw}
use Rattle.core_law.specs.core_events.Runs.{Core, Enabled, found, view_at}
use Rattle.core_law.specs.core_events.Steps.{answer, owed_at}
use Rattle.core_law.specs.core_events.Views.{Holds, slot_noted, slot_of}
use Rattle.core_law.specs.counter_word.Words.{ZERO, HELP, has_help, low, value}
use Rattle.core_law.specs.Slots.{Numbers, SlotLaw, numbers, free, bare, blank, counted, asked, over, husk}
use Rattle.core_law.specs.Sound.{Sound}
use Rattle.core_law.proofs.Flags.{flags}
use Rattle.core_law.proofs.Held.{held_named}
use Rattle.core_law.proofs.Kit.{one_same, total_at}
use Rattle.core_law.proofs.Put.{adds_fit}
use Rattle.core_law.proofs.Below.plain_state_Kit.{entry_cons, entry_self}
use Rattle.core_law.proofs.Parts.{sound_good, value_is}
use Rattle.core_law.proofs.Steady.{named_in_range}
use Rattle.core_promises.specs.Finds.{NeverWraps, TellsTruly}

-- where references are counted, the strong word is their count, and where weak ones are or the slot is
-- dying, the weak word isn't 0
strong_counts : (a : ℕ) (m : Numbers) → SlotLaw a m → a < 2 ^ 60 → 0 < m.strong_refs
    → (0 < m.strong) × (m.strong < ZERO)
strong_counts a m (free h) fit some = let e = h.dead.unowned in absurd (omega arith)
strong_counts a m (bare h) fit some = let e = h.dead.unowned in absurd (omega arith)
strong_counts a m (blank h) fit some = let e = h.dead.unowned in absurd (omega arith)
strong_counts a m (counted h) fit some =
    let e = h.count in let f = h.few in (omega arith, omega arith)
strong_counts a m (asked h) fit some = let e = h.unowned in absurd (omega arith)
strong_counts a m (over h) fit some = let e = h.dead.unowned in absurd (omega arith)
strong_counts a m (husk h) fit some = let e = h.dead.unowned in absurd (omega arith)

weak_counts : (a : ℕ) (m : Numbers) → SlotLaw a m → 0 < m.weak_refs + m.dying → 0 < m.weak
weak_counts a m (free h) some =
    let e = h.empty.weak_refs in let f = h.empty.dying in absurd (omega arith)
weak_counts a m (bare h) some =
    let e = h.empty.weak_refs in let f = h.empty.dying in absurd (omega arith)
weak_counts a m (blank h) some =
    let e = h.empty.weak_refs in let f = h.empty.dying in absurd (omega arith)
weak_counts a m (counted h) some = let e = h.own.count in omega arith
weak_counts a m (asked h) some = let e = h.own.count in omega arith
weak_counts a m (over h) some = let e = h.own.count in omega arith
weak_counts a m (husk h) some = let e = h.count in let f = h.dying in omega arith

weak_few : (a : ℕ) (m : Numbers) → SlotLaw a m → m.weak ≤ a + 1
weak_few a m (free h) = let e = h.weak in omega arith
weak_few a m (bare h) = let e = h.weak in omega arith
weak_few a m (blank h) = let e = h.weak in omega arith
weak_few a m (counted h) = let e = h.own.few in omega arith
weak_few a m (asked h) = let e = h.own.few in omega arith
weak_few a m (over h) = let e = h.own.few in omega arith
weak_few a m (husk h) = let e = h.few in omega arith

module _ (z : Shape) (c : Core) (n : ℕ) (so : Sound z c) where
  abbrev v : CoreView
  v = view_at c n

  module _ (hn : n < length c.views) where
    law : SeatLaw z n (view_at c n)
    law = let e = so.views in so.seats n (omega arith)

    there : (s : SlotId) → 0 < naming s (view_at c n) → s.0 < z.slots
    there s named = named_in_range z n (view_at c n) s law named

    slot : (s : SlotId) → 0 < naming s (view_at c n) → SlotLaw (adds_used c) (numbers z c s)
    slot s named = so.slots s (there s named)

    fit : adds_used c < 2 ^ 60
    fit = adds_fit z c so

    value_here : (s : SlotId) → 0 < naming s (view_at c n)
        → value (strong z c s) ≡ refs Strong z c s
    value_here s named = value_is (adds_used c) (numbers z c s) (slot s named) fit

    -- a reference of the seat's is counted
    strong_found : (s : SlotId) → 0 < listed Strong s (view_at c n)
        → (0 < strong z c s) × (strong z c s < ZERO)
    strong_found s some =
        let t = total_at (listed Strong s) c.views n hn in
        strong_counts (adds_used c) (numbers z c s) (slot s (omega arith)) fit (omega arith)

    weak_found : (s : SlotId) → 0 < listed Weak s (view_at c n) + times s (view_at c n).dying
        → 0 < weak z c s
    weak_found s some =
        let t = total_at (listed Weak s) c.views n hn in
        let d = total_at (λ (u : CoreView). times s u.dying) c.views n hn in
        weak_counts (adds_used c) (numbers z c s) (slot s (omega arith)) (omega arith)

    -- what is owed first is counted
    owed_found : (k : Kind) (s : SlotId) (es : List Entry) → v.owed ≡ (k, s) ∷ es
        → 0 < slice_index c.words (owed_at z ((k, s) ∷ es))
    owed_found k s es is = go k (subst (λ (o : List Entry). 0 < entry_times k s o) (sym is) first)
      where
        first : 0 < entry_times k s ((k, s) ∷ es)
        first =
            let e = entry_cons k s (k, s) es in
            let o = entry_self k s in omega arith

        go : (l : Kind) → 0 < entry_times l s (view_at c n).owed
            → 0 < slice_index c.words (owed_at z ((l, s) ∷ es))
        go Strong some = (strong_found s (omega arith)).0
        go Weak some = weak_found s (omega arith)
        go Disposal some = let k = law.kinds s in absurd (omega arith)

    pays : (es : List Entry) → v.owed ≡ es → es ≢ []
        → 0 < slice_index c.words (owed_at z es)
    pays [] is some = absurd (some refl)
    pays ((k, s) ∷ es) is some = owed_found k s es is

    holds_named : (s : SlotId) → Holds (view_at c n) s → 0 < naming s (view_at c n)
    holds_named s held = held_named s (view_at c n) held

    adds_low : (s : SlotId) → s.0 < z.slots → low (strong z c s) + 1 < HELP
    adds_low s hs =
        let b = ((sound_good z c so).bounds s hs).strong_most in
        let f = fit in omega arith

  pub never_wraps : (a : Act) → Enabled z c n a → NeverWraps z c n a
  never_wraps (act.Add s) on = adds_low on.0 s (there on.0 s (holds_named on.0 s on.1.2))
  never_wraps (act.Drop s) on =
      let some = on.1.1 in strong_found on.0 s (omega arith)
  never_wraps act.Pay on = pays on.0 v.owed refl on.1.1
  never_wraps act.Finish on = tt
  never_wraps act.Take on = tt
  never_wraps (act.Count s) on = tt
  never_wraps act.Mark on = tt
  never_wraps (act.Announce j k s) on = tt
  never_wraps (act.Release j) on = tt
  never_wraps (act.Look p) on = tt
  never_wraps (act.Check j p) on = tt
  never_wraps (act.Alive j) on = tt
  never_wraps act.Scan on = tt
  never_wraps (act.Swap p new) on = tt
  never_wraps (act.Cas p old new) on = tt
  never_wraps (act.Claim s) on = tt
  never_wraps act.Arm on = tt
  never_wraps (act.Fill i x) on = tt
  never_wraps act.Start on = tt
  never_wraps (act.See s i) on = tt
  never_wraps act.Free on = tt
  never_wraps act.Ticket on =
      let t = so.tickets.few in
      let f = fit on.0 in omega arith
  never_wraps (act.Wadd s) on =
      let f = fit on.0 in
      let w = weak_few (adds_used c) (numbers z c s)
      (slot on.0 s (holds_named on.0 s on.1.2)) in omega arith
  never_wraps (act.Wdrop s) on =
      let some = on.1.1 in weak_found on.0 s (omega arith)
  never_wraps (act.Destroy s) on =
      let some = on.1.1 in
      let r = (law on.0).ripe s in weak_found on.0 s (omega arith)
  never_wraps (act.Wcount s) on = tt
  never_wraps (act.Leave j) on = tt

  -- a word with the zero flag counts nothing
  no_value : (w r : ℕ) → value w ≡ r → ZERO ≤ w → r ≡ 0
  no_value w r is zero =
      let none : nat_lt w ZERO ≡ false = grind (arith, nat_tests) in
      sym is ∙ ap (λ (b : Bool). if b then w else 0) none

  phase_named : (s : SlotId) (p : Phase) → in_phase s p ≡ 1 → p ≡ v.phase
      → 0 < naming s (view_at c n)
  phase_named s p one' is =
      let e : in_phase s (view_at c n).phase ≡ in_phase s p = ap (in_phase s) (sym is) in omega arith

  add_dead : (s : SlotId) (w : ℕ) → value w ≡ refs Strong z c s
      → (if nat_lt w ZERO then outcome.Up else outcome.Dead) ≡ outcome.Dead → refs Strong z c s ≡ 0
  add_dead s w is = go (nat_lt w ZERO) refl
    where
      go : (b : Bool) → nat_lt w ZERO ≡ b
          → (if b then outcome.Up else outcome.Dead) ≡ outcome.Dead → refs Strong z c s ≡ 0
      go true lt e = absurd (cc (e))
      go false lt e = sym is ∙ ap (λ (b : Bool). if b then w else 0) lt

  finish_ended : (s : SlotId) (w : ℕ) → value w ≡ refs Strong z c s
      → (if w == 0 then outcome.Ended else if has_help w then outcome.Help else outcome.Lost)
      ≡ outcome.Ended → refs Strong z c s ≡ 0
  finish_ended s w is = go (w == 0) (has_help w) refl
    where
      go : (b h : Bool) → (w == 0) ≡ b
          → (if b then outcome.Ended else if h then outcome.Help else outcome.Lost) ≡ outcome.Ended
          → refs Strong z c s ≡ 0
      go true h zero e =
          let none : w ≡ 0 = grind (arith, nat_tests) in sym is ∙ ap value none
      go false true zero e = absurd (cc (e))
      go false false zero e = absurd (cc (e))

  take_ended : (s : SlotId) (w : ℕ) → value w ≡ refs Strong z c s
      → (has_help w ≡ true → ZERO + HELP ≤ w)
      → (if has_help w then outcome.Ended else outcome.NoHelp) ≡ outcome.Ended
      → refs Strong z c s ≡ 0
  take_ended s w is flag = go (has_help w) refl
    where
      go : (b : Bool) → has_help w ≡ b
          → (if b then outcome.Ended else outcome.NoHelp) ≡ outcome.Ended → refs Strong z c s ≡ 0
      go true helped e =
          let h = flag helped in no_value w (refs Strong z c s) is (omega arith)
      go false helped e = absurd (cc (e))

  alive_counts : (s : SlotId) (w : ℕ) → value w ≡ refs Strong z c s
      → (if nat_lt 0 (value w) then outcome.Alive else outcome.Zeroed) ≡ outcome.Alive
      → 0 < refs Strong z c s
  alive_counts s w is = go (nat_lt 0 (value w)) refl
    where
      go : (b : Bool) → nat_lt 0 (value w) ≡ b
          → (if b then outcome.Alive else outcome.Zeroed) ≡ outcome.Alive → 0 < refs Strong z c s
      go true lt e = let h : 0 < value w = grind (arith, nat_tests) in omega arith
      go false lt e = absurd (cc (e))

  pub tells_truly : (a : Act) → Enabled z c n a
      → TellsTruly z c n a (answer z a (found z c n a) (view_at c n))
  tells_truly (act.Add s) on =
      add_dead s _ (value_here on.0 s (holds_named on.0 s on.1.2))
  tells_truly (act.Drop s) on = tt
  tells_truly act.Pay on = tt
  tells_truly act.Finish on =
      let named = phase_named on.1.0 (phase.Finish on.1.0) (one_same _ _ refl) (sym on.1.1) in
      let truly = finish_ended on.1.0 (strong z c on.1.0) (value_here on.0 on.1.0 named) in
      rw (ap slot_of on.1.1)
      (λ e s is. subst (λ (x : SlotId). refs Strong z c x ≡ 0) (cc (on.1.1, is)) (truly e))
  tells_truly act.Take on =
      let named = phase_named on.1.0 (phase.Help on.1.0) (one_same _ _ refl) (sym on.1.1) in
      let truly = take_ended on.1.0 (strong z c on.1.0) (value_here on.0 on.1.0 named)
      (flags (adds_used c) (numbers z c on.1.0) (slot on.0 on.1.0 named) (fit on.0)).help in
      rw (ap slot_of on.1.1)
      (λ e s is. subst (λ (x : SlotId). refs Strong z c x ≡ 0) (cc (on.1.1, is)) (truly e))
  tells_truly (act.Count s) on = tt
  tells_truly act.Mark on = tt
  tells_truly (act.Announce j k s) on = tt
  tells_truly (act.Release j) on = tt
  tells_truly (act.Look p) on = tt
  tells_truly (act.Check j p) on = tt
  tells_truly (act.Alive j) on =
      let held = holds_named on.0 on.1.2.0 on.1.2.2 in
      let truly = alive_counts on.1.2.0 (strong z c on.1.2.0) (value_here on.0 on.1.2.0 held) in
      rw (ap slot_noted on.1.2.1)
      (λ e s is. subst (λ (x : SlotId). 0 < refs Strong z c x) (cc (on.1.2.1, is)) (truly e))
  tells_truly act.Scan on = tt
  tells_truly (act.Swap p new) on = tt
  tells_truly (act.Cas p old new) on = tt
  tells_truly (act.Claim s) on = tt
  tells_truly act.Arm on = tt
  tells_truly (act.Fill i x) on = tt
  tells_truly act.Start on = tt
  tells_truly (act.See s i) on = tt
  tells_truly act.Free on = tt
  tells_truly act.Ticket on = tt
  tells_truly (act.Wadd s) on = tt
  tells_truly (act.Wdrop s) on = tt
  tells_truly (act.Destroy s) on = tt
  tells_truly (act.Wcount s) on = tt
  tells_truly (act.Leave j) on = tt
