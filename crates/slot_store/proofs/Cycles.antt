-- Where nothing but fields refers to an object, another object that lives does.
use Rattle.std.proofs.Common.{◌≡◌, ◌≢◌, ◌⊎◌, inl, inr, ⊎_elim, ℕ, zero, suc, ◌+◌, ◌-◌, ◌<◌, ◌≤◌, Bool, true, false, [], length, refl, ap, sym, ◌∙◌, arith}
use Rattle.std.specs.Prelude.{◌==◌, nat_lt, Some, slice_index, if◌then◌else◌}
use Rattle.std.proofs.lemmas.Bool.{cases_eq, cases_lt}
use Rattle.std.proofs.lemmas.Bool.Decides.{nat_tests}
use Rattle.protocol_pairs.specs.plain_state.declared.slot.Kind.TheVariants.{Strong}
use Rattle.protocol_pairs.specs.plain_state.declared.slot.PlainSlot.{PlainSlot}
use Rattle.protocol_pairs.specs.plain_state.declared.slot.SlotId.{SlotId}
use Rattle.protocol_pairs.specs.plain_state.declared.slot.Stage.{Stage}
use Rattle.protocol_pairs.specs.plain_state.declared.slot.Stage.TheVariants.{Free, Blank, Live, Ended, Husk}
use Rattle.protocol_pairs.specs.plain_state.Lists.{entry_times, times}
use Rattle.protocol_pairs.specs.plain_state.State.{stage_at}
use Rattle.claim_law.specs.core_events.declared.shape.Shape.{Shape}
use Rattle.claim_law.specs.core_events.declared.view.CoreView.{CoreView}
use Rattle.claim_law.specs.core_events.declared.view.Phase.TheVariants as phase
use Rattle.claim_law.specs.core_events.Counts.{Signs, fields_holding, finishers, finishing, helpers, helping, in_word, is_live_word, listed, places, dying_times, signs, stage, stage_of, strong, sum_below, total}
use Rattle.claim_law.specs.core_events.Good.{SeatLaw}
use Rattle.claim_law.specs.core_events.Runs.{Core, HasNullFields, view_at}
use Rattle.claim_law.specs.core_events.Shows.{shows}
use Rattle.claim_law.specs.core_events.Words.{cell_at, field_at, slot_in}
use Rattle.deleter.specs.counter_word.Words.{has_help, value}
use Rattle.claim_law.specs.core_law.Sound.{Sound}
use Rattle.claim_law.proofs.Below.core_law_Kit.{below_none, entry_none, slot_eq, times_none}
use Rattle.claim_law.proofs.Below.core_law_Parts.{sound_good}
use Rattle.claim_law.proofs.Below.core_law_Bridge.{shown_past, shown_slot, shown_stage, total_zero}
use Rattle.slot_store.specs.Leftovers.{RefersTo}

below_find : (n : ℕ) (f : ℕ → ℕ) → 0 < sum_below n f → (i : ℕ) × (i < n) × (0 < f i)
unfolding sum_below
below_find zero f some = absurd (omega arith)
below_find (suc n) f some = ⊎_elim
    (λ (here : 0 < f n). (n, omega arith, here))
    (λ (none : f n ≤ 0).
    let r = below_find n f (omega arith) in let inside = r.1 in (r.0, omega arith, r.2))
    (cases_lt 0 (f n))

null_word : (s : SlotId) → in_word s 0 ≡ 0
unfolding in_word
null_word s = grind (arith, nat_tests)

word_some : (s : SlotId) (w : ℕ) → 0 < in_word s w → w ≡ s.0 + 1
unfolding in_word
word_some s w some = grind (arith, nat_tests)

slot_in_some : (s : SlotId) (w : ℕ) → w ≡ s.0 + 1 → slot_in w ≡ Some s
slot_in_some s w is =
    let some : (w == 0) ≡ false = grind (arith, nat_tests) in
    let at : w - 1 ≡ s.0 = omega arith in rw some (ap Some (slot_eq (record { 0 = w - 1 }) s at))

-- an object that lives by its stage lives by its word
live_word : (g : Signs) → stage_of g ≡ Live → is_live_word g.strong ≡ true
unfolding stage_of
live_word g is = go (g.bit == 1) (nat_lt 0 g.claimers) (nat_lt 0 g.dying) (is_live_word g.strong) is
  where
    go : (a b c d : Bool)
        → (if a then Free else if b then Blank else if c then Ended else if d then Live else Husk) ≡ Live
        → d ≡ true
    go true b c d e = absurd (cc (e))
    go false true c d e = absurd (cc (e))
    go false false true d e = absurd (cc (e))
    go false false false true e = refl
    go false false false false e = absurd (cc (e))

-- and one that has ended waits in a dying list
ended_dies : (g : Signs) → stage_of g ≡ Ended → 0 < g.dying
unfolding stage_of
ended_dies g is =
    let dies : nat_lt 0 g.dying ≡ true =
    go (g.bit == 1) (nat_lt 0 g.claimers) (nat_lt 0 g.dying) (is_live_word g.strong) is in
    grind (arith, nat_tests)
  where
    go : (a b c d : Bool)
        → (if a then Free else if b then Blank else if c then Ended else if d then Live else Husk) ≡ Ended
        → c ≡ true
    go true b c d e = absurd (cc (e))
    go false true c d e = absurd (cc (e))
    go false false true d e = refl
    go false false false true e = absurd (cc (e))
    go false false false false e = absurd (cc (e))

word_counts : (w : ℕ) → is_live_word w ≡ true → has_help w ≡ false → w ≢ 0 → 0 < value w
word_counts w live help some = grind (arith, nat_tests)

module _ (z : Shape) (c : Core) (so : Sound z c)
    (left : (n : ℕ) → 0 < n → n < length c.views → (view_at c n).left ≡ true)
    (idle : (view_at c 0).phase ≡ phase.Idle) where
  -- a number of which neither seat 0 has any nor a seat that has left
  nobody : (f : CoreView → ℕ) → f (view_at c 0) ≡ 0
      → ((n : ℕ) → SeatLaw z n (view_at c n) → (view_at c n).left ≡ true → f (view_at c n) ≡ 0)
      → total f c.views ≡ 0
  nobody f root gone = total_zero f c.views
      (λ n inside. ⊎_elim
      (λ (first : n ≡ 0). ap (λ (m : ℕ). f (view_at c m)) first ∙ root)
      (λ (other : n ≢ 0).
      let views = so.views in
      gone n (so.seats n (omega arith)) (left n (omega arith) inside))
      (cases_eq n 0))

  -- an object that lives is counted, where nobody is in a call
  pub live_counted : (s : SlotId) → s.0 < z.slots → stage z c s ≡ Live → 0 < value (strong z c s)
  live_counted s there live =
      let pending = (sound_good z c so).pending s there in
      let finish = none_finish in
      word_counts (strong z c s) (live_word (signs z c s) live)
      (helpless (has_help (strong z c s)) refl)
      (λ zero. let ends = pending.ends zero in absurd (omega arith))
    where
      none_finish : finishers c s ≡ 0
      none_finish = nobody (λ v. finishing s v.phase) (ap (finishing s) idle)
          (λ n law gone. ap (finishing s) (law.gone gone).0)

      none_help : helpers c s ≡ 0
      none_help = nobody (λ v. helping s v.phase) (ap (helping s) idle)
          (λ n law gone. ap (helping s) (law.gone gone).0)

      helpless : (b : Bool) → has_help (strong z c s) ≡ b → has_help (strong z c s) ≡ false
      helpless false is = is
      helpless true is =
          let helps = ((sound_good z c so).pending s there).helps is in
          let finish = none_finish in
          let help = none_help in absurd (omega arith)

module _ (z : Shape) (c : Core) (so : Sound z c)
    (left : (n : ℕ) → 0 < n → n < length c.views → (view_at c n).left ≡ true)
    (idle : (view_at c 0).phase ≡ phase.Idle) (owned : (view_at c 0).owned ≡ [])
    (retired : (view_at c 0).retired ≡ []) (owes_nothing : (view_at c 0).owed ≡ [])
    (dying : (view_at c 0).dying ≡ []) where
  module _ (s : SlotId) (there : s.0 < z.slots) where
    none_listed : (v : CoreView) → v.owned ≡ [] → v.retired ≡ [] → v.owed ≡ [] → listed Strong s v ≡ 0
    none_listed v first second third =
        let a = ap (times s) first in
        let b = ap (entry_times Strong s) second in
        let e = ap (entry_times Strong s) third in
        let none = times_none s in
        let empty = entry_none Strong s in omega arith

    none_owned : total (listed Strong s) c.views ≡ 0
    none_owned = nobody z c so left idle (listed Strong s)
        (none_listed (view_at c 0) owned retired owes_nothing)
        (λ n law gone.
        let g = law.gone gone in none_listed (view_at c n) g.1 g.3 g.4)

    none_dying : dying_times c s ≡ 0
    none_dying = nobody z c so left idle (λ v. times s v.dying) (ap (times s) dying ∙ times_none s)
        (λ n law gone. ap (times s) (law.gone gone).5 ∙ times_none s)

    -- a place refers to an object that lives
    live_placed : stage z c s ≡ Live → 0 < places Strong z c.words s
    live_placed live =
        let count = ((sound_good z c so).counts s there).strong_count in
        let some = live_counted z c so left idle s there live in
        let nobody_owns = none_owned in omega arith

  module _ (cells : (i : ℕ) → i < z.cells → slice_index c.words (cell_at z i) ≡ 0) where
    -- a field refers to it, of an object that lives
    pub live_referred : (s : SlotId) → stage_at (shows z c) s ≡ Live
        → (x : SlotId) × (stage_at (shows z c) x ≡ Live) × RefersTo (shows z c) s x
    live_referred s live =
        let hs = inside in
        let placed = live_placed s hs (sym (shown_stage z c s hs) ∙ live) in
        let none = below_none z.cells (λ i. in_word s (slice_index c.words (cell_at z i)))
        (λ i h. ap (in_word s) (cells i h) ∙ null_word s) in
        let r = below_find z.slots (fields_holding z c.words s) (omega arith) in
        let x : SlotId = record { 0 = r.0 } in
        let held = held_by x r.2 in
        let lives = holder x r.1 (stage z c x) refl held in
        (x, shown_stage z c x r.1 ∙ lives, shown_held x r.1 held)
      where
        inside : s.0 < z.slots
        inside = ⊎_elim
            (λ (below : s.0 < z.slots). below)
            (λ (past : z.slots ≤ s.0).
            absurd (cc (ap (λ (t : PlainSlot). t.stage) (shown_past z c s past), live)))
            (cases_lt s.0 z.slots)

        Held : SlotId → Type 0
        Held x =
            (slice_index c.words (field_at z x 0) ≡ s.0 + 1)
            ⊎ (slice_index c.words (field_at z x 1) ≡ s.0 + 1)

        held_by : (x : SlotId) → 0 < fields_holding z c.words s x.0 → Held x
        held_by x some = ⊎_elim
            (λ (one : 0 < in_word s (slice_index c.words (field_at z x 0))). inl (word_some s _ one))
            (λ (no : in_word s (slice_index c.words (field_at z x 0)) ≤ 0).
            inr (word_some s _ (omega arith)))
            (cases_lt 0 (in_word s (slice_index c.words (field_at z x 0))))

        shown_held : (x : SlotId) → x.0 < z.slots → Held x → RefersTo (shows z c) s x
        shown_held x h held = ⊎_elim
            (λ (first : slice_index c.words (field_at z x 0) ≡ s.0 + 1).
            inl (ap (λ (t : PlainSlot). t.first) (shown_slot z c x h) ∙ slot_in_some s _ first))
            (λ (second : slice_index c.words (field_at z x 1) ≡ s.0 + 1).
            inr (ap (λ (t : PlainSlot). t.second) (shown_slot z c x h) ∙ slot_in_some s _ second))
            held

        no_null : (x : SlotId) → HasNullFields z c.words x → Held x → ⊥
        no_null x null held = ⊎_elim
            (λ (first : slice_index c.words (field_at z x 0) ≡ s.0 + 1).
            let none = null.0 in absurd (omega arith))
            (λ (second : slice_index c.words (field_at z x 1) ≡ s.0 + 1).
            let none = null.1 in absurd (omega arith))
            held

        -- a slot with a field that isn't null has an object, which hasn't ended
        holder : (x : SlotId) → x.0 < z.slots → (g : Stage) → stage z c x ≡ g → Held x
            → stage z c x ≡ Live
        holder x h Live is held = is
        holder x h Ended is held =
            let dies = ended_dies (signs z c x) is in
            let none = none_dying x h in absurd (omega arith)
        holder x h Free is held =
            absurd (no_null x (((sound_good z c so).enders x h).nulls
            (λ e. cc (sym is ∙ e)) (λ e. cc (sym is ∙ e))) held)
        holder x h Blank is held =
            absurd (no_null x (((sound_good z c so).enders x h).nulls
            (λ e. cc (sym is ∙ e)) (λ e. cc (sym is ∙ e))) held)
        holder x h Husk is held =
            absurd (no_null x (((sound_good z c so).enders x h).nulls
            (λ e. cc (sym is ∙ e)) (λ e. cc (sym is ∙ e))) held)
