-- A slot that isn't free was claimed, and so was one that a trail shows taken.
use Rattle.std.proofs.Common.{◌≡◌, ◌≢◌, ◌⊎◌, inl, inr, ⊎_elim, ℕ, ◌<◌, ◌≤◌, Bool, true, false, List, [], ◌∷◌, ◌++◌, refl, ap, sym, ◌∙◌, subst, arith}
use Rattle.std.specs.Prelude.{◌==◌, if◌then◌else◌, slice_index}
use Rattle.std.proofs.lemmas.Bool.{cases_eq}
use Rattle.std.proofs.lemmas.Bool.Decides.{nat_tests}
use Rattle.core_law.proofs.Kit.{times_append, times_cons, times_none}
use Rattle.core_law.specs.core_events.declared.shape.Quota.{Quota}
use Rattle.core_law.specs.core_events.Views.{alone}
use Rattle.core_law.specs.plain_state.declared.slot.SlotId.{SlotId}
use Rattle.core_law.specs.plain_state.Lists.{times}
use Rattle.core_promises.specs.Destroyed.{standing}
use Rattle.epoch_core.proofs.Destroys.{destroyed_once}
use Rattle.epoch_core.proofs.Keeps.{history_sound}
use Rattle.epoch_core.proofs.Starts.{first_at}
use Rattle.epoch_core.specs.declared.act.EpochAct.{EpochAct}
use Rattle.epoch_core.specs.declared.act.EpochAct.TheVariants as act
use Rattle.epoch_core.specs.declared.act.EpochEvent.{EpochEvent}
use Rattle.epoch_core.specs.declared.outcome.EpochOutcome.TheVariants as outcome
use Rattle.epoch_core.specs.declared.shape.EpochShape.{EpochShape}
use Rattle.epoch_core.specs.declared.view.EpochMove.{EpochMove}
use Rattle.epoch_core.specs.declared.view.EpochPhase.{EpochPhase}
use Rattle.epoch_core.specs.declared.view.EpochPhase.TheVariants as phase
use Rattle.epoch_core.specs.declared.view.EpochView.{EpochView}
use Rattle.epoch_core.specs.Counts.{count, dying_times, fillers, filling}
use Rattle.epoch_core.specs.Good.{stage, stage_of}
use Rattle.epoch_core.specs.Runs.{AreQuotas, Core, Enabled, History, IsShape, after, found, view_at}
use Rattle.epoch_core.specs.Shows.{filled}
use Rattle.epoch_core.specs.Sound.{Sound}
use Rattle.epoch_core.specs.Steps.{answer, moved}
use Rattle.epoch_core.specs.Words.{count_at, free_word}
use Rattle.epoch_rule.proofs.Views.{gone_after, is_leave, other_after, rest_after, root_after, view_after}
use Rattle.epoch_claims.specs.Claims.{ShownBy, ShowsTaken, claimed, claims}
use Rattle.epoch_claims.proofs.Claiming.{claims_stay}
use Rattle.epoch_claims.proofs.Counting.{total_most}
use Rattle.epoch_claims.proofs.Going.{grows}

-- THE STATE
-- what a seat fills, and what it made, it has claimed
phase_claimed : (s : SlotId) (p : EpochPhase) → filling s p ≤ times s (alone (filled p))
phase_claimed s phase.Idle = omega arith
phase_claimed s (phase.Entering e) = omega arith
phase_claimed s (phase.Undated x) = omega arith
phase_claimed s (phase.Blank x) =
    let one' = times_cons s x [] in let none = times_none s in omega arith
phase_claimed s (phase.Scan w) = omega arith

both_claimed : (s : SlotId) (v : EpochView)
    → (times s v.made ≤ times s (claimed v)) × (filling s v.phase ≤ times s (claimed v))
both_claimed s v =
    let p = times_append s v.made (alone (filled v.phase)) in
    let f = phase_claimed s v.phase in (omega arith, omega arith)

-- a slot whose count word isn't that of a free one is being filled, or an object stands in it
stands : (w f d : ℕ) → w ≢ free_word → (0 < f) ⊎ (standing (stage_of w f d) ≡ 1)
unfolding stage_of
stands w f d taken = ⊎_elim
    (λ (none : f ≡ 0). inr (grind (arith, nat_tests)))
    (λ (some' : f ≢ 0). inl (omega arith))
    (cases_eq f 0)

module _ (z : EpochShape) (qs : List Quota) (shape : IsShape z) (quotas : AreQuotas z qs)
    (es : List EpochEvent) (c : Core) (h : History z qs es c) where
  pub taken_claimed : (s : SlotId) → s.0 < z.slots → count z c s ≢ free_word → 0 < claims c s
  taken_claimed s hs taken = ⊎_elim
      (λ (some' : 0 < fillers c s).
      let most = total_most (λ v. filling s v.phase) (λ v. times s (claimed v)) c.views
      (λ m hm. (both_claimed s (view_at c m)).1) in omega arith)
      (λ (stays : standing (stage z c s) ≡ 1).
      let once = destroyed_once z s hs qs es c shape quotas h in
      let most = total_most (λ v. times s v.made) (λ v. times s (claimed v)) c.views
      (λ m hm. (both_claimed s (view_at c m)).0) in omega arith)
      (stands (count z c s) (fillers c s) (dying_times c s) taken)

-- THE TRAILS
shows_either : (s : SlotId) (ms ns : List EpochMove) → ShowsTaken s (ms ++ ns)
    → ShowsTaken s ms ⊎ ShowsTaken s ns
shows_either s [] ns shown = inr shown
shows_either s (m ∷ ms) ns shown = ⊎_elim
    (λ now. inl (inl now))
    (λ later. ⊎_elim (λ first. inl (inr first)) (λ second. inr second) (shows_either s ms ns later))
    shown

-- a slot that a claim shows taken is so in the state in which it is made
shown_taken : (z : EpochShape) (c : Core) (n : ℕ) (s : SlotId) (a : EpochAct)
    → ShownBy s a (answer a (found z c n a) (view_at c n)) → count z c s ≢ free_word
shown_taken z c n s (act.Claim x) shown =
    go (slice_index c.words (count_at z x) == free_word) refl shown
  where
    go : (b : Bool) → (slice_index c.words (count_at z x) == free_word) ≡ b
        → ShownBy s (act.Claim x)
        (if b then outcome.Claimed else outcome.Taken (slice_index c.words (count_at z x)))
        → count z c s ≢ free_word
    go true is is_x free = absurd is_x
    go false is is_x free =
        let same : count z c x ≡ count z c s = ap (λ (y : SlotId). count z c y) is_x in
        grind (arith, nat_tests)
shown_taken z c n s a shown = absurd shown

-- what is so between any two events
abbrev pub AllClaimed : EpochShape → Core → Type 0
AllClaimed z c =
    (n : ℕ) (s : SlotId) → n < z.seats → s.0 < z.slots → ShowsTaken s (view_at c n).trail
    → 0 < claims c s

module _ (z : EpochShape) (qs : List Quota) (shape : IsShape z) (quotas : AreQuotas z qs) where
  module _ (es : List EpochEvent) (c : Core) (h : History z qs es c) (so : Sound z c)
      (all : AllClaimed z c) (n : ℕ) (a : EpochAct) (on : Enabled z c n a) where
    abbrev Told : ℕ → EpochView → Type 0
    Told m v =
        m < z.seats → (s : SlotId) → s.0 < z.slots → ShowsTaken s v.trail
        → 0 < claims (after z c n a) s

    told_still : (m : ℕ) → Told m (view_at c m)
    told_still m hm s hs shown =
        let before = all m s hm hs shown in
        let more = claims_stay z c so n a on s in omega arith

    abbrev this : EpochMove
    this = record { act = a; outcome = answer a (found z c n a) (view_at c n) }

    -- the seat of the event has one move more
    told_more : Told n (moved z a (found z c n a) (view_at c n))
    told_more hm s hs shown = ⊎_elim
        (told_still n hm s hs)
        (λ now.
        let before = taken_claimed z qs shape quotas es c h s hs
        (⊎_elim (shown_taken z c n s a) absurd now) in
        let more = claims_stay z c so n a on s in omega arith)
        (shows_either s (view_at c n).trail (this ∷ [])
        (subst (λ (ms : List EpochMove). ShowsTaken s (ms ++ this ∷ []))
        (grows z a (found z c n a) (view_at c n)).trail shown))

    plain_told : ((j : ℕ) → a ≡ act.Leave j → ⊥) → (m : ℕ) → Told m (view_at (after z c n a) m)
    plain_told stays m = ⊎_elim
        (λ (is : m ≡ n). subst (λ (k : ℕ). Told k (view_at (after z c n a) k)) (sym is)
        (subst (Told n) (sym (view_after z c n a on.0 stays)) told_more))
        (λ (ne : m ≢ n). subst (Told m) (sym (other_after z c n a on.0 stays m ne)) (told_still m))
        (cases_eq m n)

  -- a leave shows nothing, and takes the trail of who leaves away
  leave_told : (es : List EpochEvent) (c : Core) (h : History z qs es c) (so : Sound z c)
      → AllClaimed z c → (n j : ℕ) → Enabled z c n (act.Leave j)
      → AllClaimed z (after z c n (act.Leave j))
  leave_told es c h so all n j on m s hm hs shown =
      let views = so.views in
      let there = on.0 in
      let may = on.1 in
      let first = may.0 in
      let number = (so.seats n (omega arith)).number in
      let root : n ≡ 0 = omega arith in
      let still = told_still es c h so all n (act.Leave j) on in
      let at : ShowsTaken s (view_at (after z c 0 (act.Leave j)) m).trail =
      subst (λ (k : ℕ). ShowsTaken s (view_at (after z c k (act.Leave j)) m).trail) root shown in
      ⊎_elim
      (λ (is_root : m ≡ 0). ⊎_elim
      (still 0 (omega arith) s hs)
      (λ now. absurd (⊎_elim (λ none. none) (λ none. none) now))
      (shows_either s (view_at c 0).trail _
      (subst (λ (v : EpochView). ShowsTaken s v.trail)
      (ap (view_at (after z c 0 (act.Leave j))) is_root ∙ root_after z c so j may.1 may.2) at)))
      (λ (not_root : m ≢ 0). ⊎_elim
      (λ (leaves : m ≡ j). absurd (subst (λ (v : EpochView). ShowsTaken s v.trail)
      (ap (view_at (after z c 0 (act.Leave j))) leaves ∙ gone_after z c so j may.1 may.2) at))
      (λ (other : m ≢ j). still m hm s hs (subst (λ (v : EpochView). ShowsTaken s v.trail)
      (rest_after z c so j may.1 may.2 m not_root other) at))
      (cases_eq m j))
      (cases_eq m 0)

  step : (es : List EpochEvent) (c : Core) → History z qs es c → Sound z c → AllClaimed z c
      → (n : ℕ) (a : EpochAct) → Enabled z c n a → AllClaimed z (after z c n a)
  step es c h so all n a on m s hm hs = ⊎_elim
      (λ (l : (j : ℕ) × (a ≡ act.Leave j)).
      subst (λ (b : EpochAct). ShowsTaken s (view_at (after z c n b) m).trail
      → 0 < claims (after z c n b) s) (sym l.1)
      (leave_told es c h so all n l.0 (subst (λ (b : EpochAct). Enabled z c n b) l.1 on) m s hm hs))
      (λ (stays : (j : ℕ) → a ≡ act.Leave j → ⊥).
      plain_told es c h so all n a on stays m hm s hs)
      (is_leave a)

  pub all_claimed : (es : List EpochEvent) (c : Core) → History z qs es c → AllClaimed z c
  all_claimed [] c h =
      let size = quotas.0 in λ n s hn hs shown.
      absurd (subst (ShowsTaken s)
      (ap (λ (d : Core). (view_at d n).trail) h
      ∙ ap (λ (v : EpochView). v.trail)
      (first_at z 0 n qs (record { makes = 0; adds = 0 }) (omega arith))) shown)
  all_claimed (e ∷ es) c h =
      subst (AllClaimed z) (sym h.2.1)
      (step es h.0 h.1 (history_sound z qs es h.0 shape quotas h.1) (all_claimed es h.0 h.1) e.seat
      e.act h.2.0)
