-- Each finish, take and mark keeps the invariant.
use Rattle.std.specs.Prelude.{Some}
use Rattle.std.proofs.Common.{◌≡◌, ◌≢◌, ℕ, ◌+◌, ◌-◌, ◌<◌, ◌≤◌, List, [], ◌∷◌, ◌++◌, refl, ap, arith}
use Rattle.core_events.specs.plain_state.declared.slot.SlotId.{SlotId}
use Rattle.core_events.specs.declared.shape.Shape.{Shape}
use Rattle.core_events.specs.declared.view.CoreView.{CoreView}
use Rattle.core_events.specs.declared.view.Move.{Move}
use Rattle.core_events.specs.declared.view.Phase.TheVariants as phase
use Rattle.core_events.specs.Words.{strong_at}
use Rattle.core_events.specs.counter_word.Words.{ZERO, HELP}
use Rattle.core_events.specs.Views.{slot_of}
use Rattle.core_events.specs.Runs.{Core, view_at}
use Rattle.core_events.specs.Counts.{strong}
use Rattle.core_law.specs.Slots.{numbers}
use Rattle.core_law.specs.Sound.{Sound}
use Rattle.core_law.proofs.Kit.{one_same, one_other, times_push}
use Rattle.core_law.proofs.Put.{put}
use Rattle.core_law.proofs.SlotSame.{slot_same}
use Rattle.core_law.proofs.InRange.{phase_there}
use Rattle.core_law.proofs.Phases.{in_finish, in_help, in_zero, at_idle, at_finish, at_help, at_zero}
use Rattle.core_law.proofs.SlotSteps as slot
use Rattle.core_law.proofs.Live.{live_most, is_asked}
use Rattle.core_law.proofs.OneWord.{having, strong_step}

module _ (z : Shape) (c : Core) (n : ℕ) (so : Sound z c) (hn : n < z.seats) where
  abbrev v : CoreView
  v = view_at c n

  -- the slot of the seat's phase is there
  there : (s : SlotId) → slot_of v.phase ≡ Some s → s.0 < z.slots
  there s at = phase_there z n v (so.seats n hn) s at

  -- a finish that finds 0
  pub finish_ended : (s : SlotId) (t : List Move) → v.phase ≡ phase.Finish s → strong z c s ≡ 0
      → Sound z (put c n (record v { dying = v.dying ++ s ∷ []; phase = phase.Idle; trail = t })
      (strong_at z s) ZERO)
  finish_ended s t at is_zero =
      let o = one_same s s refl in
      let p = in_finish v.phase s s at in
      let e = times_push s s v.dying in
      let hs = there s (ap slot_of at) in
      let m = live_most (strong z c s) in
      strong_step z c n so hn s
      (record (having v) { dying = v.dying ++ s ∷ []; phase = phase.Idle; trail = t })
      ZERO hs (omega arith)
      (grind (arith, at_idle, at_finish, times_push, one_other)) (λ _. omega arith) (omega arith)
      (λ sums wrote. slot.finish_ended _ _ (numbers z c s) _ (so.slots s hs) sums.fit
      (omega arith) is_zero (omega arith))

  -- a finish that finds the help flag
  pub finish_help : (s : SlotId) (t : List Move) → v.phase ≡ phase.Finish s → ZERO + HELP ≤ strong z c s
      → Sound z (put c n (record v { phase = phase.Help s; trail = t })
      (strong_at z s) (strong z c s))
  finish_help s t at help =
      let o = one_same s s refl in
      let p = in_finish v.phase s s at in
      let hs = there s (ap slot_of at) in
      strong_step z c n so hn s (record (having v) { phase = phase.Help s; trail = t })
      (strong z c s) hs (so.fit.fit (strong_at z s))
      (grind (arith, at_finish, at_help, times_push, one_other)) (λ _. omega arith) (omega arith)
      (λ sums wrote. slot.finish_help _ _ (numbers z c s) _ (so.slots s hs) sums.fit
      (omega arith) help (omega arith))

  -- a finish that finds neither
  pub finish_lost : (s : SlotId) (t : List Move) → v.phase ≡ phase.Finish s
      → strong z c s ≢ 0 → strong z c s < ZERO + HELP
      → Sound z (put c n (record v { phase = phase.Idle; trail = t })
      (strong_at z s) (strong z c s))
  finish_lost s t at not_zero no_help =
      let o = one_same s s refl in
      let p = in_finish v.phase s s at in
      let hs = there s (ap slot_of at) in
      strong_step z c n so hn s (record (having v) { phase = phase.Idle; trail = t })
      (strong z c s) hs (so.fit.fit (strong_at z s))
      (grind (arith, at_idle, at_finish, times_push, one_other)) (λ _. omega arith) (omega arith)
      (λ sums wrote. slot.finish_lost _ _ (numbers z c s) _ (so.slots s hs) sums.fit
      (omega arith) not_zero no_help (omega arith))

  -- a take that finds the help flag
  pub take_ended : (s : SlotId) (t : List Move) → v.phase ≡ phase.Help s → ZERO + HELP ≤ strong z c s
      → Sound z (put c n (record v { dying = v.dying ++ s ∷ []; phase = phase.Idle; trail = t })
      (strong_at z s) (strong z c s - HELP))
  take_ended s t at help =
      let o = one_same s s refl in
      let p = in_help v.phase s s at in
      let e = times_push s s v.dying in
      let hs = there s (ap slot_of at) in
      let m = live_most (strong z c s) in
      let fits = so.fit.fit (strong_at z s) in
      strong_step z c n so hn s
      (record (having v) { dying = v.dying ++ s ∷ []; phase = phase.Idle; trail = t })
      (strong z c s - HELP) hs (omega arith)
      (grind (arith, at_idle, at_help, times_push, one_other)) (λ _. omega arith) (omega arith)
      (λ sums wrote. slot.take_ended _ _ (numbers z c s) _ (so.slots s hs) sums.fit
      (omega arith) help (omega arith))

  -- a take that finds no help flag
  pub take_none : (s : SlotId) (t : List Move) → v.phase ≡ phase.Help s → strong z c s < ZERO + HELP
      → Sound z (put c n (record v { phase = phase.Idle; trail = t })
      (strong_at z s) (strong z c s))
  take_none s t at no_help =
      let o = one_same s s refl in
      let p = in_help v.phase s s at in
      let hs = there s (ap slot_of at) in
      strong_step z c n so hn s (record (having v) { phase = phase.Idle; trail = t })
      (strong z c s) hs (so.fit.fit (strong_at z s))
      (grind (arith, at_idle, at_help, times_push, one_other)) (λ _. omega arith) (omega arith)
      (λ sums wrote. slot.take_none _ _ (numbers z c s) _ (so.slots s hs) sums.fit
      (omega arith) no_help (omega arith))

  -- a mark that finds 0
  pub mark_zero : (s : SlotId) (t : List Move) → v.phase ≡ phase.Zero s → strong z c s ≡ 0
      → Sound z (put c n (record v { phase = phase.Idle; trail = t })
      (strong_at z s) (ZERO + HELP))
  mark_zero s t at is_zero =
      let o = one_same s s refl in
      let p = in_zero v.phase s s at in
      let hs = there s (ap slot_of at) in
      let m = live_most (strong z c s) in
      let l = is_asked (ZERO + HELP) (omega arith) (omega arith) in
      strong_step z c n so hn s (record (having v) { phase = phase.Idle; trail = t })
      (ZERO + HELP) hs (omega arith)
      (grind (arith, at_idle, at_zero, one_other)) (λ _. omega arith) (omega arith)
      (λ sums wrote. slot.mark_zero _ _ (numbers z c s) _ (so.slots s hs) sums.fit
      (omega arith) is_zero (omega arith))

  -- a mark that finds another word
  pub mark_other : (s : SlotId) (t : List Move) → v.phase ≡ phase.Zero s
      → Sound z (put c n (record v { phase = phase.Idle; trail = t })
      (strong_at z s) (strong z c s))
  mark_other s t at =
      let o = one_same s s refl in
      let p = in_zero v.phase s s at in
      let hs = there s (ap slot_of at) in
      strong_step z c n so hn s (record (having v) { phase = phase.Idle; trail = t })
      (strong z c s) hs (so.fit.fit (strong_at z s))
      (grind (arith, at_idle, at_zero, one_other)) (λ _. omega arith) (omega arith)
      (λ sums wrote. slot_same _ _ (numbers z c s) _ (so.slots s hs) (omega arith) (omega arith))
