-- Each step that gains or gives up a weak reference keeps the invariant, and each destruction.
use Rattle.std.proofs.Common.{◌≡◌, ◌≢◌, ℕ, ◌+◌, ◌<◌, List, [], ◌∷◌, ◌++◌, refl, ap, arith}
use Rattle.core_events.specs.plain_state.declared.slot.Kind.TheVariants.{Strong, Weak}
use Rattle.core_events.specs.plain_state.declared.slot.SlotId.{SlotId}
use Rattle.core_events.specs.plain_state.Lists.{times}
use Rattle.core_events.specs.declared.shape.Shape.{Shape}
use Rattle.core_events.specs.declared.view.CoreView.{CoreView}
use Rattle.core_events.specs.declared.view.Move.{Move}
use Rattle.core_events.specs.declared.view.Phase.{Phase}
use Rattle.core_events.specs.declared.view.Phase.TheVariants as phase
use Rattle.core_events.specs.Words.{weak_at}
use Rattle.core_events.specs.Views.{Holds, without}
use Rattle.core_events.specs.Steps.{plus_one, minus_one, IsIdle, HasAdd}
use Rattle.core_events.specs.Runs.{Core, view_at, HasNullFields}
use Rattle.core_events.specs.Counts.{weak}
use Rattle.core_law.specs.Slots.{numbers}
use Rattle.core_law.specs.Sound.{Sound}
use Rattle.core_law.proofs.Kit.{one_same, one_other, times_push, times_without, total_at}
use Rattle.core_law.proofs.Held.{held_taken, held_named}
use Rattle.core_law.proofs.Put.{put, at_seat, ripe_times}
use Rattle.core_law.proofs.Steady.{named_in_range}
use Rattle.core_law.proofs.Phases.{in_idle, in_give, at_idle, at_give}
use Rattle.core_law.proofs.SlotSteps as slot
use Rattle.core_law.proofs.Live.{plus_fits, minus_fits}
use Rattle.core_law.proofs.OneWord.{Having, having, with_having, weak_step}
use Rattle.core_law.proofs.Counters.{GivesUp}

module _ (z : Shape) (c : Core) (n : ℕ) (so : Sound z c) (hn : n < z.seats) where
  abbrev v : CoreView
  v = view_at c n

  -- one more weak reference
  pub weak_add : (s : SlotId) (t : List Move)
      → IsIdle v → HasAdd v → Holds v s
      → Sound z (put c n (record v { weaks = v.weaks ++ s ∷ []; adds = v.adds + 1; trail = t })
      (weak_at z s) (plus_one (weak z c s)))
  weak_add s t idle quota held =
      let o = one_same s s refl in
      let p = in_idle v.phase s idle.0 in
      let e = times_push s s v.weaks in
      let hs : s.0 < z.slots = named_in_range z n v s (so.seats n hn) (held_named s v held) in
      let taken = held_taken z c n s so hn hs held in
      weak_step z c n so hn s
      (record (having v) { weaks = v.weaks ++ s ∷ []; adds = v.adds + 1; trail = t })
      (plus_one (weak z c s)) hs (plus_fits (weak z c s))
      (grind (arith, at_idle, times_push, one_other)) (λ _. omega arith)
      (λ sums wrote. slot.weak_add _ _ (numbers z c s) _ (so.slots s hs) sums.fit
      (omega arith) (omega arith) (omega arith))

  -- one of several weak references goes
  pub weak_left : (s : SlotId) (k : Having) → s.0 < z.slots → IsIdle v → k.phase ≡ phase.Idle
      → GivesUp Weak v s k → weak z c s ≢ 1
      → Sound z (put c n (with_having v k) (weak_at z s) (minus_one (weak z c s)))
  weak_left s k hs idle to g many =
      let p = in_idle v.phase s idle.0 in
      let q = in_idle k.phase s to in
      let kept = g.rest Strong (λ e. cc) in
      let dy = ap (times s) g.dying in
      weak_step z c n so hn s k (minus_one (weak z c s)) hs (minus_fits (weak z c s))
      (grind (arith, at_idle)) (λ _. omega arith)
      (λ sums wrote. slot.weak_left _ _ (numbers z c s) _ (so.slots s hs) sums.fit
      (omega arith) many (omega arith))

  -- the last one goes
  pub weak_last : (s : SlotId) (k : Having) → s.0 < z.slots → IsIdle v → k.phase ≡ phase.Give s
      → GivesUp Weak v s k → weak z c s ≡ 1
      → Sound z (put c n (with_having v k) (weak_at z s) (minus_one (weak z c s)))
  weak_last s k hs idle to g last =
      let o = one_same s s refl in
      let p = in_idle v.phase s idle.0 in
      let q = in_give k.phase s s to in
      let kept = g.rest Strong (λ e. cc) in
      let dy = ap (times s) g.dying in
      weak_step z c n so hn s k (minus_one (weak z c s)) hs (minus_fits (weak z c s))
      (grind (arith, at_idle, at_give)) (λ _. omega arith)
      (λ sums wrote. slot.weak_last _ _ (numbers z c s) _ (so.slots s hs) sums.fit
      (omega arith) last (omega arith))

  -- what a weak drop gives up
  pub weak_drops : (s : SlotId) (p : Phase) (t : List Move) → 0 < times s v.weaks
      → GivesUp Weak v s (record (having v) { weaks = without s v.weaks; phase = p; trail = t })
  weak_drops s p t own = grind (arith, times_without, one_other, one_same)

  -- what a seat has that destroyed s: it leaves the dying list and the ripe one
  abbrev destroyed : SlotId → Phase → List Move → Having
  destroyed s p t = record (having (view_at c n)) {
    dying = without s (view_at c n).dying;
    ripe = without s (view_at c n).ripe;
    phase = p;
    trail = t;
  }

  -- a ripe slot is under no weak snapshot
  ripe_here : (s : SlotId) → 0 < times s v.ripe → ripe_times c s ≡ 0 → ⊥
  ripe_here s is_ripe none =
      let t = total_at (λ (u : CoreView). times s u.ripe) c.views n (at_seat z c n so hn) in
      absurd (omega arith)

  -- a slot is destroyed that weak references name
  pub destroy_left : (s : SlotId) (t : List Move)
      → IsIdle v → 0 < times s v.ripe → HasNullFields z c.words s → weak z c s ≢ 1
      → Sound z (put c n (with_having v (destroyed s phase.Idle t)) (weak_at z s)
      (minus_one (weak z c s)))
  destroy_left s t idle is_ripe nulls many =
      let o = one_same s s refl in
      let p = in_idle v.phase s idle.0 in
      let r = (so.seats n hn).ripe s in
      let e = times_without s s v.dying (omega arith) in
      let f = times_without s s v.ripe is_ripe in
      let hs : s.0 < z.slots = named_in_range z n v s (so.seats n hn) (omega arith) in
      weak_step z c n so hn s (destroyed s phase.Idle t) (minus_one (weak z c s)) hs
      (minus_fits (weak z c s))
      (grind (arith, at_idle, times_without, one_other))
      (λ none. absurd (ripe_here s is_ripe none))
      (λ sums wrote. slot.destroy_left _ _ (numbers z c s) _ (so.slots s hs) sums.fit
      (omega arith) (omega arith) many (omega arith))

  -- a slot is destroyed that nothing names
  pub destroy_last : (s : SlotId) (t : List Move)
      → IsIdle v → 0 < times s v.ripe → HasNullFields z c.words s → weak z c s ≡ 1
      → Sound z (put c n (with_having v (destroyed s (phase.Give s) t)) (weak_at z s)
      (minus_one (weak z c s)))
  destroy_last s t idle is_ripe nulls last =
      let o = one_same s s refl in
      let p = in_idle v.phase s idle.0 in
      let r = (so.seats n hn).ripe s in
      let e = times_without s s v.dying (omega arith) in
      let f = times_without s s v.ripe is_ripe in
      let hs : s.0 < z.slots = named_in_range z n v s (so.seats n hn) (omega arith) in
      weak_step z c n so hn s (destroyed s (phase.Give s) t) (minus_one (weak z c s)) hs
      (minus_fits (weak z c s))
      (grind (arith, at_idle, at_give, times_without, one_other))
      (λ none. absurd (ripe_here s is_ripe none))
      (λ sums wrote. slot.destroy_last _ _ (numbers z c s) _ (so.slots s hs) sums.fit
      (omega arith) (omega arith) last (omega arith))
