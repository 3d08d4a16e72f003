-- Each add and drop of a strong reference, each payment of one, and each count keeps the invariant.
use Rattle.std.proofs.Common.{◌≡◌, ◌≢◌, ℕ, ◌+◌, ◌<◌, ◌≤◌, List, [], ◌∷◌, ◌++◌, length, refl, ap, ◌∙◌, arith}
use Rattle.core_events.specs.plain_state.declared.slot.Kind.{Kind}
use Rattle.core_events.specs.plain_state.declared.slot.Kind.TheVariants.{Strong, Weak, Disposal}
use Rattle.core_events.specs.plain_state.declared.slot.SlotId.{SlotId}
use Rattle.core_events.specs.plain_state.Lists.{Entry, times, entry_times}
use Rattle.core_events.specs.declared.shape.Shape.{Shape}
use Rattle.core_events.specs.declared.view.CoreView.{CoreView}
use Rattle.core_events.specs.declared.view.Move.{Move}
use Rattle.core_events.specs.declared.view.Phase.{Phase}
use Rattle.core_events.specs.declared.view.Phase.TheVariants as phase
use Rattle.core_events.specs.Words.{strong_at}
use Rattle.core_events.specs.counter_word.Words.{ZERO}
use Rattle.core_events.specs.Views.{Holds, without}
use Rattle.core_events.specs.Steps.{plus_one, minus_one, IsIdle, HasAdd}
use Rattle.core_events.specs.Runs.{Core, view_at}
use Rattle.core_events.specs.Counts.{strong, listed}
use Rattle.core_law.specs.Slots.{numbers}
use Rattle.core_law.specs.Sound.{Sound}
use Rattle.core_law.proofs.Kit.{one_same, one_other, times_push, times_without, total_at, kind_one, entry_cons}
use Rattle.core_law.proofs.Held.{held_taken, held_named}
use Rattle.core_law.proofs.Put.{put, adds_fit, at_seat}
use Rattle.core_law.proofs.SlotSame.{slot_same}
use Rattle.core_law.proofs.Steady.{named_in_range}
use Rattle.core_law.proofs.Phases.{in_idle, in_finish, at_idle, at_finish, at_zero}
use Rattle.core_law.proofs.SlotSteps as slot
use Rattle.core_law.proofs.Live.{live_most, is_low, dead_goes_on, count_few, owned_counts, plus_fits, minus_fits}
use Rattle.core_law.proofs.OneWord.{Having, having, with_having, SameOf, strong_step}

pub kind_none : (k kind : Kind) → kind_one k kind 0 ≡ 0
kind_none k kind = grind arith

-- An idle seat gives up a reference of some kind to s: it is lost from one of its lists, and nothing else but the
-- phase and the trail changes
pub record GivesUp (kind : Kind) (v : CoreView) (s : SlotId) (k : Having) : Type 0 where
  pub lost : listed kind s (with_having v k) + 1 ≡ listed kind s v
  pub rest : (j : Kind) → j ≢ kind → listed j s (with_having v k) ≡ listed j s v
  pub others : (x : SlotId) → x.0 ≢ s.0 → SameOf x v k
  pub dying : k.dying ≡ v.dying
  pub ripe : k.ripe ≡ v.ripe
  pub kinds : entry_times Disposal s k.owed ≡ entry_times Disposal s v.owed
  pub owed : length k.owed ≤ length v.owed
  pub adds : k.adds ≡ v.adds
  pub makes : k.makes ≡ v.makes

module _ (z : Shape) (c : Core) (n : ℕ) (so : Sound z c) (hn : n < z.seats) where
  abbrev v : CoreView
  v = view_at c n

  -- an add that finds no zero flag
  pub add_up : (s : SlotId) (t : List Move)
      → IsIdle v → HasAdd v → Holds v s → strong z c s < ZERO
      → Sound z (put c n (record v { owned = v.owned ++ s ∷ []; adds = v.adds + 1; trail = t })
      (strong_at z s) (plus_one (strong z c s)))
  add_up s t idle quota held up =
      let o = one_same s s refl in
      let p = in_idle v.phase s idle.0 in
      let e = times_push s s v.owned in
      let hs : s.0 < z.slots = named_in_range z n v s (so.seats n hn) (held_named s v held) in
      let taken = held_taken z c n s so hn hs held in
      let fit = adds_fit z c so in
      let few = count_few _ (numbers z c s) (so.slots s hs) up in
      let l = is_low (plus_one (strong z c s)) (omega arith) in
      let m = live_most (strong z c s) in
      strong_step z c n so hn s
      (record (having v) { owned = v.owned ++ s ∷ []; adds = v.adds + 1; trail = t })
      (plus_one (strong z c s)) hs (plus_fits (strong z c s))
      (grind (arith, at_idle, times_push, one_other)) (λ _. omega arith) (omega arith)
      (λ sums wrote. slot.add_up _ _ (numbers z c s) _ (so.slots s hs) sums.fit
      (omega arith) up (omega arith) (omega arith))

  -- an add that finds the zero flag
  pub add_dead : (s : SlotId) (t : List Move)
      → IsIdle v → HasAdd v → Holds v s → ZERO ≤ strong z c s
      → Sound z (put c n (record v { adds = v.adds + 1; trail = t })
      (strong_at z s) (plus_one (strong z c s)))
  add_dead s t idle quota held dead =
      let p = in_idle v.phase s idle.0 in
      let hs : s.0 < z.slots = named_in_range z n v s (so.seats n hn) (held_named s v held) in
      let taken = held_taken z c n s so hn hs held in
      let l = dead_goes_on _ (numbers z c s) (so.slots s hs) (adds_fit z c so) dead in
      strong_step z c n so hn s (record (having v) { adds = v.adds + 1; trail = t })
      (plus_one (strong z c s)) hs (plus_fits (strong z c s))
      (grind (arith, at_idle)) (λ _. omega arith) (omega arith)
      (λ sums wrote. slot.add_dead _ _ (numbers z c s) _ (so.slots s hs) sums.fit
      (omega arith) dead (omega arith) (omega arith))

  -- one of several strong references goes
  pub strong_left : (s : SlotId) (k : Having) → s.0 < z.slots → IsIdle v → k.phase ≡ phase.Idle
      → GivesUp Strong v s k → strong z c s ≢ 1
      → Sound z (put c n (with_having v k) (strong_at z s) (minus_one (strong z c s)))
  strong_left s k hs idle to g many =
      let p = in_idle v.phase s idle.0 in
      let q = in_idle k.phase s to in
      let kept = g.rest Weak (λ e. cc) in
      let dy = ap (times s) g.dying in
      let fit = adds_fit z c so in
      let own = total_at (listed Strong s) c.views n (at_seat z c n so hn) in
      let w = owned_counts _ (numbers z c s) (so.slots s hs) (omega arith) in
      let l = is_low (minus_one (strong z c s)) (omega arith) in
      let m = live_most (strong z c s) in
      strong_step z c n so hn s k (minus_one (strong z c s)) hs (minus_fits (strong z c s))
      (grind (arith, at_idle)) (λ _. omega arith) (omega arith)
      (λ sums wrote. slot.drop_left _ _ (numbers z c s) _ (so.slots s hs) sums.fit
      (omega arith) many (omega arith))

  -- the last one goes
  pub strong_last : (s : SlotId) (k : Having) → s.0 < z.slots → IsIdle v → k.phase ≡ phase.Finish s
      → GivesUp Strong v s k → strong z c s ≡ 1
      → Sound z (put c n (with_having v k) (strong_at z s) (minus_one (strong z c s)))
  strong_last s k hs idle to g last =
      let o = one_same s s refl in
      let p = in_idle v.phase s idle.0 in
      let q = in_finish k.phase s s to in
      let kept = g.rest Weak (λ e. cc) in
      let dy = ap (times s) g.dying in
      let l = is_low (minus_one (strong z c s)) (omega arith) in
      let m = live_most (strong z c s) in
      strong_step z c n so hn s k (minus_one (strong z c s)) hs (minus_fits (strong z c s))
      (grind (arith, at_idle, at_finish)) (λ _. omega arith) (omega arith)
      (λ sums wrote. slot.drop_zero _ _ (numbers z c s) _ (so.slots s hs) sums.fit
      (omega arith) last (omega arith))

  -- what a drop and a payment give up
  pub drops : (s : SlotId) (p : Phase) (t : List Move) → 0 < times s v.owned
      → GivesUp Strong v s (record (having v) { owned = without s v.owned; phase = p; trail = t })
  drops s p t own = grind (arith, times_without, one_other, one_same)

  pub pays : (kind : Kind) (s : SlotId) (rest : List Entry) (p : Phase) (t : List Move)
      → kind ≢ Disposal → v.owed ≡ (kind, s) ∷ rest
      → GivesUp kind v s (record (having v) { owed = rest; phase = p; trail = t })
  pays kind s rest p t some' owes =
      let counts = λ (j : Kind) (x : SlotId). ap (entry_times j x) owes ∙ entry_cons j x (kind, s) rest in
      let l = ap length owes in
      grind (arith, one_other, one_same)

  -- a count that finds 0
  pub count_again : (s : SlotId) (t : List Move)
      → IsIdle v → Holds v s
      → Sound z (put c n (record v { phase = phase.Zero s; trail = t })
      (strong_at z s) (strong z c s))
  count_again s t idle held =
      let p = in_idle v.phase s idle.0 in
      let hs : s.0 < z.slots = named_in_range z n v s (so.seats n hn) (held_named s v held) in
      strong_step z c n so hn s (record (having v) { phase = phase.Zero s; trail = t })
      (strong z c s) hs (so.fit.fit (strong_at z s))
      (grind (arith, at_idle, at_zero)) (λ _. omega arith) (omega arith)
      (λ sums wrote. slot_same _ _ (numbers z c s) _ (so.slots s hs) (omega arith) (omega arith))
