-- Each step of a slot from life to life keeps the invariant: claim, arm, start, return.
use Rattle.std.proofs.Common.{◌≡◌, inl, inr, ℕ, ◌+◌, ◌-◌, ◌%◌, ◌^◌, ◌<◌, bit_and, List, [], ◌∷◌, ◌++◌, refl, ap, arith}
use Rattle.std.specs.Prelude.{slice_index, Some}
use Rattle.std.proofs.lemmas.Nat.{and_le_l}
use Rattle.core_events.specs.plain_state.declared.slot.SlotId.{SlotId}
use Rattle.core_events.specs.declared.shape.Shape.{Shape}
use Rattle.core_events.specs.declared.view.CoreView.{CoreView}
use Rattle.core_events.specs.declared.view.Move.{Move}
use Rattle.core_events.specs.declared.view.Phase.TheVariants as phase
use Rattle.core_events.specs.Words.{strong_at, weak_at, bits_at, bit_alone, bit_in}
use Rattle.core_events.specs.Steps.{IsIdle, HasAdd, HasMake}
use Rattle.core_events.specs.Views.{slot_of}
use Rattle.core_events.specs.Runs.{Core, view_at}
use Rattle.core_events.specs.Counts.{strong, free_bit, giving}
use Rattle.core_law.specs.Slots.{numbers}
use Rattle.core_law.specs.Sound.{Sound}
use Rattle.core_law.proofs.Kit.{one_same, one_other, times_push, total_at}
use Rattle.core_law.proofs.Put.{put, at_seat}
use Rattle.core_law.proofs.InRange.{phase_there}
use Rattle.core_law.proofs.Phases.{in_idle, in_bare, in_blank, in_give, at_idle, at_bare, at_blank, at_give}
use Rattle.core_law.proofs.SlotSteps as slot
use Rattle.core_law.proofs.Live.{giver_clear, live_most, is_low}
use Rattle.core_law.proofs.OneWord.{Having, having, strong_step, weak_step, bit_step}
use Rattle.core_law.proofs.Bits.{taken_bit, taken_other, given_bit, given_other}

module _ (z : Shape) (c : Core) (n : ℕ) (so : Sound z c) (hn : n < z.seats) where
  abbrev v : CoreView
  v = view_at c n

  -- the slot of the seat's phase is there
  there : (s : SlotId) → slot_of v.phase ≡ Some s → s.0 < z.slots
  there s at = phase_there z n v (so.seats n hn) s at

  -- a claim that finds a free slot
  pub claim_free : (s : SlotId) (t : List Move)
      → IsIdle v → s.0 < z.slots → HasMake v → HasAdd v → free_bit z c s ≡ 1
      → Sound z (put c n (record v { makes = v.makes + 1; phase = phase.Bare s; trail = t })
      (bits_at z s) (bit_and (slice_index c.words (bits_at z s)) (2 ^ 64 - 1 - bit_alone s)))
  claim_free s t idle hs make_left quota free =
      let w : ℕ = slice_index c.words (bits_at z s) in
      let o = one_same s s refl in
      let p = in_idle v.phase s idle.0 in
      let word : w < 2 ^ 64 = so.fit.fit (bits_at z s) in
      let le = and_le_l w (2 ^ 64 - 1 - bit_alone s) in
      let clear = taken_bit s w in
      bit_step z c n so hn s (record (having v) { makes = v.makes + 1; phase = phase.Bare s; trail = t })
      (bit_and w (2 ^ 64 - 1 - bit_alone s)) hs (omega arith)
      (grind (arith, at_idle, at_bare)) (λ _. omega arith) (λ x ne. taken_other s x w ne)
      (λ sums wrote. slot.claim_free _ _ (numbers z c s) _ (so.slots s hs)
      (omega arith) free (omega arith))

  -- the claimed slot gets its own weak reference
  pub arm_bare : (s : SlotId) (t : List Move)
      → v.phase ≡ phase.Bare s
      → Sound z (put c n (record v { phase = phase.Blank s; trail = t }) (weak_at z s) 1)
  arm_bare s t at =
      let o = one_same s s refl in
      let p = in_bare v.phase s s at in
      let hs = there s (ap slot_of at) in
      let q = (so.seats n hn).can_start s (inl at) in
      weak_step z c n so hn s (record (having v) { phase = phase.Blank s; trail = t }) 1 hs (omega arith)
      (grind (arith, at_bare, at_blank)) (λ _. omega arith)
      (λ sums wrote. slot.arm_bare _ _ (numbers z c s) _ (so.slots s hs) (omega arith) (omega arith))

  -- a start
  pub start_live : (s : SlotId) (t : List Move)
      → v.phase ≡ phase.Blank s
      → Sound z (put c n (record v {
        owned = v.owned ++ s ∷ [];
        made = v.made ++ s ∷ [];
        adds = v.adds + 1;
        phase = phase.Idle;
        trail = t;
      }) (strong_at z s) 1)
  start_live s t at =
      let k : Having = record (having v) {
        owned = v.owned ++ s ∷ [];
        made = v.made ++ s ∷ [];
        adds = v.adds + 1;
        phase = phase.Idle;
        trail = t;
      } in
      let o = one_same s s refl in
      let p = in_blank v.phase s s at in
      let e = times_push s s v.owned in
      let hs = there s (ap slot_of at) in
      let q = (so.seats n hn).can_start s (inr at) in
      let l = is_low 1 (omega arith) in
      let m = live_most (strong z c s) in
      strong_step z c n so hn s k 1 hs (omega arith)
      (grind (arith, at_idle, at_blank, times_push, one_other)) (λ _. omega arith) (omega arith)
      (λ sums wrote. slot.start_live _ _ (numbers z c s) _ (so.slots s hs) sums.fit
      (omega arith) (omega arith))

  -- a slot that is given back
  pub give_back : (s : SlotId) (t : List Move)
      → v.phase ≡ phase.Give s
      → Sound z (put c n (record v { phase = phase.Idle; trail = t }) (bits_at z s)
      ((slice_index c.words (bits_at z s) + bit_alone s) % 2 ^ 64))
  give_back s t at =
      let w : ℕ = slice_index c.words (bits_at z s) in
      let o = one_same s s refl in
      let p = in_give v.phase s s at in
      let hs = there s (ap slot_of at) in
      let word : w < 2 ^ 64 = so.fit.fit (bits_at z s) in
      let gives = total_at (λ (u : CoreView). giving s u.phase) c.views n (at_seat z c n so hn) in
      let clear : bit_in s w ≡ 0 = giver_clear _ (numbers z c s) (so.slots s hs) (omega arith) in
      let set' = given_bit s w word clear in
      bit_step z c n so hn s (record (having v) { phase = phase.Idle; trail = t })
      ((w + bit_alone s) % 2 ^ 64) hs (omega arith)
      (grind (arith, at_idle, at_give)) (λ _. omega arith) (λ x ne. given_other s x w word clear ne)
      (λ sums wrote. slot.give_back _ _ (numbers z c s) _ (so.slots s hs) (omega arith) (omega arith))
