-- A bit that an event clears is that of a slot which it claims.
use Rattle.std.proofs.Common.{◌≡◌, ◌≢◌, ◌⊎◌, inl, inr, ⊎_elim, ℕ, ◌+◌, ◌%◌, ◌^◌, ◌<◌, Bool, true, List, [], ◌∷◌, ◌++◌, set, refl, ap, sym, ◌∙◌, subst, arith}
use Rattle.std.specs.Prelude.{slice_index, ◌==◌, Option, Some, if◌then◌else◌}
use Rattle.std.proofs.lemmas.List.{get_or-set_other, set-get_or}
use Rattle.std.proofs.lemmas.Bool.{cases_eq}
use Rattle.std.proofs.lemmas.Bool.Decides.{nat_tests}
use Rattle.core_promises.specs.plain_state.declared.slot.Kind.{Kind}
use Rattle.core_promises.specs.plain_state.declared.slot.SlotId.{SlotId}
use Rattle.core_promises.specs.plain_state.Lists.{Entry, times}
use Rattle.core_promises.specs.core_events.declared.act.Act.{Act}
use Rattle.core_promises.specs.core_events.declared.act.Act.TheVariants as act
use Rattle.core_promises.specs.core_events.declared.outcome.Outcome.TheVariants as outcome
use Rattle.core_promises.specs.core_events.declared.shape.Shape.{Shape}
use Rattle.core_promises.specs.core_events.declared.view.CoreView.{CoreView}
use Rattle.core_promises.specs.core_events.declared.view.Phase.TheVariants as phase
use Rattle.core_promises.specs.core_events.Counts.{free_bit, giving}
use Rattle.core_promises.specs.core_events.Good.{SeatLaw}
use Rattle.core_promises.specs.core_events.Runs.{Core, after, found, view_at}
use Rattle.core_promises.specs.core_events.Steps.{May, counter_at, moved, next, owed_at, place, plus_one}
use Rattle.core_promises.specs.core_events.Views.{Holds, of_slot, slot_of}
use Rattle.core_promises.specs.core_events.Words.{bit_alone, bit_in, bits_at, payload_at, strong_at, ticket_at, weak_at}
use Rattle.core_promises.specs.core_law.Sound.{Sound}
use Rattle.core_promises.specs.core_law.Slots.{numbers}
use Rattle.core_promises.proofs.Below.core_law_Bits.{bit_most, bits_bound, bits_off, bits_other, given_other, taken_other}
use Rattle.core_promises.proofs.Below.core_law_Held.{held_named}
use Rattle.core_promises.proofs.Below.core_law_InRange.{open_in_range, owed_named, phase_there, put_in_range}
use Rattle.core_promises.proofs.Below.core_law_Kit.{one_same, slot_cases, times_push, total_at, total_set}
use Rattle.core_promises.proofs.Below.core_law_Phases.{in_give}
use Rattle.core_promises.proofs.Below.core_law_Put.{at_seat}
use Rattle.core_promises.proofs.Below.core_law_Steady.{named_in_range}
use Rattle.core_promises.proofs.Below.core_law_Writes.{OffBits, place_off_bits}
use Rattle.core_promises.proofs.Below.core_law_Live.{giver_clear}
use Rattle.claim_law.specs.Claims.{claimed, claims}
use Rattle.claim_law.proofs.Going.{claims_go, won}

-- the word of an act stands before the bits
module _ (z : Shape) (n : ℕ) (v : CoreView) (law : SeatLaw z n v) (hn : n < z.seats) where
  held : (s : SlotId) → Holds v s → s.0 < z.slots
  held s h = named_in_range z n v s law (held_named s v h)

  at_phase : (f : SlotId → ℕ) (s : SlotId) → slot_of v.phase ≡ Some s
      → (s.0 < z.slots → OffBits z (f s)) → OffBits z (of_slot f (slot_of v.phase))
  at_phase f s is off = subst (λ (o : Option SlotId). OffBits z (of_slot f o)) (sym is)
      (off (phase_there z n v law s is))

  counter_off : (k : Kind) (s : SlotId) → s.0 < z.slots → OffBits z (counter_at z k s)
  counter_off k s h = grind arith

  owed_off : (es : List Entry) → v.owed ≡ es → OffBits z (owed_at z es)
  owed_off [] e = omega arith
  owed_off (x ∷ es) e = counter_off x.0 x.1
      (named_in_range z n v x.1 law (owed_named z n v law x.0 x.1 es e))

module _ (z : Shape) (c : Core) (n : ℕ) (so : Sound z c) (hn : n < z.seats) (s : SlotId)
    (hs : s.0 < z.slots) where
  abbrev v : CoreView
  v = view_at c n

  -- where the bit is clear afterwards it was so before, or the slot is claimed now
  abbrev pub Clears : Act → Type 0
  Clears a =
      free_bit z (after z c n a) s ≡ 0
      → (free_bit z c s ≡ 0) ⊎ (0 < claims (after z c n a) s)

  same : (a : Act) → free_bit z (after z c n a) s ≡ free_bit z c s → Clears a
  same a e clear = inl (sym e ∙ clear)

  off : (a : Act) → OffBits z (place z a v) → Clears a
  off a before = same a
      (bits_off z c.words (place z a v) (next a v (found z c n a)) s before)

  reads : (a : Act) → next a v (found z c n a) ≡ found z c n a → Clears a
  reads a stays = same a
      (ap (λ (w : ℕ). bit_in s (slice_index (set c.words (place z a v) w) (bits_at z s))) stays
      ∙ ap (λ (ws : List ℕ). bit_in s (slice_index ws (bits_at z s)))
      (set-get_or c.words (place z a v) 0))

  law : SeatLaw z n v
  law = so.seats n hn

  phase_off : (a : Act) (f : SlotId → ℕ) (x : SlotId) → slot_of v.phase ≡ Some x
      → place z a v ≡ of_slot f (slot_of v.phase) → (x.0 < z.slots → OffBits z (f x)) → Clears a
  phase_off a f x is at before = off a (rw at (at_phase z n v law hn f x is before))

  -- a claim clears the bit of its own slot alone
  claims_it : (x : SlotId) → May z (act.Claim x) v → Clears (act.Claim x)
  claims_it x may = ⊎_elim
      (λ (is : s ≡ x). ⊎_elim
      (λ (free : free_bit z c s ≡ 1).
      let w : ℕ = slice_index c.words (bits_at z x) in
      let set' : (bit_in x w == 1) ≡ true = is_set x is free in
      let u : CoreView = moved z (act.Claim x) w v in
      let e = ap (times s) (claims_go z (act.Claim x) w v may
      ∙ ap (λ (b : Bool). claimed v ++ won (act.Claim x)
      (if b then outcome.Claimed else outcome.Taken w)) set') in
      let p = times_push s x (claimed v) in
      let one = one_same s x (sym (ap (λ (y : SlotId). y.0) is)) in
      let t = total_set (λ v. times s (claimed v)) c.views n u (at_seat z c n so hn) in
      let m = total_at (λ v. times s (claimed v)) c.views n (at_seat z c n so hn) in
      λ clear. inr (omega arith))
      (λ (taken : free_bit z c s ≢ 1).
      let m = bit_most s (slice_index c.words (bits_at z s)) in
      λ clear. inl (omega arith))
      (cases_eq (free_bit z c s) 1))
      (λ (ne : s.0 ≢ x.0).
      let b = bits_bound z x may.1 in
      let len = so.words in
      same (act.Claim x) (bits_other z c.words x s _ (omega arith) ne
      (λ other. taken_other x s (slice_index c.words (bits_at z x)) other)))
      (slot_cases s x)
    where
      is_set : (x : SlotId) → s ≡ x → free_bit z c s ≡ 1
          → (bit_in x (slice_index c.words (bits_at z x)) == 1) ≡ true
      is_set x is free =
          let e : free_bit z c x ≡ 1 = sym (ap (λ (y : SlotId). free_bit z c y) is) ∙ free in
          grind (arith, nat_tests)

  -- a return sets the bit of its own slot alone
  gives_it : (x : SlotId) → v.phase ≡ phase.Give x → Clears act.Free
  gives_it x at =
      let w : ℕ = slice_index c.words (bits_at z x) in
      let hx = phase_there z n v law x (ap slot_of at) in
      let o = one_same x x refl in
      let p = in_give v.phase x x at in
      let gives = total_at (λ (u : CoreView). giving x u.phase) c.views n (at_seat z c n so hn) in
      let clear : bit_in x w ≡ 0 = giver_clear _ (numbers z c x) (so.slots x hx) (omega arith) in
      let b = bits_bound z x hx in
      let len = so.words in
      ⊎_elim
      (λ (is : s ≡ x). λ now. inl (ap (λ (y : SlotId). free_bit z c y) is ∙ clear))
      (λ (ne : s.0 ≢ x.0).
      same act.Free (subst
      (λ (y : Option SlotId). bit_in s (slice_index (set c.words (of_slot (bits_at z) y)
      ((slice_index c.words (of_slot (bits_at z) y) + of_slot bit_alone y) % 2 ^ 64)) (bits_at z s))
      ≡ free_bit z c s) (sym (ap slot_of at))
      (bits_other z c.words x s ((w + bit_alone x) % 2 ^ 64) (omega arith) ne
      (λ other. given_other x s w (so.fit.fit (bits_at z x)) clear other))))
      (slot_cases s x)

  pub clears : (a : Act) → May z a v → Clears a
  clears (act.Add x) may = let h = held z n v law hn x may.2 in off (act.Add x) (omega arith)
  clears (act.Drop x) may = let p = may.1 in
      let h = named_in_range z n v x law (omega arith) in off (act.Drop x) (omega arith)
  clears act.Pay may = off act.Pay (owed_off z n v law hn v.owed refl)
  clears act.Finish may =
      phase_off act.Finish (strong_at z) may.0 (ap slot_of may.1) refl (λ h. omega arith)
  clears act.Take may =
      phase_off act.Take (strong_at z) may.0 (ap slot_of may.1) refl (λ h. omega arith)
  clears (act.Count x) may = reads (act.Count x) refl
  clears act.Mark may =
      phase_off act.Mark (strong_at z) may.0 (ap slot_of may.1) refl (λ h. omega arith)
  clears (act.Announce j k x) may =
      let j4 = may.1 in let number = law.number in off (act.Announce j k x) (omega arith)
  clears (act.Release j) may =
      let j4 = may.1 in let number = law.number in off (act.Release j) (omega arith)
  clears (act.Look q) may = reads (act.Look q) refl
  clears (act.Check j q) may = reads (act.Check j q) refl
  clears (act.Alive j) may = reads (act.Alive j) refl
  clears act.Scan may = reads act.Scan refl
  clears (act.Swap q new) may =
      off (act.Swap q new) (place_off_bits z q (put_in_range z n v law q new may))
  clears (act.Cas q old new) may =
      off (act.Cas q old new) (place_off_bits z q (open_in_range z n v law q may.2))
  clears (act.Claim x) may = claims_it x may
  clears act.Arm may =
      phase_off act.Arm (weak_at z) may.0 (ap slot_of may.1) refl (λ h. omega arith)
  clears (act.Fill i x) may = let below = may.1 in
      phase_off (act.Fill i x) (λ y. payload_at z y i) may.0.0 (ap slot_of may.0.1) refl
      (λ h. omega arith)
  clears act.Start may =
      phase_off act.Start (strong_at z) may.0 (ap slot_of may.1) refl (λ h. omega arith)
  clears (act.See x i) may = reads (act.See x i) refl
  clears act.Free may = gives_it may.0 may.1
  clears act.Ticket may = let b = bits_bound z s hs in
      same act.Ticket (ap (bit_in s)
      (get_or-set_other c.words (ticket_at z) (bits_at z s) (plus_one (found z c n act.Ticket)) 0
      (omega arith)))
  clears (act.Wadd x) may = let h = held z n v law hn x may.2 in off (act.Wadd x) (omega arith)
  clears (act.Wdrop x) may = let p = may.1 in
      let h = named_in_range z n v x law (omega arith) in off (act.Wdrop x) (omega arith)
  clears (act.Destroy x) may = let p = may.1 in
      let h = named_in_range z n v x law (omega arith) in off (act.Destroy x) (omega arith)
  clears (act.Wcount x) may = reads (act.Wcount x) refl
  clears (act.Leave j) may = reads (act.Leave j) refl
