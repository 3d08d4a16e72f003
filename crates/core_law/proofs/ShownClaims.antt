-- A claim of a slot, and its arming, show a plain step each.
use Rattle.std.proofs.Common.{◌≡◌, ◌≢◌, ℕ, ◌+◌, ◌-◌, ◌^◌, ◌<◌, List, length, set, bit_and, refl, ap, sym, ◌∙◌, arith}
use Rattle.std.specs.Prelude.{slice_index, ◌==◌, Option}
use Rattle.std.proofs.lemmas.List.{get_or-set_same}
use Rattle.std.proofs.lemmas.Bool.Decides.{nat_tests}
use Rattle.core_events.specs.plain_state.declared.act.PlainAct.TheVariants as plain
use Rattle.core_events.specs.plain_state.declared.slot.SlotId.{SlotId}
use Rattle.core_events.specs.plain_state.declared.slot.Stage.TheVariants.{Blank}
use Rattle.core_events.specs.plain_state.State.{seat_at, with_seat}
use Rattle.core_events.specs.plain_state.Steps.{Row}
use Rattle.core_events.specs.declared.act.Act.TheVariants as act
use Rattle.core_events.specs.declared.outcome.Outcome.TheVariants as outcome
use Rattle.core_events.specs.declared.shape.Shape.{Shape}
use Rattle.core_events.specs.declared.view.CoreView.{CoreView}
use Rattle.core_events.specs.declared.view.Phase.TheVariants as phase
use Rattle.core_events.specs.Words.{bits_at, bit_in, bit_alone}
use Rattle.core_events.specs.Views.{slot_of}
use Rattle.core_events.specs.Steps.{noted}
use Rattle.core_events.specs.Runs.{Core, Enabled, view_at}
use Rattle.core_events.specs.Counts.{signs}
use Rattle.core_events.specs.Shows.{shows, show_seat, show_slot, filled}
use Rattle.core_law.specs.Sound.{Sound}
use Rattle.core_law.proofs.InRange.{phase_there}
use Rattle.core_law.proofs.Bits.{bit_most, bits_bound, bits_other, taken_bit, taken_other}
use Rattle.core_law.proofs.Kit.{by_test, by_slot, one_same, one_other}
use Rattle.core_law.proofs.Put.{put, at_seat}
use Rattle.core_law.proofs.Phases.{in_idle, in_bare}
use Rattle.core_law.proofs.Bridge.{shown_seat, shown_slot}
use Rattle.core_law.proofs.Changes.{bit_changes, bit_written, bits_there}
use Rattle.core_law.proofs.Does as does
use Rattle.core_law.proofs.Does.{ShowsRow}
use Rattle.core_law.proofs.Each.{length_each}
use Rattle.core_law.proofs.Quiet.{calm, same_plain, quiet_step, weak_quiet, same_frame, inner, claimers_move, lives_move}
use Rattle.core_law.proofs.Stages.{blank_stage, free_stage}

module _ (z : Shape) (c : Core) (n : ℕ) (so : Sound z c) (hn : n < z.seats) where
  abbrev v : CoreView
  v = view_at c n

  h : n < length c.views
  h = at_seat z c n so hn

  is : seat_at (shows z c) n ≡ show_seat (view_at c n)
  is = shown_seat z c n (at_seat z c n so hn)

  -- after a claim of s: its bit is taken, and no other
  module _ (s : SlotId) (hs : s.0 < z.slots) (idle : v.phase ≡ phase.Idle) where
    abbrev bits : ℕ
    bits = slice_index c.words (bits_at z s)

    abbrev claimed : CoreView
    claimed = noted (act.Claim s) outcome.Claimed
        (record (view_at c n) { makes = (view_at c n).makes + 1; phase = phase.Bare s })

    claims : bit_in s bits ≡ 1
        → Row (shows z c) n (plain.Claim s) 0
        (shows z (put c n claimed (bits_at z s) (bit_and bits (2 ^ 64 - 1 - bit_alone s))))
    claims set' =
        let w : ℕ = bit_and bits (2 ^ 64 - 1 - bit_alone s) in
        let ws : List ℕ = set c.words (bits_at z s) w in
        let l = length_each 0 z.slots (λ x. show_slot z c (record { 0 = x })) in
        let m = claimers_move z c n claimed so hn ws s in
        let o = one_same s s refl in
        let p = in_idle v.phase s idle in
        let a = p.bares in
        let b = p.fills in
        let k = lives_move z c n claimed so hn ws s in
        does.does_claim (shows z c) _ n (show_seat v) is s (show_slot z c s) (shown_slot z c s hs)
        (omega arith) (free_stage (signs z c s) set') (ap filled idle)
        (bit_changes z c n claimed s so hn hs
        (λ x ne.
        let q = in_idle v.phase x idle in
        let e = q.bares in
        let f = q.fills in
        let r = one_other x s (λ g. ne (sym g)) in
        record { claims = omega arith; dying = refl; made = refl })
        w Blank (λ x ne. taken_other s x bits ne)
        (blank_stage (signs z (put c n claimed (bits_at z s) w) s)
        (ap (bit_in s) (get_or-set_same c.words (bits_at z s) w 0 (bits_there z c s so hs))
        ∙ taken_bit s bits)
        (omega arith))
        (omega arith))

    -- where it was taken already, nothing changes
    missed : (u : CoreView) → u.phase ≡ v.phase → u.dying ≡ v.dying → u.made ≡ v.made
        → bit_in s bits ≢ 1
        → shows z (put c n u (bits_at z s) (bit_and bits (2 ^ 64 - 1 - bit_alone s)))
        ≡ with_seat (shows z c) n (show_seat u)
    missed u ph dy md clear =
        let w : ℕ = bit_and bits (2 ^ 64 - 1 - bit_alone s) in
        let ws : List ℕ = set c.words (bits_at z s) w in
        let b = bits_bound z s hs in
        quiet_step z c n u so hn ws
        (same_frame z c.words (bits_at z s) w (inner z (bits_at z s) (omega arith) (omega arith)))
        (λ x hx. bit_written z c s x w hs hx (by_slot s x (λ y. bit_in y (slice_index ws (bits_at z y))
        ≡ bit_in y (slice_index c.words (bits_at z y))) here
        (λ ne. bits_other z c.words s x w (bits_there z c s so hs) ne (taken_other s x bits))))
        (calm v u ph dy md)
      where
        here : bit_in s (slice_index (set c.words (bits_at z s)
            (bit_and bits (2 ^ 64 - 1 - bit_alone s))) (bits_at z s)) ≡ bit_in s bits
        here =
            let most = bit_most s bits in
            let e = ap (bit_in s) (get_or-set_same c.words (bits_at z s)
            (bit_and bits (2 ^ 64 - 1 - bit_alone s)) 0 (bits_there z c s so hs))
            ∙ taken_bit s bits in
            omega arith

  pub claim_shows : (s : SlotId) → Enabled z c n (act.Claim s) → ShowsRow z c n (act.Claim s)
  claim_shows s on = by_test (bit_in s (slice_index c.words (bits_at z s)) == 1)
      (λ test. rw test (claims s on.1.1 on.1.0.0 (grind (arith, nat_tests))))
      (λ test. rw test (
        refl,
        same_plain (shows z c) _ n _
            (missed s on.1.1 on.1.0.0 _ refl refl refl (grind (arith, nat_tests))) (sym is),
      ))

  -- the slot of a phase is there
  pub arm_shows : Enabled z c n act.Arm → ShowsRow z c n act.Arm
  arm_shows on =
      let at = on.1.1 in
      let hs = phase_there z n v (so.seats n hn) on.1.0 (ap slot_of at) in
      rw (ap slot_of at) (
        refl,
        same_plain (shows z c) _ n _
            (weak_quiet z c n _ so hn on.1.0 1 hs
            (λ x.
            let q = in_bare v.phase x on.1.0 at in
            let e = q.bares in
            let f = q.fills in
            record { claims = omega arith; dying = refl; made = refl }))
            (ap (λ (f : Option SlotId). record (show_seat v) { filling = f }) (sym (ap filled at))
            ∙ sym is),
      )
