-- A fill, a start, a destruction and a return of a slot show a plain step each.
use Rattle.std.proofs.Common.{◌≡◌, ℕ, ◌+◌, ◌%◌, ◌^◌, ◌<◌, false, List, [], ◌∷◌, ◌++◌, length, set, refl, ap, sym, ◌∙◌, arith}
use Rattle.std.specs.Prelude.{slice_index, slice_set, ◌==◌, Option, None}
use Rattle.std.proofs.lemmas.List.{get_or-set_same, get_or-set_other}
use Rattle.core_events.specs.plain_state.declared.act.PlainAct.TheVariants as plain
use Rattle.core_events.specs.plain_state.declared.slot.SlotId.{SlotId}
use Rattle.core_events.specs.plain_state.declared.slot.PlainSlot.{PlainSlot}
use Rattle.core_events.specs.plain_state.declared.slot.Stage.TheVariants.{Free, Blank, Live, Husk}
use Rattle.core_events.specs.plain_state.Lists.{times}
use Rattle.core_events.specs.plain_state.References.{own_reference}
use Rattle.core_events.specs.plain_state.State.{Plain, seat_at, with_seat, with_slot}
use Rattle.core_events.specs.plain_state.Steps.{Row}
use Rattle.core_events.specs.declared.act.Act.TheVariants as act
use Rattle.core_events.specs.declared.outcome.Outcome.TheVariants as outcome
use Rattle.core_events.specs.declared.shape.Shape.{Shape}
use Rattle.core_events.specs.declared.view.CoreView.{CoreView}
use Rattle.core_events.specs.declared.view.Phase.TheVariants as phase
use Rattle.core_events.specs.Words.{slot_in, field_at, weak_field_at, strong_at, weak_at, bits_at, bit_in, bit_alone, payload_at}
use Rattle.core_events.specs.counter_word.Words.{has_zero}
use Rattle.core_events.specs.Views.{slot_of, without}
use Rattle.core_events.specs.Steps.{noted, minus_one, moved}
use Rattle.core_events.specs.Runs.{Core, Enabled, view_at}
use Rattle.core_events.specs.Counts.{weak, stage, signs, filling, giving, is_live_word}
use Rattle.core_events.specs.Shows.{shows, show_seat, show_slot, lives, filled}
use Rattle.core_law.specs.Sound.{Sound}
use Rattle.core_law.proofs.InRange.{phase_there}
use Rattle.core_law.proofs.Bits.{given_bit, given_other}
use Rattle.core_law.proofs.Flags.{live_low}
use Rattle.core_law.proofs.Kit.{one_same, one_other, times_push, times_without, total_at}
use Rattle.core_law.proofs.Put.{put, at_seat}
use Rattle.core_law.proofs.Steady.{named_in_range}
use Rattle.core_law.proofs.Phases.{in_blank, in_give}
use Rattle.core_law.proofs.Bridge.{shown_seat, shown_slot, shown_weak}
use Rattle.core_law.proofs.Changes.{strong_changes, weak_changes, bit_changes, bits_there}
use Rattle.core_law.proofs.Does as does
use Rattle.core_law.proofs.Does.{ShowsRow}
use Rattle.core_law.proofs.Frames.{shows_slot, slot_eq, payload_of}
use Rattle.core_law.proofs.Lists.{each_set}
use Rattle.core_law.proofs.Covered.{undisposed}
use Rattle.core_law.proofs.Losing.{loses_without}
use Rattle.core_law.proofs.Quiet.{calm, fills_nothing, unfilled, unfilled_if, same_plain, same_frame, inner, slot_beside, slot_quiet, claimers_move, dying_move, lives_move}
use Rattle.core_law.proofs.Stages.{alive_stage, husk_stage, free_stage, stage_same, claimed_is, is_claimed, given_is, dying_is}

module _ (z : Shape) (c : Core) (n : ℕ) (so : Sound z c) (hn : n < z.seats) where
  abbrev v : CoreView
  v = view_at c n

  h : n < length c.views
  h = at_seat z c n so hn

  is : seat_at (shows z c) n ≡ show_seat (view_at c n)
  is = shown_seat z c n (at_seat z c n so hn)

  blank_at : (s : SlotId) → v.phase ≡ phase.Blank s → (s.0 < z.slots) × (stage z c s ≡ Blank)
  blank_at s at =
      let p = in_blank v.phase s s at in
      let a = p.fills in
      let o = one_same s s refl in
      let r = total_at (λ (u : CoreView). filling s u.phase) c.views n h in
      let hs = phase_there z n v (so.seats n hn) s (ap slot_of at) in (hs, is_claimed z c so s hs (omega arith))

  pub fill_shows : (i x : ℕ) → Enabled z c n (act.Fill i x) → ShowsRow z c n (act.Fill i x)
  fill_shows i x on =
      let b = blank_at on.1.0.0 on.1.0.1 in
      rw (ap slot_of on.1.0.1)
      (does.does_fill (shows z c) _ n (show_seat v) is on.1.0.0 (show_slot z c on.1.0.0)
      (shown_slot z c on.1.0.0 b.0) i x b.1 (ap filled on.1.0.1) on.1.1
      (filled_payload on.1.0.0 b.0
      ∙ ap (λ (P : Plain). with_slot P on.1.0.0 (record (show_slot z c on.1.0.0)
      { payload = slice_set (payload_of z c on.1.0.0) i x }))
      (same_plain (shows z c) _ n (show_seat v) refl (sym is))))
    where
      u : CoreView
      u = noted (act.Fill i x) outcome.Plain v

      -- one payload word of a slot
      filled_payload : (s : SlotId) → s.0 < z.slots
          → shows z (put c n u (payload_at z s i) x)
          ≡ with_slot (with_seat (shows z c) n (show_seat u)) s
          (record (show_slot z c s) { payload = slice_set (payload_of z c s) i x })
      filled_payload s hs =
          let small = on.1.1 in
          let len = so.words in
          let p : ℕ = payload_at z s i in
          let ws : List ℕ = set c.words p x in
          let m = claimers_move z c n u so hn ws s in
          let d = dying_move z c n u so hn ws s in
          let l = lives_move z c n u so hn ws s in
          let st = get_or-set_other c.words p (strong_at z s) x 0 (omega arith) in
          shows_slot z c (put c n u p x) n u s (record (show_slot z c s)
          { payload = slice_set (payload_of z c s) i x }) refl
          (same_frame z c.words p x (inner z p (omega arith) (omega arith)))
          hs
          (slot_eq _ _ _ _ _ _ _ _ _ _ _ _ _ _
          (stage_same (signs z c s) (signs z (put c n u p x) s)
          (ap (bit_in s) (get_or-set_other c.words p (bits_at z s) x 0 (omega arith)))
          (omega arith) (omega arith) (ap is_live_word st))
          (ap has_zero st)
          (omega arith)
          (each_set 16 i (λ k. slice_index c.words (payload_at z s k))
          (λ k. slice_index ws (payload_at z s k)) x small
          (get_or-set_same c.words p x 0 (omega arith))
          (λ k l ne. get_or-set_other c.words p (payload_at z s k) x 0 (omega arith)))
          (ap slot_in (get_or-set_other c.words p (field_at z s 0) x 0 (omega arith)))
          (ap slot_in (get_or-set_other c.words p (field_at z s 1) x 0 (omega arith)))
          (ap slot_in (get_or-set_other c.words p (weak_field_at z s) x 0 (omega arith))))
          (λ y hy ne. slot_quiet z c n u so hn ws y (calm v u refl refl refl y)
          (slot_beside z c.words p x y
          (record {
            fields = λ k l. omega arith;
            weak_field = omega arith;
            payload = λ k l. omega arith;
          })
          (omega arith) (omega arith)))

  pub start_shows : Enabled z c n act.Start → ShowsRow z c n act.Start
  start_shows on = rw (ap slot_of on.1.1) (go on.1.0 on.1.1)
    where
      begun : SlotId → CoreView
      begun y = noted act.Start outcome.Plain
          (record v {
            owned = v.owned ++ y ∷ [];
            made = v.made ++ y ∷ [];
            adds = v.adds
                + 1;
            phase = phase.Idle;
          })

      go : (s : SlotId) → v.phase ≡ phase.Blank s
          → Row (shows z c) n (plain.Make s) 0 (shows z (put c n (begun s) (strong_at z s) 1))
      go s at =
          let b = blank_at s at in
          let hs = b.0 in
          let len = so.words in
          let ws : List ℕ = set c.words (strong_at z s) 1 in
          let p = in_blank v.phase s s at in
          let pb = p.bares in
          let pf = p.fills in
          let o = one_same s s refl in
          let r = total_at (λ (u : CoreView). filling s u.phase) c.views n h in
          let cl = claimed_is z c so s b.0 (omega arith) in
          let cb = cl.bit in
          let cc' = cl.claimers in
          let cd = cl.dying in
          let m = claimers_move z c n (begun s) so hn ws s in
          let d = dying_move z c n (begun s) so hn ws s in
          let l = lives_move z c n (begun s) so hn ws s in
          let t = times_push s s v.made in
          let live = ap is_live_word (get_or-set_same c.words (strong_at z s) 1 0 (omega arith))
          ∙ live_low 1 (omega arith) in
          let bit = ap (bit_in s)
          (get_or-set_other c.words (strong_at z s) (bits_at z s) 1 0 (omega arith)) in
          does.does_make (shows z c) _ n (show_seat v) is s (show_slot z c s)
          (shown_slot z c s b.0) b.1 (ap filled at)
          (strong_changes z c n (begun s) s so hn b.0
          (λ x ne.
          let q = in_blank v.phase x s at in
          let e = q.bares in
          let f = q.fills in
          let g = one_other x s (λ e. ne (sym e)) in
          let k = times_push x s v.made in
          record { claims = omega arith; dying = refl; made = omega arith })
          1 Live false (lives c s + 1)
          (alive_stage (signs z (put c n (begun s) (strong_at z s) 1) s)
          (omega arith) (omega arith) (omega arith) live)
          refl (omega arith))

  pub free_shows : Enabled z c n act.Free → ShowsRow z c n act.Free
  free_shows on = rw (ap slot_of on.1.1) (go on.1.0 on.1.1)
    where
      u : CoreView
      u = noted act.Free outcome.Plain (record v { phase = phase.Idle })

      go : (s : SlotId) → v.phase ≡ phase.Give s
          → Row (shows z c) n (plain.Give s) 0
          (shows z (put c n u (bits_at z s)
          ((slice_index c.words (bits_at z s) + bit_alone s) % 2 ^ 64)))
      go s at =
          let w : ℕ = slice_index c.words (bits_at z s) in
          let w' : ℕ = (slice_index c.words (bits_at z s) + bit_alone s) % 2 ^ 64 in
          let p = in_give v.phase s s at in
          let a = p.gives in
          let o = one_same s s refl in
          let r = total_at (λ (x : CoreView). giving s x.phase) c.views n h in
          let hs = phase_there z n v (so.seats n hn) s (ap slot_of at) in
          let g = given_is z c so s hs (omega arith) in
          let l = lives_move z c n u so hn (set c.words (bits_at z s) w') s in
          let st : stage z c s ≡ Husk = husk_stage (signs z c s) g.bit g.claimers g.dying g.dead in
          let none = g.none in
          let fits = so.fit.fit (bits_at z s) in
          let wk = shown_weak z c s in
          let own = ap own_reference (ap (λ (x : PlainSlot). x.stage) (shown_slot z c s hs) ∙ st) in
          does.does_give (shows z c) _ n (show_seat v) is s (show_slot z c s)
          (shown_slot z c s hs) st (omega arith)
          (bit_changes z c n u s so hn hs
          (λ x ne. fills_nothing v u (ap filled at) refl refl refl x)
          w' Free (λ x ne. given_other s x w fits g.bit ne)
          (free_stage (signs z (put c n u (bits_at z s) w') s)
          (ap (bit_in s) (get_or-set_same c.words (bits_at z s) w' 0 (bits_there z c s so hs))
          ∙ given_bit s w fits g.bit))
          (omega arith)
          ∙ ap (λ (P : Plain). with_slot P s (record (show_slot z c s) { stage = Free }))
          (same_plain (shows z c) _ n (show_seat u) refl
          (ap (λ (f : Option SlotId). record (show_seat v) { filling = f }) (sym (ap filled at))
          ∙ sym is)))

  pub destroy_shows : (s : SlotId) → Enabled z c n (act.Destroy s) → ShowsRow z c n (act.Destroy s)
  destroy_shows s on =
      let ripe = on.1.1 in
      let le = (so.seats n hn).ripe s in
      let pos : 0 < times s v.dying = omega arith in
      let hs = named_in_range z n v s (so.seats n hn) (omega arith) in
      let r = total_at (λ (x : CoreView). times s x.dying) c.views n h in
      let y = dying_is z c so s hs (omega arith) in
      let yb = y.bit in
      let yc = y.claimers in
      let yo = y.once in
      let m = claimers_move z c n u so hn ws s in
      let d = dying_move z c n u so hn ws s in
      let l = lives_move z c n u so hn ws s in
      let o = one_same s s refl in
      let q = times_without s s v.dying pos in
      let f0 = unfilled v.phase s was in
      let f1 = unfilled u.phase s none in
      let bit = ap (bit_in s) (get_or-set_other c.words (weak_at z s) (bits_at z s) w' 0 (omega arith)) in
      let dead = ap is_live_word (get_or-set_other c.words (weak_at z s) (strong_at z s) w' 0 (omega arith))
      ∙ y.dead in
      does.does_destroy (shows z c) _ n (show_seat v) is s (show_slot z c s)
      (shown_slot z c s hs) (without s v.dying)
      (ap slot_in on.2.0, ap slot_in on.2.1, ap slot_in on.2.2)
      (undisposed z c so n s hn on.1.1)
      (loses_without s v.dying pos)
      (weak_changes z c n u s so hn hs
      (λ x ne.
      let a = unfilled v.phase x was in
      let b = unfilled u.phase x none in
      let e = one_other x s (λ f. ne (sym f)) in
      let t = times_without x s v.dying pos in
      record { claims = omega arith; dying = omega arith; made = refl })
      w' Husk
      (husk_stage (signs z (put c n u (weak_at z s) w') s)
      (omega arith) (omega arith) (omega arith) dead)
      (omega arith)
      ∙ ap (λ (f : Option SlotId). with_slot (with_seat (shows z c) n
      (record (show_seat v) { dying = without s v.dying; filling = f })) s
      (record (show_slot z c s) { stage = Husk })) (none ∙ sym was))
    where
      u : CoreView
      u = moved z (act.Destroy s) (weak z c s) v

      w' : ℕ
      w' = minus_one (weak z c s)

      ws : List ℕ
      ws = set c.words (weak_at z s) w'

      was : filled v.phase ≡ None
      was = ap filled on.1.0.0

      none : filled u.phase ≡ None
      none = unfilled_if (weak z c s == 1) (phase.Give s) phase.Idle refl refl
