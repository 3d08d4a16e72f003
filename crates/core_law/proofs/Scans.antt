-- The reads of a scan, and what its last one makes, keep the invariant.
use Rattle.std.proofs.Common.{◌≡◌, ◌≢◌, ◌⊎◌, inl, inr, ⊎_elim, ℕ, ◌+◌, ◌*◌, ◌<◌, ◌≤◌, Bool, true, false, List, [], ◌∷◌, ◌++◌, length, set, refl, ap, sym, ◌∙◌, subst, arith, length-append}
use Rattle.std.specs.Prelude.{slice_index, if◌then◌else◌}
use Rattle.std.proofs.lemmas.Bool.{cases_lt}
use Rattle.core_events.specs.plain_state.declared.slot.Kind.{Kind}
use Rattle.core_events.specs.plain_state.declared.slot.Kind.TheVariants.{Strong, Weak, Disposal}
use Rattle.core_events.specs.plain_state.declared.slot.SlotId.{SlotId}
use Rattle.core_events.specs.plain_state.Lists.{times, entry_times}
use Rattle.core_events.specs.declared.shape.Shape.{Shape}
use Rattle.core_events.specs.declared.view.CoreView.{CoreView}
use Rattle.core_events.specs.declared.view.Move.{Move}
use Rattle.core_events.specs.declared.view.Note.TheVariants as note
use Rattle.core_events.specs.declared.view.Phase.TheVariants as phase
use Rattle.core_events.specs.announce_slots.Words.{code}
use Rattle.core_events.specs.announce_slots.Seen.{announced_in, seen_times}
use Rattle.core_events.specs.plain_state.Ejection.{kept, ejected, ripens, ripened}
use Rattle.core_events.specs.Views.{no_view, note_of}
use Rattle.core_events.specs.Steps.{IsIdle}
use Rattle.core_events.specs.Runs.{Core, view_at}
use Rattle.core_events.specs.Counts.{guarding, waiting, has_passed, total, strong, dying_times, adds_used, is_live_word}
use Rattle.core_law.specs.Slots.{numbers}
use Rattle.core_law.specs.Sound.{Sound, covering}
use Rattle.core_events.specs.Good.{word_of_note}
use Rattle.core_law.proofs.Kit.{entry_none, total_set, total_at, times_none}
use Rattle.core_law.proofs.Flags.{live_taken}
use Rattle.core_law.proofs.Held.{guard_le, total_le}
use Rattle.core_law.proofs.Ripening.{ripened_times, ripens_not}
use Rattle.core_events.proofs.Below.announce_slots_Counting.{seen_at}
use Rattle.core_events.proofs.Below.plain_state_Ejections.{kept_times, split_times, split_length}
use Rattle.core_law.proofs.Put.{put, still_sound, at_seat, adds_fit}
use Rattle.core_law.proofs.Phases.{Counted, in_idle, in_scan}
use Rattle.core_law.proofs.Steady.{noted_in_range}
use Rattle.core_law.proofs.Live.{dying_once}
use Rattle.core_law.proofs.Guards.{guards_all, guards_open, guards_passed, passed_cases, read_passed}

module _ (z : Shape) (c : Core) (n : ℕ) (so : Sound z c) (hn : n < z.seats) where
  abbrev v : CoreView
  v = view_at c n

  abbrev CanScan : Type 0
  CanScan = (IsIdle v × (v.owed ≡ [])) ⊎ (v.phase ≡ phase.Scan)

  owes_none : CanScan → v.owed ≡ []
  owes_none at = ⊎_elim (λ e. e.1) (λ e. (so.seats n hn).owes_nothing e) at

  stays_here : CanScan → v.left ≡ true → ⊥
  stays_here at left = ⊎_elim
      (λ e. absurd (cc (e.0.1, left)))
      (λ e. let g = ((so.seats n hn).gone left).0 in absurd (cc (e, g)))
      at

  quiet : CanScan → (x : SlotId) → Counted v.phase x 0 0 0 0 0 0
  quiet at x = ⊎_elim (λ e. in_idle v.phase x e.0.0) (λ e. in_scan v.phase x e) at

  -- a scan reads one word that isn't the last
  pub scan_step : (w : ℕ) (t : List Move) → CanScan → length v.seen + 1 ≢ 4 * z.seats
      → w ≡ slice_index c.words (1 + length v.seen) → (p : ℕ)
      → Sound z (put c n (record v { phase = phase.Scan; seen = v.seen ++ w ∷ []; trail = t }) p
      (slice_index c.words p))
  scan_step w t at more reads p =
      let u : CoreView = record v { phase = phase.Scan; seen = v.seen ++ w ∷ []; trail = t } in
      let law = so.seats n hn in
      let l = length-append v.seen (w ∷ []) in
      still_sound z c n u p so hn
      (record {
        number = law.number;
        same_shape = law.same_shape;
        quota = law.quota;
        adds = law.adds;
        makes = law.makes;
        can_start = λ s e. ⊎_elim (λ f. absurd (cc (f))) (λ f. absurd (cc (f))) e;
        four = law.four;
        scans = inr refl;
        reads = let r = law.reads in omega arith;
        owes_nothing = λ e. owes_none at;
        ripe = law.ripe;
        kinds = law.kinds;
        range = λ s le. let r = law.range s le in let q = quiet at s in omega arith;
        gone = λ e. absurd (stays_here at e);
      })
      (assumption) (λ x. let q = quiet at x in omega arith) (λ j. refl)
      (λ i k s hi valid. inl valid)
      (λ m i k s hm hi valid is. let g = goes_on (4 * m + i) k s is in omega arith)
      (λ i s hi valid. inl valid) (λ m i s hm hi valid. omega arith)
      (so.room.each n no_view (at_seat z c n so hn))
    where
      same_waiting : (k : Kind) (s : SlotId)
          → waiting k s (record v { phase = phase.Scan; seen = v.seen ++ w ∷ []; trail = t })
          ≡ waiting k s v
      same_waiting k s = grind arith

      -- the word read is that of the note, so it passes none
      goes_on : (a : ℕ) (k : Kind) (s : SlotId) → slice_index c.words (1 + a) ≡ code k s
          → guarding a k s (record v { phase = phase.Scan; seen = v.seen ++ w ∷ []; trail = t })
          ≡ guarding a k s v
      goes_on a k s is =
          let e : has_passed a (code k s) (v.seen ++ w ∷ []) ≡ has_passed a (code k s) v.seen =
          read_passed a (code k s) w v.seen
          (λ at_a. reads ∙ subst (λ (q : ℕ). slice_index c.words (1 + q) ≡ code k s) at_a is) in
          ap (λ (b : Bool). if b then 0 else
          waiting k s (record v { phase = phase.Scan; seen = v.seen ++ w ∷ []; trail = t })) e
          ∙ ap (λ (m : ℕ). if has_passed a (code k s) v.seen then 0 else m) (same_waiting k s)

  -- the last word of a scan makes the split, and ripens slots
  module _ (w : ℕ) (t : List Move) (at : CanScan) (last : length v.seen + 1 ≡ 4 * z.seats)
      (reads : w ≡ slice_index c.words (1 + length v.seen)) where
    abbrev all : List ℕ
    all = v.seen ++ w ∷ []

    abbrev pub u : CoreView
    u = record v {
      phase = phase.Idle;
      seen = [];
      retired = kept v.retired (announced_in (v.seen ++ w ∷ []));
      owed = ejected v.retired (announced_in (v.seen ++ w ∷ []));
      ripe = ripened v.ripe v.dying (announced_in (v.seen ++ w ∷ []));
      trail = t;
    }

    whole : length all ≡ 4 * z.seats
    whole = let l = length-append v.seen (w ∷ []) in omega arith

    owed_none : (k : Kind) (x : SlotId) → entry_times k x v.owed ≡ 0
    owed_none k x = ap (entry_times k x) (owes_none at) ∙ entry_none k x

    -- what guards a note that stands in its word was read there
    guard_read : (a : ℕ) (k : Kind) (s : SlotId) → a < 4 * z.seats
        → slice_index c.words (1 + a) ≡ code k s → 0 < guarding a k s v
        → (0 < seen_times (code k s) all) × (guarding a k s v ≡ waiting k s v)
    guard_read a k s ha is pos =
        let e : has_passed a (code k s) all ≡ has_passed a (code k s) v.seen =
        read_passed a (code k s) w v.seen
        (λ at_a. reads ∙ subst (λ (q : ℕ). slice_index c.words (1 + q) ≡ code k s) at_a is) in
        let l = whole in
        ⊎_elim
        (λ q. let y = guards_passed a k s v (sym e ∙ q) in absurd (omega arith))
        (λ q. (
          ⊎_elim (λ past. absurd (omega arith)) (λ there. seen_at (code k s) all a (omega arith) there)
              q.1,
          guards_open a k s v (sym e ∙ q.0),
        ))
        (passed_cases a (code k s) all)

    -- so it guards afterwards
    guards_on : (a : ℕ) (k : Kind) (s : SlotId) → a < 4 * z.seats
        → slice_index c.words (1 + a) ≡ code k s → 0 < guarding a k s v → 0 < guarding a k s u
    guards_on a Strong s ha is pos =
        let r = guard_read a Strong s ha is pos in
        let new = guards_all a Strong s u refl in
        let m = kept_times Strong s v.retired (announced_in all) in
        let q = r.0 in let y = r.1 in omega arith
    guards_on a Weak s ha is pos =
        let r = guard_read a Weak s ha is pos in
        let new = guards_all a Weak s u refl in
        let m = kept_times Weak s v.retired (announced_in all) in
        let q = r.0 in let y = r.1 in omega arith
    guards_on a Disposal s ha is pos =
        let r = guard_read a Disposal s ha is pos in
        let new = guards_all a Disposal s u refl in
        let y = r.1 in omega arith

    -- of a slot that waits in this seat's list and in no other, this seat alone has the guard
    alone_guards : (a : ℕ) (s : SlotId) → 0 < times s v.dying → dying_times c s ≤ 1
        → 0 < total (guarding a Disposal s) c.views → 0 < guarding a Disposal s v
    alone_guards a s dies once some' =
        let h = at_seat z c n so hn in
        let bare : CoreView = record v { dying = [] } in
        let gone : guarding a Disposal s bare ≤ 0 =
        let l = guard_le a Disposal s bare in let e = times_none s in omega arith in
        let f = total_set (guarding a Disposal s) c.views n bare h in
        let g = total_set (λ (x : CoreView). times s x.dying) c.views n bare h in
        let e = times_none s in
        let le = total_le (guarding a Disposal s) (λ (x : CoreView). times s x.dying)
        (set c.views n bare) (guard_le a Disposal s) in
        omega arith

    -- a slot under a weak snapshot doesn't become ripe
    ripens_none : (m i : ℕ) (s : SlotId) → m < z.seats → i < 4
        → note_of (view_at c m) i ≡ note.Valid Disposal s → times s u.ripe ≤ times s v.ripe
    ripens_none m i s hm hi valid = ⊎_elim
        (λ (dies : 0 < times s v.dying).
        let hs = noted_in_range z m (view_at c m) i Disposal s (so.seats m hm) hi valid in
        let hm' = at_seat z c m so hm in
        let guard = so.guarded m i Disposal s hm' hi valid in
        let stands = dead s hs dies in
        let mine = alone_guards (4 * m + i) s dies stands.1 (let none = stands.0 in omega arith) in
        let same : 1 + 4 * m + i ≡ 1 + (4 * m + i) = omega arith in
        let is : slice_index c.words (1 + (4 * m + i)) ≡ code Disposal s =
        subst (λ (q : ℕ). slice_index c.words q ≡ code Disposal s) same
        (so.announced m i hm' hi ∙ ap word_of_note valid) in
        let r = guard_read (4 * m + i) Disposal s (omega arith) is mine in
        let no' = ripens_not s v.ripe (announced_in all) (inr r.0) in
        let e : times s u.ripe ≡ times s v.ripe + (if false then times s v.dying else 0) =
        ripened_times s v.ripe v.dying (announced_in all)
        ∙ ap (λ (b : Bool). times s v.ripe + (if b then times s v.dying else 0)) no' in
        omega arith)
        (λ (none : times s v.dying ≤ 0). let b = ripened_most s in omega arith)
        (cases_lt 0 (times s v.dying))
      where
        -- it doesn't live, and waits in one list
        dead : (x : SlotId) → x.0 < z.slots → 0 < times x v.dying
            → (covering Disposal z c.words x ≡ 0) × (dying_times c x ≤ 1)
        dead x hx dies = go (is_live_word (strong z c x)) refl
          where
            sums : times x v.dying ≤ dying_times c x
            sums = total_at (λ (y : CoreView). times x y.dying) c.views n (at_seat z c n so hn)

            go : (b : Bool) → is_live_word (strong z c x) ≡ b
                → (covering Disposal z c.words x ≡ 0) × (dying_times c x ≤ 1)
            go true is =
                let l = live_taken (adds_used c) (numbers z c x) (so.slots x hx) (adds_fit z c so) is in
                let d = l.1 in let y = sums in absurd (omega arith)
            go false is = (rw is refl, dying_once (adds_used c) (numbers z c x) (so.slots x hx))

        ripened_most : (x : SlotId) → times x u.ripe ≤ times x v.ripe + times x v.dying
        ripened_most x =
            let e = ripened_times x v.ripe v.dying (announced_in all) in
            let l = at_most (ripens v.ripe (announced_in all) x) in omega arith
          where
            at_most : (b : Bool) → (if b then times x v.dying else 0) ≤ times x v.dying
            at_most true = omega arith
            at_most false = omega arith

    -- what is ripe waits to be destroyed
    ripe_dies : (s : SlotId) → times s u.ripe ≤ times s u.dying
    ripe_dies s = go (ripens v.ripe (announced_in all) s) refl
      where
        law : times s v.ripe ≤ times s v.dying
        law = (so.seats n hn).ripe s

        e : times s u.ripe ≡ times s v.ripe + (if ripens v.ripe (announced_in all) s then times s v.dying else 0)
        e = ripened_times s v.ripe v.dying (announced_in all)

        go : (b : Bool) → ripens v.ripe (announced_in all) s ≡ b → times s u.ripe ≤ times s v.dying
        go true is = ⊎_elim
            (λ (has : 0 < times s v.ripe).
            let f = ripens_not s v.ripe (announced_in all) (inl has) in absurd (cc (f, is)))
            (λ (none : times s v.ripe ≤ 0).
            let f : times s u.ripe ≡ times s v.ripe + times s v.dying =
            e ∙ ap (λ (b : Bool). times s v.ripe + (if b then times s v.dying else 0)) is in
            omega arith)
            (cases_lt 0 (times s v.ripe))
        go false is =
            let f : times s u.ripe ≡ times s v.ripe + 0 =
            e ∙ ap (λ (b : Bool). times s v.ripe + (if b then times s v.dying else 0)) is in
            let l = law in omega arith

    pub split_step : (p : ℕ) → Sound z (put c n u p (slice_index c.words p))
    split_step p =
        let law = so.seats n hn in
        let splits = λ (k : Kind) (s : SlotId). split_times k s v.retired (announced_in all) in
        still_sound z c n u p so hn
        (record {
          number = law.number;
          same_shape = law.same_shape;
          quota = law.quota;
          adds = law.adds;
          makes = law.makes;
          can_start = λ s e. ⊎_elim (λ f. absurd (cc (f))) (λ f. absurd (cc (f))) e;
          four = law.four;
          scans = inl refl;
          reads = let r = law.reads in omega arith;
          owes_nothing = λ e. absurd (cc (e));
          ripe = ripe_dies;
          kinds = λ s. let d = law.kinds s in let a = splits Disposal s in omega arith;
          range = λ s le.
              let r = law.range s le in
              let q = quiet at s in
              let d = ripe_dies s in
              let a = splits Strong s in
              let b = splits Weak s in
              let e = splits Disposal s in omega arith;
          gone = λ e. absurd (stays_here at e);
        })
        (assumption)
        (λ x.
        let q = quiet at x in
        let a = splits Strong x in
        let b = splits Weak x in
        let e = owed_none Strong x in
        let f = owed_none Weak x in omega arith)
        (λ j. refl) (λ i k s hi valid. inl valid)
        (λ m i k s hm hi valid is. (
          (λ pos. let g = guards_on (4 * m + i) k s (omega arith) is pos in omega arith),
          (λ pos. omega arith),
        ))
        (λ i s hi valid. inl valid) ripens_none
        (let f = so.room.each n no_view (at_seat z c n so hn) in
        let g = split_length v.retired (announced_in all) in
        let o = ap length (owes_none at) in omega arith)
