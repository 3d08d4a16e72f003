-- Announcements, releases, checks and weak snapshots keep the invariant.
use Rattle.std.proofs.Common.{◌≡◌, ◌≢◌, ◌⊎◌, inl, inr, ⊎_elim, ℕ, ◌+◌, ◌*◌, ◌^◌, ◌<◌, ◌≤◌, true, false, List, get_or, set, refl, ap, sym, ◌∙◌, subst, arith}
use Rattle.std.specs.Prelude.{slice_index, if◌then◌else◌}
use Rattle.std.proofs.lemmas.List.{length-set, get_or-set_same, get_or-set_other, get_or_default}
use Rattle.std.proofs.lemmas.List.Sums.{sum_by-le}
use Rattle.std.proofs.lemmas.Bool.{cases_eq}
use Rattle.std.proofs.lemmas.Bool.Decides.{nat_tests}
use Rattle.core_events.specs.plain_state.declared.act.EventPlace.{EventPlace}
use Rattle.core_events.specs.plain_state.declared.act.EventPlace.TheVariants.{Cell, Field, WeakCell, WeakField}
use Rattle.core_events.specs.plain_state.declared.slot.Kind.{Kind}
use Rattle.core_events.specs.plain_state.declared.slot.Kind.TheVariants.{Strong, Weak, Disposal}
use Rattle.core_events.specs.plain_state.declared.slot.SlotId.{SlotId}
use Rattle.core_events.specs.plain_state.Lists.{times}
use Rattle.core_events.specs.plain_state.Places.{place_kind}
use Rattle.core_events.specs.declared.shape.Shape.{Shape}
use Rattle.core_events.specs.declared.view.CoreView.{CoreView}
use Rattle.core_events.specs.declared.view.Move.{Move}
use Rattle.core_events.specs.declared.view.Note.{Note}
use Rattle.core_events.specs.declared.view.Note.TheVariants as note
use Rattle.core_events.specs.Words.{note_at, strong_at, place_at}
use Rattle.core_events.specs.counter_word.Words.{ZERO, value}
use Rattle.core_events.specs.Views.{no_view, note_of}
use Rattle.core_events.specs.Steps.{IsIdle}
use Rattle.core_events.specs.Runs.{Core, view_at}
use Rattle.core_events.specs.Counts.{one, places, in_note, strong, total, adds_used, is_live_word}
use Rattle.core_events.specs.Good.{SeatLaw, word_of_note}
use Rattle.core_law.specs.Slots.{numbers}
use Rattle.core_law.specs.Sound.{Sound, covering}
use Rattle.core_law.proofs.Kit.{noting_set, noting_at, in_word_same, total_at}
use Rattle.core_law.proofs.Flags.{live_low, live_taken}
use Rattle.core_law.proofs.Writes.{OffBits, note_off, places_off, IsPlace, places_at}
use Rattle.core_law.proofs.Bits.{bits_off, ticket_off}
use Rattle.core_law.proofs.Guards.{guards_same}
use Rattle.core_law.proofs.Wrote.{wrote_off}
use Rattle.core_law.proofs.Put.{put, put_sound, still_sound, announced_put, guarded_put, unripe_put, tickets_put, fit_put, ripe_times, at_seat, adds_fit, law_alike, Alike}

module _ (z : Shape) (c : Core) (n : ℕ) (so : Sound z c) (hn : n < z.seats) where
  abbrev v : CoreView
  v = view_at c n

  -- the seat's notes change, and nothing else that is counted
  noted_alike : (ns : List Note) (t : List Move) (x : SlotId)
      → Alike x v (record v { notes = ns; trail = t })
  noted_alike ns t x = omega arith

  noted_seat : (j : ℕ) (y : Note) (t : List Move) → v.left ≡ false
      → ((s : SlotId) → z.slots ≤ s.0 → in_note s y ≡ 0)
      → SeatLaw z n (record v { notes = set v.notes j y; trail = t })
  noted_seat j y t stays there =
      let law = so.seats n hn in
      record {
        number = law.number;
        same_shape = law.same_shape;
        quota = law.quota;
        adds = law.adds;
        makes = law.makes;
        can_start = law.can_start;
        four = length-set v.notes j y ∙ law.four;
        scans = law.scans;
        reads = law.reads;
        owes_nothing = law.owes_nothing;
        ripe = law.ripe;
        kinds = law.kinds;
        range = λ s le.
            let r = law.range s le in
            let i = noting_set s v.notes j y in
            let o = there s le in omega arith;
        gone = λ e. absurd (cc (stays, e));
      }

  note_at_same : (j : ℕ) (y : Note) → j < 4 → note_of (record v { notes = set v.notes j y }) j ≡ y
  note_at_same j y hj =
      let four = (so.seats n hn).four in get_or-set_same v.notes j y note.Idle (omega arith)

  note_at_other : (j i : ℕ) (y : Note) → i ≢ j → note_of (record v { notes = set v.notes j y }) i
      ≡ note_of v i
  note_at_other j i y ne = get_or-set_other v.notes j i y note.Idle ne

  -- what a note was, or is now
  noted_or : (j i : ℕ) (y x : Note) → j < 4
      → note_of (record v { notes = set v.notes j y }) i ≡ x → (y ≡ x) ⊎ (note_of v i ≡ x)
  noted_or j i y x hj is = ⊎_elim
      (λ (e : i ≡ j). inl (sym (note_at_same j y hj)
      ∙ subst (λ (q : ℕ). note_of (record v { notes = set v.notes j y }) q ≡ x) e is))
      (λ (ne : i ≢ j). inr (sym (note_at_other j i y ne) ∙ is))
      (cases_eq i j)

  -- a note is announced or released
  pub note_step : (j : ℕ) (y : Note) (t : List Move) (p : ℕ) → p ≡ note_at n j → IsIdle v → j < 4
      → word_of_note y < 2 ^ 64
      → ((k : Kind) (s : SlotId) → y ≡ note.Valid k s → ⊥)
      → ((s : SlotId) → z.slots ≤ s.0 → in_note s y ≡ 0)
      → Sound z (put c n (record v { notes = set v.notes j y; trail = t }) p (word_of_note y))
  note_step j y t p here idle hj fits not_valid there = rw here (
      let u : CoreView = record v { notes = set v.notes j y; trail = t } in
      let p : ℕ = note_at n j in
      let w : ℕ = word_of_note y in
      let h = at_seat z c n so hn in
      let off = note_off z n j hn hj in
      let before : OffBits z p = omega arith in
      put_sound z c n u p w so hn (record {
        law = noted_seat j y t idle.1 there;
        slots = λ x hx. law_alike z c n u (set c.words p w) x so hn (omega arith)
            (noted_alike (set v.notes j y) t x)
            (wrote_off z c.words p w x off hx (omega arith) (omega arith) (omega arith)) hx;
        announced = announced_put z c n u (set c.words p w) so hn
            (λ m i hm ne hi. get_or-set_other c.words p (note_at m i) w 0 (omega arith))
            (λ i hi. ⊎_elim
            (λ e. told_here i e)
            (λ ne. get_or-set_other c.words p (note_at n i) w 0 (omega arith)
            ∙ (so.announced n i h hi ∙ ap word_of_note (sym (note_at_other j i y ne))))
            (cases_eq i j));
        guarded = guarded_put z c n u (set c.words p w) so hn
            (λ i k s hi valid. inl (was_valid i k s valid))
            (λ m i k s hm hi valid is.
            let q = covered k s in let g = guards_same (4 * m + i) k s v u refl refl refl in
            ((λ pos. omega arith), (λ pos. omega arith)));
        unripe = unripe_put z c n u (set c.words p w) so hn
            (λ i s hi valid. inl (was_valid i Disposal s valid))
            (λ m i s hm hi valid. omega arith);
        range = λ k s le. places_off z c.words p w off k s ∙ so.range k s le;
        tickets = tickets_put z c n u (set c.words p w) so hn refl refl (omega arith)
            (ticket_off z c.words p w (omega arith));
        fit = fit_put z c n u p w so fits (λ x a b. bits_off z c.words p w x before);
      })
      refl refl
      (so.room.each n no_view h))
    where
      was_valid : (i : ℕ) (k : Kind) (s : SlotId)
          → note_of (record v { notes = set v.notes j y }) i ≡ note.Valid k s
          → note_of v i ≡ note.Valid k s
      was_valid i k s valid = ⊎_elim (λ e. absurd (not_valid k s e)) (λ e. e)
          (noted_or j i y (note.Valid k s) hj valid)

      covered : (k : Kind) (s : SlotId)
          → covering k z (set c.words (note_at n j) (word_of_note y)) s ≡ covering k z c.words s
      covered Strong s = places_off z c.words (note_at n j) (word_of_note y) (note_off z n j hn hj) Strong s
      covered Weak s = places_off z c.words (note_at n j) (word_of_note y) (note_off z n j hn hj) Weak s
      covered Disposal s = ap (λ (w : ℕ). if is_live_word w then 1 else 0)
          (get_or-set_other c.words (note_at n j) (strong_at z s) (word_of_note y) 0 (omega arith))

      told_here : (i : ℕ) → i ≡ j
          → get_or (set c.words (note_at n j) (word_of_note y)) (note_at n i) 0
          ≡ word_of_note (note_of (record v { notes = set v.notes j y }) i)
      told_here i e =
          let words = so.words in
          subst (λ (q : ℕ). get_or (set c.words (note_at n j) (word_of_note y)) (note_at n q) 0
          ≡ word_of_note (note_of (record v { notes = set v.notes j y }) q)) (sym e)
          (get_or-set_same c.words (note_at n j) (word_of_note y) 0 (omega arith)
          ∙ ap word_of_note (sym (note_at_same j y hj)))

  -- what a note announced becomes valid, where the words cover it, and it is ripe for nobody
  valid_step : (j : ℕ) (k : Kind) (s : SlotId) (t : List Move) (p : ℕ) → IsIdle v → j < 4
      → note_of v j ≡ note.Announced k s → 0 < covering k z c.words s
      → (k ≡ Disposal → ripe_times c s ≡ 0)
      → Sound z (put c n (record v { notes = set v.notes j (note.Valid k s); trail = t }) p
      (slice_index c.words p))
  valid_step j k s t p idle hj was covers unripe =
      let u : CoreView = record v { notes = set v.notes j (note.Valid k s); trail = t } in
      still_sound z c n u p so hn (noted_seat j (note.Valid k s) t idle.1 in_range) (assumption)
      (noted_alike (set v.notes j (note.Valid k s)) t) word_same
      (λ i k' x hi valid. ⊎_elim (λ e. inr (covered k' x e)) (λ e. inl e)
      (noted_or j i (note.Valid k s) (note.Valid k' x) hj valid))
      (λ m i k' x hm hi valid is.
      let g = guards_same (4 * m + i) k' x v u refl refl refl in omega arith)
      (λ i x hi valid. ⊎_elim (λ e. inr (ripe_none x e, omega arith)) (λ e. inl e)
      (noted_or j i (note.Valid k s) (note.Valid Disposal x) hj valid))
      (λ m i x hm hi valid. omega arith)
      (so.room.each n no_view (at_seat z c n so hn))
    where
      covered : (k' : Kind) (x : SlotId) → note.Valid k s ≡ note.Valid k' x
          → 0 < covering k' z c.words x
      covered k' x same =
          let sk : k ≡ k' = cc (same) in
          let sx : s ≡ x = cc (same) in
          subst (λ (y : SlotId). 0 < covering k' z c.words y) sx
          (subst (λ (r : Kind). 0 < covering r z c.words s) sk covers)

      ripe_none : (x : SlotId) → note.Valid k s ≡ note.Valid Disposal x → ripe_times c x ≡ 0
      ripe_none x same =
          let sk : k ≡ Disposal = cc (same) in
          let sx : s ≡ x = cc (same) in
          subst (λ (y : SlotId). ripe_times c y ≡ 0) sx (unripe sk)

      in_range : (x : SlotId) → z.slots ≤ x.0 → in_note x (note.Valid k s) ≡ 0
      in_range x le =
          let four = (so.seats n hn).four in
          let r = (so.seats n hn).range x le in
          let i = noting_at x v.notes j (omega arith) in
          let e : in_note x (note_of v j) ≡ one x s = ap (in_note x) was in omega arith

      word_same : (i : ℕ)
          → word_of_note (note_of v i)
          ≡ word_of_note (note_of (record v { notes = set v.notes j (note.Valid k s) }) i)
      word_same i = ⊎_elim
          (λ e. subst (λ (r : ℕ). word_of_note (note_of v r)
          ≡ word_of_note (note_of (record v { notes = set v.notes j (note.Valid k s) }) r)) (sym e)
          (ap word_of_note was ∙ ap word_of_note (sym (note_at_same j (note.Valid k s) hj))))
          (λ ne. ap word_of_note (sym (note_at_other j i (note.Valid k s) ne)))
          (cases_eq i j)

  -- a check finds the slot that its note announces
  pub check_step : (j : ℕ) (q : EventPlace) (s : SlotId) (t : List Move) → IsIdle v
      → j < 4
      → IsPlace z q → note_of v j ≡ note.Announced (place_kind q) s
      → slice_index c.words (place_at z q) ≡ s.0 + 1
      → Sound z (put c n (record v { notes = set v.notes j (note.Valid (place_kind q) s); trail = t })
      (place_at z q) (slice_index c.words (place_at z q)))
  check_step j q s t idle hj there was is =
      valid_step j (place_kind q) s t (place_at z q) idle hj was (held q there is) (λ e. absurd (place_not q e))
    where
      place_not : (r : EventPlace) → place_kind r ≡ Disposal → ⊥
      place_not (Cell i) e = cc (e)
      place_not (Field x i) e = cc (e)
      place_not (WeakCell i) e = cc (e)
      place_not (WeakField x) e = cc (e)

      at_place : (r : EventPlace) → IsPlace z r → slice_index c.words (place_at z r) ≡ s.0 + 1
          → 0 < places (place_kind r) z c.words s
      at_place r here e =
          let a = places_at z c.words r s here in
          let o = in_word_same s (slice_index c.words (place_at z r)) e in omega arith

      held : (r : EventPlace) → IsPlace z r → slice_index c.words (place_at z r) ≡ s.0 + 1
          → 0 < covering (place_kind r) z c.words s
      held (Cell i) here e = at_place (Cell i) here e
      held (Field x i) here e = at_place (Field x i) here e
      held (WeakCell i) here e = at_place (WeakCell i) here e
      held (WeakField x) here e = at_place (WeakField x) here e

  -- a slot that lives waits in no dying list, and so is ripe for nobody
  live_unripe : (s : SlotId) → s.0 < z.slots → is_live_word (strong z c s) ≡ true → ripe_times c s ≡ 0
  unfolding total
  live_unripe s hs live =
      let t = live_taken (adds_used c) (numbers z c s) (so.slots s hs) (adds_fit z c so) live in
      let views = so.views in
      let le = sum_by-le (λ (u : CoreView). times s u.ripe) 0 c.views (λ k d h.
      let l = so.seats k (omega arith) in
      let same = ap (λ (u : CoreView). times s u.ripe) (get_or_default c.views k d no_view h) in
      let r = l.ripe s in
      let dy = total_at (λ (u : CoreView). times s u.dying) c.views k h in omega arith) in
      omega arith

  -- an object that the note keeps from being destroyed has strong references
  pub alive_step : (j : ℕ) (s : SlotId) (t : List Move) → IsIdle v → j < 4 → s.0 < z.slots
      → note_of v j ≡ note.Announced Disposal s → 0 < value (strong z c s)
      → Sound z (put c n (record v { notes = set v.notes j (note.Valid Disposal s); trail = t })
      (strong_at z s) (strong z c s))
  alive_step j s t idle hj hs was some' =
      let low : strong z c s < ZERO = grind (arith, nat_tests) in
      let live = live_low (strong z c s) low in
      let one : covering Disposal z c.words s ≡ 1 = rw live refl in
      valid_step j Disposal s t (strong_at z s) idle hj was (omega arith)
      (λ e. live_unripe s hs live)
