-- A swap, a compare-exchange and a check show a plain step each.
use Rattle.std.proofs.Common.{◌≡◌, ◌≢◌, inl, inr, ⊎_elim, ℕ, ◌+◌, ◌<◌, true, false, List, [], ◌∷◌, ◌++◌, set, refl, ap, sym, ◌∙◌, arith, append_assoc}
use Rattle.std.specs.Prelude.{slice_index, ◌==◌, nat_lt, Option, Some, None}
use Rattle.std.proofs.lemmas.Bool.Decides.{nat_tests}
use Rattle.core_events.specs.plain_state.declared.act.EventPlace.{EventPlace}
use Rattle.core_events.specs.plain_state.declared.act.EventPlace.TheVariants.{Cell, Field, WeakCell, WeakField}
use Rattle.core_events.specs.plain_state.declared.slot.Kind.{Kind}
use Rattle.core_events.specs.plain_state.declared.slot.Kind.TheVariants.{Strong, Weak, Disposal}
use Rattle.core_events.specs.plain_state.declared.slot.SlotId.{SlotId}
use Rattle.core_events.specs.plain_state.Lists.{Entry, times}
use Rattle.core_events.specs.plain_state.Places.{place_kind, content, with_content}
use Rattle.core_events.specs.plain_state.State.{PlainSeat, seat_at, with_seat}
use Rattle.core_events.specs.plain_state.Steps.{word_of, joined, GivesUp, Replaces, Clears}
use Rattle.core_events.specs.declared.act.Act.TheVariants as act
use Rattle.core_events.specs.declared.shape.Shape.{Shape}
use Rattle.core_events.specs.declared.view.CoreView.{CoreView}
use Rattle.core_events.specs.declared.view.Move.{Move}
use Rattle.core_events.specs.declared.view.Note.TheVariants as note
use Rattle.core_events.specs.Words.{slot_in, place_at}
use Rattle.core_events.specs.Views.{valid_of, without, IsOpen, IsRipeField, HoldsStrongly}
use Rattle.core_events.specs.Steps.{CanGive, exchanged, without_given}
use Rattle.core_events.specs.Runs.{Core, Enabled, view_at}
use Rattle.core_events.specs.Counts.{strong, refs, adds_used}
use Rattle.core_events.specs.Shows.{shows, show_seat}
use Rattle.core_events.specs.ShownSteps.{is_ripe_field}
use Rattle.core_law.specs.Slots.{numbers}
use Rattle.core_law.specs.Sound.{Sound}
use Rattle.core_law.proofs.Kit.{by_test, total_at}
use Rattle.core_law.proofs.Held.{strongly_refs}
use Rattle.core_law.proofs.Flags.{live_low}
use Rattle.core_law.proofs.InRange.{open_in_range, readable_in_range, ripe_in_range}
use Rattle.core_law.proofs.Parts.{value_is}
use Rattle.core_law.proofs.Put.{put, at_seat, adds_fit}
use Rattle.core_law.proofs.Writes.{IsPlace}
use Rattle.core_law.proofs.Bridge.{shown_seat}
use Rattle.core_law.proofs.Does as does
use Rattle.core_law.proofs.Does.{ShowsRow}
use Rattle.core_law.proofs.Losing.{loses_without, valid_gains}
use Rattle.core_law.proofs.Quiet.{Quiet, calm, same_plain, still_quiet}
use Rattle.core_law.proofs.Ranges.{counts_low}
use Rattle.core_law.proofs.ShownExchange.{shows_place}
use Rattle.core_law.proofs.ShownPlaces.{slot_word, word_slot, shown_content, shown_word, shown_open, shown_readable, shown_dying_field}
use Rattle.core_law.proofs.Stages.{live_started}

joined_append : (k : Kind) (o : Option SlotId) (es fs : List Entry) → es ++ joined k o fs
    ≡ joined k o (es ++ fs)
joined_append k None es fs = refl
joined_append k (Some s) es fs = sym (append_assoc es fs ((k, s) ∷ []))

quiet_exchange : (kind : Kind) (new : Option SlotId) (w : ℕ) (v : CoreView) (t : List Move)
    (x : SlotId)
    → Quiet x v (record (exchanged kind new w v) { trail = t })
quiet_exchange kind new w v t x = grind arith

-- what the seat shows after it gave the new content
seat_exchanged : (kind : Kind) (new : Option SlotId) (w : ℕ) (v : CoreView) (t : List Move)
    → show_seat (record (exchanged kind new w v) { trail = t })
    ≡ record (show_seat (without_given kind new v)) {
      deferred = joined kind (slot_in w)
          (v.owed ++ v.retired);
    }
seat_exchanged kind None w v t =
    ap (λ (es : List Entry). record (show_seat v) { deferred = es })
    (joined_append kind (slot_in w) v.owed v.retired)
seat_exchanged Strong (Some s) w v t =
    ap (λ (es : List Entry). record (show_seat v) { owned = without s v.owned; deferred = es })
    (joined_append Strong (slot_in w) v.owed v.retired)
seat_exchanged Weak (Some s) w v t =
    ap (λ (es : List Entry). record (show_seat v) { weaks = without s v.weaks; deferred = es })
    (joined_append Weak (slot_in w) v.owed v.retired)
seat_exchanged Disposal (Some s) w v t =
    ap (λ (es : List Entry). record (show_seat v) { deferred = es })
    (joined_append Disposal (slot_in w) v.owed v.retired)

-- what the seat shows gives up the new content
gives_up : (kind : Kind) (new : Option SlotId) (v : CoreView) (y : PlainSeat) → y ≡ show_seat v
    → CanGive kind new v
    → GivesUp kind new y (show_seat (without_given kind new v))
gives_up Strong None v y e can = sym e
gives_up Weak None v y e can = sym e
gives_up Disposal None v y e can = sym e
gives_up Disposal (Some s) v y e can = absurd can
gives_up Strong (Some s) v y e can = (
  without s v.owned,
  rw e
      (loses_without s v.owned can),
  rw e refl,
)
gives_up Weak (Some s) v y e can = (
  without s v.weaks,
  rw e
      (loses_without s v.weaks can),
  rw e refl,
)

deferred_given : (kind : Kind) (new : Option SlotId) (v : CoreView)
    → (show_seat (without_given kind new v)).deferred ≡ v.owed ++ v.retired
deferred_given kind new v = grind arith

module _ (z : Shape) (c : Core) (n : ℕ) (so : Sound z c) (hn : n < z.seats) where
  abbrev v : CoreView
  v = view_at c n

  is : seat_at (shows z c) n ≡ show_seat (view_at c n)
  is = shown_seat z c n (at_seat z c n so hn)

  replaces : (q : EventPlace) (new : Option SlotId) (t : List Move) → IsPlace z q
      → CanGive (place_kind q) new v
      → Replaces (shows z c) n q new
      (shows z (put c n (record (exchanged (place_kind q) new
      (slice_index c.words (place_at z q)) v) { trail = t }) (place_at z q) (word_of new)))
  replaces q new t there can = (
    show_seat (without_given (place_kind q) new v),
    gives_up (place_kind q) new v (seat_at (shows z c) n) is can,
    shows_place z c n _ so hn (quiet_exchange (place_kind q) new
        (slice_index c.words (place_at z q)) v t) q new there
        ∙ ap (λ (y : PlainSeat). with_content (with_seat (shows z c) n y) q new)
        (seat_exchanged (place_kind q) new (slice_index c.words (place_at z q)) v t ∙ same),
  )
    where
      same : record (show_seat (without_given (place_kind q) new v)) {
        deferred = joined (place_kind q) (slot_in (slice_index c.words (place_at z q)))
            (v.owed ++ v.retired);
      }
          ≡ record (show_seat (without_given (place_kind q) new v)) {
            deferred = joined (place_kind q) (content (shows z c) q)
                (show_seat (without_given (place_kind q) new v)).deferred;
          }
      same =
          ap (λ (o : Option SlotId). record (show_seat (without_given (place_kind q) new v))
          { deferred = joined (place_kind q) o (v.owed ++ v.retired) })
          (sym (shown_content z c q there))
          ∙ ap (λ (es : List Entry). record (show_seat (without_given (place_kind q) new v))
          { deferred = joined (place_kind q) (content (shows z c) q) es })
          (sym (deferred_given (place_kind q) new v))

  clears : (q : EventPlace) (t : List Move) → IsPlace z q
      → Clears (shows z c) n q
      (shows z (put c n (record (exchanged (place_kind q) None
      (slice_index c.words (place_at z q)) v) { trail = t }) (place_at z q) 0))
  clears q t there =
      shows_place z c n _ so hn (quiet_exchange (place_kind q) None
      (slice_index c.words (place_at z q)) v t) q None there
      ∙ ap (λ (y : PlainSeat). with_content (with_seat (shows z c) n y) q None)
      (seat_exchanged (place_kind q) None (slice_index c.words (place_at z q)) v t
      ∙ (ap (λ (o : Option SlotId). record (show_seat v)
      { deferred = joined (place_kind q) o (v.owed ++ v.retired) })
      (sym (shown_content z c q there)) ∙ rw is refl))

  -- a place that is open is no field of a ripe slot, since that is dying
  not_ripe : (s : SlotId) → HoldsStrongly v s → s.0 < z.slots → nat_lt 0 (times s v.ripe) ≡ false
  not_ripe s held hs =
      let r = strongly_refs z c n s so hn held in
      let e = value_is (adds_used c) (numbers z c s) (so.slots s hs) (adds_fit z c so) in
      let p = counts_low (strong z c s) (refs Strong z c s) e r in
      let d = (live_started z c so s hs (live_low (strong z c s) p.1)).dying in
      let t = total_at (λ (u : CoreView). times s u.dying) c.views n (at_seat z c n so hn) in
      let le = (so.seats n hn).ripe s in
      let none : times s v.ripe ≡ 0 = omega arith in grind (arith, nat_tests)

  open_not_ripe : (q : EventPlace) → IsOpen z v q → IsPlace z q → is_ripe_field v q ≡ false
  open_not_ripe (Cell i) on there = refl
  open_not_ripe (Field s i) on there = not_ripe s on.1 there.0
  open_not_ripe (WeakCell i) on there = refl
  open_not_ripe (WeakField s) on there = not_ripe s on there

  is_ripe : (q : EventPlace) → IsRipeField v q → is_ripe_field v q ≡ true
  is_ripe (Cell i) on = absurd on
  is_ripe (Field s i) on = let d = on.1 in grind (arith, nat_tests)
  is_ripe (WeakCell i) on = absurd on
  is_ripe (WeakField s) on = grind (arith, nat_tests)

  -- a seat that only goes on has its trail alone anew
  unchanged : (t : List Move) (q : EventPlace)
      → shows z (put c n (record v { trail = t }) (place_at z q) (slice_index c.words (place_at z q)))
      ≡ shows z c
  unchanged t q = same_plain (shows z c) _ n _
      (still_quiet z c n _ so hn (place_at z q) (calm v _ refl refl refl)) (sym is)

  pub swap_shows : (q : EventPlace) (new : Option SlotId) → Enabled z c n (act.Swap q new)
      → ShowsRow z c n (act.Swap q new)
  swap_shows q new on = ⊎_elim
      (λ e. rw (open_not_ripe q e.0 (open_in_range z n v (so.seats n hn) q e.0)) (
        shown_open z c n q so hn e.0,
        shown_word z c q (open_in_range z n v (so.seats n hn) q e.0),
        replaces q new _ (open_in_range z n v (so.seats n hn) q e.0) e.1,
      ))
      (λ e. rw (is_ripe q e.0, e.1) (
        shown_dying_field z c n q so hn e.0,
        shown_word z c q (ripe_in_range z n v (so.seats n hn) q e.0),
        clears q _ (ripe_in_range z n v (so.seats n hn) q e.0),
      ))
      on.1.2

  pub cas_shows : (q : EventPlace) (old new : Option SlotId) → Enabled z c n (act.Cas q old new)
      → ShowsRow z c n (act.Cas q old new)
  cas_shows q old new on =
      let w : ℕ = slice_index c.words (place_at z q) in
      let there = open_in_range z n v (so.seats n hn) q on.1.2 in
      let shown = shown_content z c q there in
      by_test (slice_index c.words (place_at z q) == word_of old)
      (λ test.
      let same : w ≡ word_of old = grind (arith, nat_tests) in
      rw test (
        shown_open z c n q so hn on.1.2,
        shown_word z c q there,
        inl (shown ∙ (ap slot_in same ∙ slot_word old), replaces q new _ there on.1.3),
      ))
      (λ test.
      let other : w ≢ word_of old = grind (arith, nat_tests) in
      rw test (
        shown_open z c n q so hn on.1.2,
        shown_word z c q there,
        inr (λ e. other (sym (word_slot w) ∙ ap word_of (sym shown ∙ e)), unchanged _ q),
      ))

  pub check_shows : (j : ℕ) (q : EventPlace) → Enabled z c n (act.Check j q)
      → ShowsRow z c n (act.Check j q)
  check_shows j q on =
      let w : ℕ = slice_index c.words (place_at z q) in
      let there = readable_in_range z n v (so.seats n hn) q on.1.3 in
      let s : SlotId = on.1.2.0 in
      let noted_as = on.1.2.1 in
      let four = (so.seats n hn).four in
      let small = on.1.1 in
      by_test (slice_index c.words (place_at z q) == on.1.2.0.0 + 1)
      (λ test.
      let found' : w ≡ s.0 + 1 = grind (arith, nat_tests) in
      rw (on.1.2.1, test) (does.does_check (shows z c) _ n (show_seat v) is j w q s
      (valid_of (set v.notes j (note.Valid (place_kind q) s)))
      (shown_readable z c n q so hn on.1.3) (shown_word z c q there)
      (shown_content z c q there ∙ (ap slot_in found' ∙ slot_word (Some s)))
      (valid_gains v.notes j (place_kind q) s (omega arith) (λ k x e. absurd (cc (noted_as, e))))
      (still_quiet z c n _ so hn (place_at z q) (calm v _ refl refl refl))))
      (λ test. rw (on.1.2.1, test) (
        shown_readable z c n q so hn on.1.3,
        shown_word z c q there,
        inl (unchanged _ q),
      ))
