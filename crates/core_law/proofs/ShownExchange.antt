-- An exchange of a place, and a check, show a plain step each.
use Rattle.std.proofs.Common.{◌≡◌, ◌≢◌, ℕ, zero, suc, ◌<◌, List, set, ap, sym, ◌∙◌, arith}
use Rattle.std.specs.Prelude.{slice_index, Option}
use Rattle.std.proofs.lemmas.List.{get_or-set_same, get_or-set_other, map-set}
use Rattle.core_events.specs.plain_state.declared.act.EventPlace.{EventPlace}
use Rattle.core_events.specs.plain_state.declared.act.EventPlace.TheVariants.{Cell, Field, WeakCell, WeakField}
use Rattle.core_events.specs.plain_state.declared.slot.SlotId.{SlotId}
use Rattle.core_events.specs.plain_state.declared.slot.PlainSlot.{PlainSlot}
use Rattle.core_events.specs.plain_state.Places.{with_content, with_field}
use Rattle.core_events.specs.plain_state.State.{slot_at, with_seat}
use Rattle.core_events.specs.plain_state.Steps.{word_of}
use Rattle.core_events.specs.declared.shape.Shape.{Shape}
use Rattle.core_events.specs.declared.view.CoreView.{CoreView}
use Rattle.core_events.specs.Words.{each_from, slot_in, place_at, cell_at, weak_cell_at, field_at, weak_field_at, strong_at, payload_at, bits_at, bit_in, ticket_at}
use Rattle.core_events.specs.counter_word.Words.{has_zero}
use Rattle.core_events.specs.Runs.{Core, view_at}
use Rattle.core_events.specs.Counts.{strong, stage, signs, is_live_word}
use Rattle.core_events.specs.Shows.{shows, show_seat, show_slot, lives}
use Rattle.core_law.specs.Sound.{Sound}
use Rattle.core_law.proofs.Put.{put}
use Rattle.core_law.proofs.Writes.{IsPlace, place_off_bits, place_off_strong}
use Rattle.core_law.proofs.Bridge.{shown_slot}
use Rattle.core_law.proofs.Frames.{plain_eq, slot_eq}
use Rattle.core_law.proofs.Lists.{each_same, each_set}
use Rattle.core_law.proofs.Quiet.{Quiet, Beside, slot_beside, slot_quiet, claimers_move, dying_move, lives_move}
use Rattle.core_law.proofs.ShownPlaces.{slot_word}
use Rattle.core_law.proofs.Stages.{stage_same}

-- a field of a slot is given anew
field_put : (z : Shape) (c d : Core) (s : SlotId) (i : ℕ) (new : Option SlotId) → i < 2
    → stage z d s ≡ stage z c s → has_zero (strong z d s) ≡ has_zero (strong z c s) → lives d s
    ≡ lives c s
    → each_from 0 16 (λ k. slice_index d.words (payload_at z s k))
    ≡ each_from 0 16 (λ k. slice_index c.words (payload_at z s k))
    → slot_in (slice_index d.words (field_at z s i)) ≡ new
    → ((k : ℕ) → k < 2 → k ≢ i → slice_index d.words (field_at z s k)
    ≡ slice_index c.words (field_at z s k))
    → slice_index d.words (weak_field_at z s) ≡ slice_index c.words (weak_field_at z s)
    → show_slot z d s ≡ with_field i new (show_slot z c s)
field_put z c d s zero new h e1 e2 e3 e4 at others e5 =
    slot_eq _ _ _ _ _ _ _ _ _ _ _ _ _ _ e1 e2 e3 e4 at (ap slot_in
    (others 1 (omega arith) (omega arith))) (ap slot_in e5)
field_put z c d s (suc zero) new h e1 e2 e3 e4 at others e5 =
    slot_eq _ _ _ _ _ _ _ _ _ _ _ _ _ _ e1 e2 e3 e4 (ap slot_in
    (others 0 (omega arith) (omega arith))) at (ap slot_in e5)
field_put z c d s (suc (suc i)) new h e1 e2 e3 e4 at others e5 = absurd (omega arith)

-- the slot has no field that the place is
abbrev IsNotOf : EventPlace → SlotId → Type 0
IsNotOf (Cell i) x = Unit {0}
IsNotOf (Field s i) x = x.0 ≢ s.0
IsNotOf (WeakCell i) x = Unit {0}
IsNotOf (WeakField s) x = x.0 ≢ s.0

place_beside : (z : Shape) (q : EventPlace) (x : SlotId) → IsPlace z q → IsNotOf q x
    → Beside z (place_at z q) x
place_beside z (Cell i) x h ne =
    record { fields = λ k m. omega arith; weak_field = omega arith; payload = λ k m. omega arith }
place_beside z (Field s i) x h ne =
    record { fields = λ k m. omega arith; weak_field = omega arith; payload = λ k m. omega arith }
place_beside z (WeakCell i) x h ne =
    record { fields = λ k m. omega arith; weak_field = omega arith; payload = λ k m. omega arith }
place_beside z (WeakField s) x h ne =
    record { fields = λ k m. omega arith; weak_field = omega arith; payload = λ k m. omega arith }

module _ (z : Shape) (c : Core) (n : ℕ) (u : CoreView) (so : Sound z c) (hn : n < z.seats)
    (quiet : (x : SlotId) → Quiet x (view_at c n) u) where
  bits_off_place : (q : EventPlace) (x : SlotId) → IsPlace z q → x.0 < z.slots
      → bits_at z x ≢ place_at z q
  bits_off_place q x there hx = let b = place_off_bits z q there in omega arith

  -- slot x is apart from place q
  slot_apart : (q : EventPlace) (w : ℕ) (x : SlotId) → IsPlace z q → x.0 < z.slots → IsNotOf q x
      → show_slot z (put c n u (place_at z q) w) x ≡ show_slot z c x
  slot_apart q w x there hx ne =
      slot_quiet z c n u so hn (set c.words (place_at z q) w) x (quiet x)
      (slot_beside z c.words (place_at z q) w x (place_beside z q x there ne)
      (place_off_strong z q x there) (bits_off_place q x there hx))

  stage_apart : (q : EventPlace) (w : ℕ) (x : SlotId) → IsPlace z q → x.0 < z.slots
      → stage z (put c n u (place_at z q) w) x ≡ stage z c x
  stage_apart q w x there hx =
      let m = claimers_move z c n u so hn (set c.words (place_at z q) w) x in
      let d = dying_move z c n u so hn (set c.words (place_at z q) w) x in
      let e = (quiet x).claims in
      let f = (quiet x).dying in
      stage_same (signs z c x) (signs z (put c n u (place_at z q) w) x)
      (ap (bit_in x) (get_or-set_other c.words (place_at z q) (bits_at z x) w 0
      (bits_off_place q x there hx)))
      (omega arith) (omega arith)
      (ap is_live_word (get_or-set_other c.words (place_at z q) (strong_at z x) w 0
      (place_off_strong z q x there)))

  lives_apart : (ws : List ℕ) (x : SlotId)
      → lives (record { words = ws; views = set c.views n u }) x ≡ lives c x
  lives_apart ws x =
      let l = lives_move z c n u so hn ws x in let g = (quiet x).made in omega arith

  tickets_apart : (q : EventPlace) (w : ℕ) → IsPlace z q
      → slice_index (set c.words (place_at z q) w) (ticket_at z) ≡ slice_index c.words (ticket_at z)
  tickets_apart q w there =
      let b = place_off_bits z q there in
      get_or-set_other c.words (place_at z q) (ticket_at z) w 0 (omega arith)

  -- place q is given anew
  pub shows_place : (q : EventPlace) (new : Option SlotId) → IsPlace z q
      → shows z (put c n u (place_at z q) (word_of new)) ≡ with_content
      (with_seat (shows z c) n (show_seat u)) q new
  shows_place (Cell i) new there =
      let p : ℕ = cell_at z i in
      let w : ℕ = word_of new in
      let len = so.words in
      plain_eq _ (shows z (put c n u p w)) (map-set show_seat c.views n u)
      (each_set z.cells i (λ k. slot_in (slice_index c.words (cell_at z k)))
      (λ k. slot_in (slice_index (set c.words p w) (cell_at z k))) new there
      (ap slot_in (get_or-set_same c.words p w 0 (omega arith)) ∙ slot_word new)
      (λ k l ne. ap slot_in (get_or-set_other c.words p (cell_at z k) w 0 (omega arith))))
      (each_same z.weak_cells _ _ (λ k l. ap slot_in (get_or-set_other c.words p
      (weak_cell_at z k) w 0 (omega arith))))
      (each_same z.slots _ _ (λ x l. slot_apart (Cell i) w (record { 0 = x }) there l tt))
      (tickets_apart (Cell i) w there)
  shows_place (Field s i) new there =
      let p : ℕ = field_at z s i in
      let w : ℕ = word_of new in
      let len = so.words in
      let hs = there.0 in
      let hi = there.1 in
      plain_eq _ (shows z (put c n u p w)) (map-set show_seat c.views n u)
      (each_same z.cells _ _ (λ k l. ap slot_in (get_or-set_other c.words p (cell_at z k) w 0
      (omega arith))))
      (each_same z.weak_cells _ _ (λ k l. ap slot_in (get_or-set_other c.words p
      (weak_cell_at z k) w 0 (omega arith))))
      (each_set z.slots s.0 _ _ (with_field i new (slot_at (shows z c) s)) there.0
      (field_put z c (put c n u p w) s i new there.1
      (stage_apart (Field s i) w s there hs)
      (ap has_zero (get_or-set_other c.words p (strong_at z s) w 0 (omega arith)))
      (lives_apart (set c.words p w) s)
      (each_same 16 _ _ (λ k l. get_or-set_other c.words p (payload_at z s k) w 0 (omega arith)))
      (ap slot_in (get_or-set_same c.words p w 0 (omega arith)) ∙ slot_word new)
      (λ k l ne. get_or-set_other c.words p (field_at z s k) w 0 (omega arith))
      (get_or-set_other c.words p (weak_field_at z s) w 0 (omega arith))
      ∙ ap (with_field i new) (sym (shown_slot z c s there.0)))
      (λ x l ne. slot_apart (Field s i) w (record { 0 = x }) there l ne))
      (tickets_apart (Field s i) w there)
  shows_place (WeakCell i) new there =
      let p : ℕ = weak_cell_at z i in
      let w : ℕ = word_of new in
      let len = so.words in
      plain_eq _ (shows z (put c n u p w)) (map-set show_seat c.views n u)
      (each_same z.cells _ _ (λ k l. ap slot_in (get_or-set_other c.words p (cell_at z k) w 0
      (omega arith))))
      (each_set z.weak_cells i (λ k. slot_in (slice_index c.words (weak_cell_at z k)))
      (λ k. slot_in (slice_index (set c.words p w) (weak_cell_at z k))) new there
      (ap slot_in (get_or-set_same c.words p w 0 (omega arith)) ∙ slot_word new)
      (λ k l ne. ap slot_in (get_or-set_other c.words p (weak_cell_at z k) w 0 (omega arith))))
      (each_same z.slots _ _ (λ x l. slot_apart (WeakCell i) w (record { 0 = x }) there l tt))
      (tickets_apart (WeakCell i) w there)
  shows_place (WeakField s) new there =
      let p : ℕ = weak_field_at z s in
      let w : ℕ = word_of new in
      let len = so.words in
      let hs = there in
      plain_eq _ (shows z (put c n u p w)) (map-set show_seat c.views n u)
      (each_same z.cells _ _ (λ k l. ap slot_in (get_or-set_other c.words p (cell_at z k) w 0
      (omega arith))))
      (each_same z.weak_cells _ _ (λ k l. ap slot_in (get_or-set_other c.words p
      (weak_cell_at z k) w 0 (omega arith))))
      (each_set z.slots s.0 _ _ (record (slot_at (shows z c) s) { weak_field = new }) there
      (slot_eq _ _ _ _ _ _ _ _ _ _ _ _ _ _
      (stage_apart (WeakField s) w s there hs)
      (ap has_zero (get_or-set_other c.words p (strong_at z s) w 0 (omega arith)))
      (lives_apart (set c.words p w) s)
      (each_same 16 _ _ (λ k l. get_or-set_other c.words p (payload_at z s k) w 0 (omega arith)))
      (ap slot_in (get_or-set_other c.words p (field_at z s 0) w 0 (omega arith)))
      (ap slot_in (get_or-set_other c.words p (field_at z s 1) w 0 (omega arith)))
      (ap slot_in (get_or-set_same c.words p w 0 (omega arith)) ∙ slot_word new)
      ∙ ap (λ (x : PlainSlot). record x { weak_field = new }) (sym (shown_slot z c s there)))
      (λ x l ne. slot_apart (WeakField s) w (record { 0 = x }) there l ne))
      (tickets_apart (WeakField s) w there)
