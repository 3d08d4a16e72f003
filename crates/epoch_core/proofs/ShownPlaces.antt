-- What a plain state shows of a place, and of one that is given anew.
use Rattle.std.proofs.Common.{◌≡◌, ◌≢◌, ℕ, ◌+◌, ◌<◌, set, refl, ap, sym, subst, ◌∙◌, arith, Option, None, zero, suc}
use Rattle.std.specs.Prelude.{slice_index}
use Rattle.std.proofs.lemmas.List.{get_or-set_other, get_or-set_same, map-set}
use Rattle.core_law.specs.plain_state.declared.act.EventPlace.{EventPlace}
use Rattle.core_law.specs.plain_state.declared.act.EventPlace.TheVariants.{Cell, Field, WeakCell, WeakField}
use Rattle.core_law.specs.plain_state.declared.slot.Kind.TheVariants.{Strong}
use Rattle.core_law.specs.plain_state.declared.slot.SlotId.{SlotId}
use Rattle.core_law.specs.plain_state.Lists.{times}
use Rattle.core_law.specs.plain_state.Places as plain_places
use Rattle.core_law.specs.plain_state.Places.{content, field_of, place_kind, with_content, with_field}
use Rattle.core_law.specs.plain_state.State.{PlainSeat, slot_at, with_seat}
use Rattle.core_law.specs.plain_state.Steps.{word_of}
use Rattle.core_law.specs.core_events.Words.{slot_in}
use Rattle.core_law.proofs.Each.{get_each, length_each}
use Rattle.core_law.proofs.Frames.{plain_eq, slot_eq}
use Rattle.core_law.proofs.Lists.{each_same, each_set}
use Rattle.core_law.proofs.ShownPlaces.{slot_word, word_slot}
use Rattle.epoch_core.specs.declared.shape.EpochShape.{EpochShape}
use Rattle.epoch_core.specs.declared.view.EpochView.{EpochView}
use Rattle.epoch_core.specs.Words.{cell_at, count_at, field_at, payload_at, place_at}
use Rattle.epoch_core.specs.Views.{IsOpen}
use Rattle.epoch_core.specs.Runs.{Core, view_at}
use Rattle.epoch_core.specs.Counts.{filling}
use Rattle.epoch_core.specs.Good.{stage}
use Rattle.epoch_core.specs.Shows.{is_marked, lives, shows, show_seat, show_slot}
use Rattle.epoch_core.specs.Sound.{Sound}
use Rattle.epoch_core.proofs.Bridge.{shown_slot}
use Rattle.epoch_core.proofs.Put.{moves, stepped}
use Rattle.epoch_core.proofs.ShownFrames.{SameSlot, payload_of, slot_same, stage_eq, words_off}
use Rattle.epoch_core.proofs.ShownKit.{holds_strongly, is_shown}
use Rattle.epoch_core.proofs.Writes.{IsPlace}

module _ (z : EpochShape) (c : Core) where
  pub shown_content : (q : EventPlace) → IsPlace z q
      → content (shows z c) q ≡ slot_in (slice_index c.words (place_at z q))
  shown_content (Cell i) h =
      let e : 0 + i ≡ i = omega arith in
      get_each 0 z.cells i (λ k. slot_in (slice_index c.words (cell_at z k))) None h
      ∙ ap (λ (k : ℕ). slot_in (slice_index c.words (cell_at z k))) e
  shown_content (Field s i) h = ap (field_of i) (shown_slot z c s h.0) ∙ of i h.1
    where
      of : (k : ℕ) → k < 2 → field_of k (show_slot z c s) ≡ slot_in (slice_index c.words (field_at z s k))
      of zero l = refl
      of (suc zero) l = refl
      of (suc (suc k)) l = absurd (omega arith)
  shown_content (WeakCell i) h = absurd h
  shown_content (WeakField s) h = absurd h

  pub shown_word : (q : EventPlace) → IsPlace z q
      → slice_index c.words (place_at z q) ≡ word_of (content (shows z c) q)
  shown_word q h = sym (ap word_of (shown_content q h) ∙ word_slot (slice_index c.words (place_at z q)))

pub strong_place : (z : EpochShape) (q : EventPlace) → IsPlace z q → place_kind q ≡ Strong
strong_place z (Cell i) h = refl
strong_place z (Field s i) h = refl
strong_place z (WeakCell i) h = absurd h
strong_place z (WeakField s) h = absurd h

-- the words of slot x aren't that of the place
abbrev IsNotOf : EventPlace → SlotId → Type 0
IsNotOf (Cell i) x = Unit {0}
IsNotOf (Field s i) x = x.0 ≢ s.0
IsNotOf (WeakCell i) x = ⊥
IsNotOf (WeakField s) x = ⊥

apart : (z : EpochShape) (q : EventPlace) (x : SlotId) → IsPlace z q → x.0 < z.slots → IsNotOf q x
    → (k : ℕ) → k < 19 → count_at z x + k ≢ place_at z q
apart z (Cell i) x h hx ne k l = omega arith
apart z (Field s i) x h hx ne k l = omega arith
apart z (WeakCell i) x h hx ne k l = absurd h
apart z (WeakField s) x h hx ne k l = absurd h

module _ (z : EpochShape) (c : Core) (n : ℕ) (so : Sound z c) (hn : n < z.seats) where
  abbrev v : EpochView
  v = view_at c n

  pub shown_open : (q : EventPlace) → IsOpen z v q → plain_places.IsOpen (shows z c) n q
  shown_open (Cell i) h =
      let l = length_each 0 z.cells (λ k. slot_in (slice_index c.words (cell_at z k))) in omega arith
  shown_open (Field s i) h = (
    h.0,
    subst (λ (y : PlainSeat). plain_places.HoldsStrongly y s) (sym (is_shown z c n so hn))
        (holds_strongly v s h.1),
  )
  shown_open (WeakCell i) h = absurd h
  shown_open (WeakField s) h = absurd h

  pub shown_readable : (q : EventPlace) → IsOpen z v q → plain_places.IsReadable (shows z c) n q
  shown_readable (Cell i) h =
      let l = length_each 0 z.cells (λ k. slot_in (slice_index c.words (cell_at z k))) in omega arith
  shown_readable (Field s i) h = (
    h.0,
    subst (λ (y : PlainSeat). plain_places.CanReadFields y s) (sym (is_shown z c n so hn))
        (let g = holds_strongly v s h.1 in omega arith),
  )
  shown_readable (WeakCell i) h = absurd h
  shown_readable (WeakField s) h = absurd h

  module _ (u : EpochView) (same : (x : SlotId) → SameSlot x (view_at c n) u) where
    slot_apart : (q : EventPlace) (w : ℕ) (x : SlotId) → IsPlace z q → x.0 < z.slots → IsNotOf q x
        → show_slot z (stepped c n u (set c.words (place_at z q) w) c.opened) x ≡ show_slot z c x
    slot_apart q w x there hx ne =
        slot_same z c n u (set c.words (place_at z q) w) c.opened so hn x
        (words_off z c.words (place_at z q) w x (apart z q x there hx ne)) (same x)

    -- a field of a slot is given anew
    field_put : (s : SlotId) (i : ℕ) (new : Option SlotId) → s.0 < z.slots → i < 2
        → show_slot z (stepped c n u (set c.words (field_at z s i) (word_of new)) c.opened) s
        ≡ with_field i new (show_slot z c s)
    field_put s i new hs hi =
        let w : ℕ = word_of new in
        let len = so.words in
        let f = moves z c n u (λ (x : EpochView). filling s x.phase) so hn in
        let g = moves z c n u (λ (x : EpochView). times s x.dying) so hn in
        let m = moves z c n u (λ (x : EpochView). times s x.made) so hn in
        let f0 = f.0 in
        let g0 = g.0 in
        let m0 = m.0 in
        let a = (same s).fill in
        let b = (same s).dying in
        let e = (same s).made in
        let st = stage_eq _ _ _ _ _ _
        (get_or-set_other c.words (field_at z s i) (count_at z s) w 0 (omega arith)) (omega arith) (omega arith) in
        of i hi st (omega arith)
        (each_same 16 _ _ (λ k l. get_or-set_other c.words (field_at z s i) (payload_at z s k) w 0 (omega arith)))
        (ap slot_in (get_or-set_same c.words (field_at z s i) w 0 (omega arith)) ∙ slot_word new)
        (λ k l ne. ap slot_in (get_or-set_other c.words (field_at z s i) (field_at z s k) w 0 (omega arith)))
      where
        of : (k : ℕ) → k < 2
            → stage z (stepped c n u (set c.words (field_at z s i) (word_of new)) c.opened) s ≡ stage z c s
            → lives (stepped c n u (set c.words (field_at z s i) (word_of new)) c.opened) s ≡ lives c s
            → payload_of z (set c.words (field_at z s i) (word_of new)) s ≡ payload_of z c.words s
            → slot_in (slice_index (set c.words (field_at z s i) (word_of new)) (field_at z s k)) ≡ new
            → ((j : ℕ) → j < 2 → j ≢ k
            → slot_in (slice_index (set c.words (field_at z s i) (word_of new)) (field_at z s j))
            ≡ slot_in (slice_index c.words (field_at z s j)))
            → show_slot z (stepped c n u (set c.words (field_at z s i) (word_of new)) c.opened) s
            ≡ with_field k new (show_slot z c s)
        of zero h st l p at others =
            slot_eq _ _ _ _ _ _ _ _ _ _ _ _ _ _ st (ap is_marked st) l p at (others 1 (omega arith) (omega arith)) refl
        of (suc zero) h st l p at others =
            slot_eq _ _ _ _ _ _ _ _ _ _ _ _ _ _ st (ap is_marked st) l p (others 0 (omega arith) (omega arith)) at refl
        of (suc (suc k)) h st l p at others = absurd (omega arith)

    -- a place is given anew
    pub shows_place : (q : EventPlace) (new : Option SlotId) → IsPlace z q
        → shows z (stepped c n u (set c.words (place_at z q) (word_of new)) c.opened)
        ≡ with_content (with_seat (shows z c) n (show_seat u)) q new
    shows_place (Cell i) new there =
        let p : ℕ = cell_at z i in
        let w : ℕ = word_of new in
        let len = so.words in
        plain_eq _ (shows z (stepped c n u (set c.words p w) c.opened)) (map-set show_seat c.views n u)
        (each_set z.cells i (λ k. slot_in (slice_index c.words (cell_at z k)))
        (λ k. slot_in (slice_index (set c.words p w) (cell_at z k))) new there
        (ap slot_in (get_or-set_same c.words p w 0 (omega arith)) ∙ slot_word new)
        (λ k l ne. ap slot_in (get_or-set_other c.words p (cell_at z k) w 0 (omega arith))))
        refl
        (each_same z.slots _ _ (λ x l. slot_apart (Cell i) w (record { 0 = x }) there l tt)) refl
    shows_place (Field s i) new there =
        let p : ℕ = field_at z s i in
        let w : ℕ = word_of new in
        plain_eq _ (shows z (stepped c n u (set c.words p w) c.opened)) (map-set show_seat c.views n u)
        (each_same z.cells _ _ (λ k l. ap slot_in (get_or-set_other c.words p (cell_at z k) w 0 (omega arith))))
        refl
        (each_set z.slots s.0 _ _ (with_field i new (slot_at (shows z c) s)) there.0
        (field_put s i new there.0 there.1 ∙ ap (with_field i new) (sym (shown_slot z c s there.0)))
        (λ x l ne. slot_apart (Field s i) w (record { 0 = x }) there l ne))
        refl
    shows_place (WeakCell i) new there = absurd there
    shows_place (WeakField s) new there = absurd there
