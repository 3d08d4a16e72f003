-- What a step leaves of the plain state that is shown: the cells, the other seats, and the other slots.
use Rattle.std.proofs.Common.{◌≡◌, ◌≢◌, ℕ, ◌+◌, ◌<◌, List, set, refl, ap, sym, ◌∙◌, arith}
use Rattle.std.specs.Prelude.{slice_index}
use Rattle.std.proofs.lemmas.List.{map-set, get_or-set_other}
use Rattle.core_law.specs.plain_state.declared.slot.PlainSlot.{PlainSlot}
use Rattle.core_law.specs.plain_state.declared.slot.SlotId.{SlotId}
use Rattle.core_law.specs.plain_state.declared.slot.Stage.{Stage}
use Rattle.core_law.specs.plain_state.Lists.{times}
use Rattle.core_law.specs.plain_state.State.{with_seat, with_slot}
use Rattle.core_law.specs.core_events.Words.{each_from, slot_in}
use Rattle.core_law.proofs.Frames.{plain_eq, slot_eq}
use Rattle.core_law.proofs.Lists.{each_same, each_set}
use Rattle.core_law.proofs.Quiet.{same_plain}
use Rattle.epoch_core.specs.declared.shape.EpochShape.{EpochShape}
use Rattle.epoch_core.specs.declared.view.EpochView.{EpochView}
use Rattle.epoch_core.specs.Words.{cell_at, count_at, field_at, payload_at}
use Rattle.epoch_core.specs.Runs.{Core, view_at}
use Rattle.epoch_core.specs.Counts.{filling}
use Rattle.epoch_core.specs.Good.{stage, stage_of}
use Rattle.epoch_core.specs.Shows.{shows, show_seat, show_slot, is_marked, lives}
use Rattle.epoch_core.specs.Sound.{Sound}
use Rattle.epoch_core.proofs.Bridge.{shown_seat}
use Rattle.epoch_core.proofs.Put.{stepped, at_seat, moves}

-- a list of sixteen words
abbrev pub payload_of : EpochShape → List ℕ → SlotId → List ℕ
payload_of z ws s = each_from 0 16 (λ i. slice_index ws (payload_at z s i))

-- the words of a slot that hold its fields
pub record SameFields (z : EpochShape) (ws ws' : List ℕ) (s : SlotId) : Type 0 where
  pub first : slice_index ws' (field_at z s 0) ≡ slice_index ws (field_at z s 0)
  pub second : slice_index ws' (field_at z s 1) ≡ slice_index ws (field_at z s 1)

-- the stage, the life and the payload are given anew
pub slot_shown : (z : EpochShape) (c d : Core) (s : SlotId) (st : Stage) (life' : ℕ) (words : List ℕ)
    → stage z d s ≡ st → lives d s ≡ life' → payload_of z d.words s ≡ words
    → SameFields z c.words d.words s
    → show_slot z d s
    ≡ record (show_slot z c s) { stage = st; marked = is_marked st; life = life'; payload = words }
slot_shown z c d s st life' words e1 e2 e3 same =
    slot_eq _ _ _ _ _ _ _ _ _ _ _ _ _ _ e1 (ap is_marked e1) e2 e3 (ap slot_in same.first)
    (ap slot_in same.second) refl

-- the cells stay
abbrev pub SameCells : EpochShape → List ℕ → List ℕ → Type 0
SameCells z ws ws' =
    (i : ℕ) → i < z.cells → slice_index ws' (cell_at z i) ≡ slice_index ws (cell_at z i)

-- what a seat's view tells of a slot's stage and life stays
pub record SameSlot (x : SlotId) (v u : EpochView) : Type 0 where
  pub fill : filling x u.phase ≡ filling x v.phase
  pub dying : times x u.dying ≡ times x v.dying
  pub made : times x u.made ≡ times x v.made

-- the words that tell of a slot stay
pub record SameWords (z : EpochShape) (ws ws' : List ℕ) (x : SlotId) : Type 0 where
  pub count : slice_index ws' (count_at z x) ≡ slice_index ws (count_at z x)
  pub fields : SameFields z ws ws' x
  pub payload : payload_of z ws' x ≡ payload_of z ws x

pub stage_eq : (a a' b b' e e' : ℕ) → a' ≡ a → b' ≡ b → e' ≡ e → stage_of a' b' e' ≡ stage_of a b e
stage_eq a a' b b' e e' f g h = cc

module _ (z : EpochShape) (c : Core) (n : ℕ) (u : EpochView) (ws os : List ℕ) (so : Sound z c)
    (hn : n < z.seats) where
  abbrev d : Core
  d = stepped c n u ws os

  -- a slot of which nothing changes
  pub slot_same : (x : SlotId) → SameWords z c.words ws x → SameSlot x (view_at c n) u
      → show_slot z (stepped c n u ws os) x ≡ show_slot z c x
  slot_same x words same =
      let f = moves z c n u (λ (w : EpochView). filling x w.phase) so hn in
      let g = moves z c n u (λ (w : EpochView). times x w.dying) so hn in
      let m = moves z c n u (λ (w : EpochView). times x w.made) so hn in
      let f0 = f.0 in
      let g0 = g.0 in
      let m0 = m.0 in
      let a = same.fill in
      let b = same.dying in
      let e = same.made in
      let st = stage_eq _ _ _ _ _ _ words.count (omega arith) (omega arith) in
      slot_eq _ _ _ _ _ _ _ _ _ _ _ _ _ _ st (ap is_marked st) (omega arith) words.payload
      (ap slot_in words.fields.first) (ap slot_in words.fields.second) refl

  -- a slot whose stage stays, whatever its count word becomes
  pub slot_kept : (x : SlotId) → stage z (stepped c n u ws os) x ≡ stage z c x
      → times x u.made ≡ times x (view_at c n).made → SameFields z c.words ws x
      → payload_of z ws x ≡ payload_of z c.words x
      → show_slot z (stepped c n u ws os) x ≡ show_slot z c x
  slot_kept x st made fields payload =
      let m = moves z c n u (λ (w : EpochView). times x w.made) so hn in
      let m0 = m.0 in
      slot_eq _ _ _ _ _ _ _ _ _ _ _ _ _ _ st (ap is_marked st) (omega arith) payload
      (ap slot_in fields.first) (ap slot_in fields.second) refl

  -- where all slots show the same, and the cells stay
  pub seat_only : SameCells z c.words ws
      → ((x : SlotId) → x.0 < z.slots → show_slot z (stepped c n u ws os) x ≡ show_slot z c x)
      → shows z (stepped c n u ws os) ≡ with_seat (shows z c) n (show_seat u)
  seat_only cells slots =
      plain_eq (with_seat (shows z c) n (show_seat u)) (shows z d) (map-set show_seat c.views n u)
      (each_same z.cells _ _ (λ i h. ap slot_in (cells i h))) refl
      (each_same z.slots _ _ (λ x h. slots (record { 0 = x }) h)) refl

  pub seat_alone : SameCells z c.words ws
      → ((x : SlotId) → x.0 < z.slots → SameWords z c.words ws x)
      → ((x : SlotId) → x.0 < z.slots → SameSlot x (view_at c n) u)
      → shows z (stepped c n u ws os) ≡ with_seat (shows z c) n (show_seat u)
  seat_alone cells words same =
      seat_only cells (λ x h. slot_same x (words x h) (same x h))

  -- and one slot becomes y
  pub seat_and_slot : (s : SlotId) (y : PlainSlot) → s.0 < z.slots → SameCells z c.words ws
      → ((x : SlotId) → x.0 < z.slots → x.0 ≢ s.0 → SameWords z c.words ws x)
      → ((x : SlotId) → x.0 < z.slots → x.0 ≢ s.0 → SameSlot x (view_at c n) u)
      → show_slot z (stepped c n u ws os) s ≡ y
      → shows z (stepped c n u ws os) ≡ with_slot (with_seat (shows z c) n (show_seat u)) s y
  seat_and_slot s y hs cells words same is =
      plain_eq (with_slot (with_seat (shows z c) n (show_seat u)) s y) (shows z d)
      (map-set show_seat c.views n u)
      (each_same z.cells _ _ (λ i h. ap slot_in (cells i h))) refl
      (each_set z.slots s.0 _ _ y hs is
      (λ x h ne. slot_same (record { 0 = x }) (words (record { 0 = x }) h ne) (same (record { 0 = x }) h ne)))
      refl

  -- a seat that shows what it showed, and no slot nor cell that changes
  pub nothing_shown : SameCells z c.words ws
      → ((x : SlotId) → x.0 < z.slots → SameWords z c.words ws x)
      → ((x : SlotId) → x.0 < z.slots → SameSlot x (view_at c n) u)
      → show_seat u ≡ show_seat (view_at c n)
      → shows z (stepped c n u ws os) ≡ shows z c
  nothing_shown cells words same is =
      same_plain (shows z c) _ n (show_seat u) (seat_alone cells words same)
      (is ∙ sym (shown_seat z c n (at_seat z c n so hn)))

-- WORDS THAT STAY
pub words_same : (z : EpochShape) (ws : List ℕ) (x : SlotId) → SameWords z ws ws x
words_same z ws x = record {
  count = refl;
  fields = record { first = refl; second = refl };
  payload = refl;
}

-- a word that isn't one of the slot's
pub words_off : (z : EpochShape) (ws : List ℕ) (p w : ℕ) (x : SlotId)
    → ((k : ℕ) → k < 19 → count_at z x + k ≢ p) → SameWords z ws (set ws p w) x
words_off z ws p w x off = record {
  count = get_or-set_other ws p (count_at z x) w 0 (let o = off 0 (omega arith) in omega arith);
  fields = record {
    first = get_or-set_other ws p (field_at z x 0) w 0 (let o = off 1 (omega arith) in omega arith);
    second = get_or-set_other ws p (field_at z x 1) w 0 (let o = off 2 (omega arith) in omega arith);
  };
  payload = each_same 16 _ _ (λ i h.
      get_or-set_other ws p (payload_at z x i) w 0 (let o = off (3 + i) (omega arith) in omega arith));
}

pub same_view : (x : SlotId) (v u : EpochView) → filling x u.phase ≡ filling x v.phase
    → u.dying ≡ v.dying → u.made ≡ v.made → SameSlot x v u
same_view x v u f d m = record { fill = f; dying = ap (times x) d; made = ap (times x) m }
