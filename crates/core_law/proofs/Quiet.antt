-- Steps after which no slot shows anything else.
use Rattle.std.proofs.Common.{◌≡◌, ◌≢◌, ℕ, ◌+◌, ◌<◌, ◌≤◌, Bool, true, false, List, length, set, refl, ap, sym, ◌∙◌, arith}
use Rattle.std.specs.Prelude.{slice_index, if◌then◌else◌, None}
use Rattle.std.proofs.lemmas.List.{get_or-set_same, get_or-set_other, set-get_or}
use Rattle.core_events.specs.plain_state.declared.slot.SlotId.{SlotId}
use Rattle.core_events.specs.plain_state.Lists.{times}
use Rattle.core_events.specs.plain_state.State.{Plain, PlainSeat, seat_at, with_seat, new_seat}
use Rattle.core_events.specs.declared.shape.Shape.{Shape}
use Rattle.core_events.specs.declared.view.CoreView.{CoreView}
use Rattle.core_events.specs.declared.view.Phase.{Phase}
use Rattle.core_events.specs.Words.{slot_at, note_at, cell_at, weak_cell_at, field_at, weak_field_at, payload_at, strong_at, weak_at, bits_at, bit_in, ticket_at}
use Rattle.core_events.specs.counter_word.Words.{has_zero}
use Rattle.core_events.specs.Runs.{Core, view_at}
use Rattle.core_events.specs.Counts.{strong, signs, barers, fillers, dying_times, baring, filling, is_live_word}
use Rattle.core_events.specs.Shows.{shows, show_seat, show_slot, lives, filled}
use Rattle.core_law.specs.Sound.{Sound}
use Rattle.core_law.proofs.Kit.{total_set, by_slot}
use Rattle.core_law.proofs.Put.{put, at_seat}
use Rattle.core_law.proofs.Frames.{SameFields, SameFrame, slot_made, shows_seat}
use Rattle.core_law.proofs.Ranges.{SameFlags}
use Rattle.core_law.proofs.Stages.{stage_same}

-- a seat that shows what it showed
pub same_plain : (p q : Plain) (n : ℕ) (y : PlainSeat) → q ≡ with_seat p n y → y ≡ seat_at p n → q
    ≡ p
same_plain p q n y e is = e ∙ (ap (with_seat p n) is ∙ back)
  where
    back : with_seat p n (seat_at p n) ≡ p
    back = ap (λ (vs : List PlainSeat). record p { seats = vs }) (set-get_or p.seats n new_seat)

-- a phase that fills nothing
pub unfilled : (p : Phase) (x : SlotId) → filled p ≡ None → baring x p + filling x p ≡ 0
unfilled p x e = grind arith

pub unfilled_if : (b : Bool) (p q : Phase) → filled p ≡ None → filled q ≡ None
    → filled (if b then p else q) ≡ None
unfilled_if true p q e f = e
unfilled_if false p q e f = f

-- a seat's view before and after stand alike to slot x, as far as the plain state shows it
pub record Quiet (x : SlotId) (v u : CoreView) : Type 0 where
  pub claims : baring x u.phase + filling x u.phase ≡ baring x v.phase + filling x v.phase
  pub dying : times x u.dying ≡ times x v.dying
  pub made : times x u.made ≡ times x v.made

pub calm : (v u : CoreView) → u.phase ≡ v.phase → u.dying ≡ v.dying → u.made ≡ v.made
    → (x : SlotId) → Quiet x v u
calm v u p d m x = record {
  claims = ap (λ (q : Phase). baring x q + filling x q) p;
  dying = ap (times x) d;
  made = ap (times x) m;
}

pub fills_nothing : (v u : CoreView) → filled v.phase ≡ None → filled u.phase ≡ None
    → u.dying ≡ v.dying → u.made ≡ v.made → (x : SlotId) → Quiet x v u
fills_nothing v u p q d m x = record {
  claims = unfilled u.phase x q ∙ sym (unfilled v.phase x p);
  dying = ap (times x) d;
  made = ap (times x) m;
}

-- what the plain state shows of slot x by words is the same
pub record SlotSame (z : Shape) (ws ws' : List ℕ) (x : SlotId) : Type 0 where
  pub fields : SameFields z ws ws' x
  pub bit : bit_in x (slice_index ws' (bits_at z x)) ≡ bit_in x (slice_index ws (bits_at z x))
  pub zero : has_zero (slice_index ws' (strong_at z x)) ≡ has_zero (slice_index ws (strong_at z x))
  pub live : is_live_word (slice_index ws' (strong_at z x))
      ≡ is_live_word (slice_index ws (strong_at z x))

-- word p is neither of a cell nor the number of tickets
pub record Outside (z : Shape) (p : ℕ) : Type 0 where
  pub cells : (i : ℕ) → i < z.cells → cell_at z i ≢ p
  pub weak_cells : (i : ℕ) → i < z.weak_cells → weak_cell_at z i ≢ p
  pub tickets : ticket_at z ≢ p

-- it is neither of a field nor of the payload of x
pub record Beside (z : Shape) (p : ℕ) (x : SlotId) : Type 0 where
  pub fields : (i : ℕ) → i < 2 → field_at z x i ≢ p
  pub weak_field : weak_field_at z x ≢ p
  pub payload : (i : ℕ) → i < 16 → payload_at z x i ≢ p

pub same_frame : (z : Shape) (ws : List ℕ) (p w : ℕ) → Outside z p → SameFrame z ws (set ws p w)
same_frame z ws p w off = record {
  cells = λ i h. get_or-set_other ws p (cell_at z i) w 0 (off.cells i h);
  weak_cells = λ i h. get_or-set_other ws p (weak_cell_at z i) w 0 (off.weak_cells i h);
  tickets = get_or-set_other ws p (ticket_at z) w 0 off.tickets;
}

pub same_fields : (z : Shape) (ws : List ℕ) (p w : ℕ) (x : SlotId) → Beside z p x
    → SameFields z ws (set ws p w) x
same_fields z ws p w x off = record {
  fields = λ i h. get_or-set_other ws p (field_at z x i) w 0 (off.fields i h);
  weak_field = get_or-set_other ws p (weak_field_at z x) w 0 off.weak_field;
  payload = λ i h. get_or-set_other ws p (payload_at z x i) w 0 (off.payload i h);
}

pub slot_beside : (z : Shape) (ws : List ℕ) (p w : ℕ) (x : SlotId) → Beside z p x
    → strong_at z x ≢ p → bits_at z x ≢ p → SlotSame z ws (set ws p w) x
slot_beside z ws p w x off a b =
    let e = get_or-set_other ws p (strong_at z x) w 0 a in
    record {
      fields = same_fields z ws p w x off;
      bit = ap (bit_in x) (get_or-set_other ws p (bits_at z x) w 0 b);
      zero = ap has_zero e;
      live = ap is_live_word e;
    }

-- the words of the slots and their bits lie between the cells and the tickets
pub inner : (z : Shape) (p : ℕ) → slot_at z 0 ≤ p → p < ticket_at z → Outside z p
inner z p a b = omega arith

pub strong_beside : (z : Shape) (s x : SlotId) → Beside z (strong_at z s) x
strong_beside z s x = omega arith

pub weak_beside : (z : Shape) (s x : SlotId) → Beside z (weak_at z s) x
weak_beside z s x = omega arith

-- a word before the slots, or past them
pub front_beside : (z : Shape) (p : ℕ) (x : SlotId) → p < slot_at z 0 → Beside z p x
front_beside z p x h = omega arith

pub past_beside : (z : Shape) (p : ℕ) (x : SlotId) → slot_at z z.slots ≤ p → x.0 < z.slots
    → Beside z p x
past_beside z p x h hx = omega arith

-- the strong word of s is written
pub strong_other : (z : Shape) (ws : List ℕ) (s x : SlotId) (w : ℕ) → s.0 < z.slots → x.0 ≢ s.0
    → SlotSame z ws (set ws (strong_at z s) w) x
strong_other z ws s x w hs ne =
    slot_beside z ws (strong_at z s) w x (strong_beside z s x) (omega arith) (omega arith)

module _ (z : Shape) (c : Core) (n : ℕ) (u : CoreView) (so : Sound z c) (hn : n < z.seats) where
  h : n < length c.views
  h = at_seat z c n so hn

  module _ (ws : List ℕ) where
    abbrev d : Core
    d = record { words = ws; views = set c.views n u }

    pub claimers_move : (x : SlotId)
        → barers (record { words = ws; views = set c.views n u }) x
        + fillers (record { words = ws; views = set c.views n u }) x
        + (baring x (view_at c n).phase + filling x (view_at c n).phase)
        ≡ barers c x + fillers c x + (baring x u.phase + filling x u.phase)
    claimers_move x =
        let a = total_set (λ (v : CoreView). baring x v.phase) c.views n u h in
        let b = total_set (λ (v : CoreView). filling x v.phase) c.views n u h in omega arith

    pub dying_move : (x : SlotId)
        → dying_times (record { words = ws; views = set c.views n u }) x
        + times x (view_at c n).dying ≡ dying_times c x + times x u.dying
    dying_move x = total_set (λ (v : CoreView). times x v.dying) c.views n u h

    pub lives_move : (x : SlotId)
        → lives (record { words = ws; views = set c.views n u }) x + times x (view_at c n).made
        ≡ lives c x + times x u.made
    lives_move x = total_set (λ (v : CoreView). times x v.made) c.views n u h

    -- slot x shows the same
    pub slot_quiet : (x : SlotId) → Quiet x (view_at c n) u → SlotSame z c.words ws x
        → show_slot z (record { words = ws; views = set c.views n u }) x ≡ show_slot z c x
    slot_quiet x q same =
        let a = claimers_move x in
        let b = dying_move x in
        let m = lives_move x in
        let e = q.claims in
        let f = q.dying in
        let g = q.made in
        slot_made z c d x _ _ _ same.fields
        (stage_same (signs z c x) (signs z d x) same.bit (omega arith) (omega arith) same.live)
        same.zero (omega arith)

    -- no slot shows anything else
    pub quiet_step : SameFrame z c.words ws → ((x : SlotId) → x.0 < z.slots → SlotSame z c.words ws x)
        → ((x : SlotId) → Quiet x (view_at c n) u)
        → shows z (record { words = ws; views = set c.views n u })
        ≡ with_seat (shows z c) n (show_seat u)
    quiet_step frame same quiet =
        shows_seat z c d n u refl frame (λ x hx. slot_quiet x (quiet x) (same x hx))

  -- the strong word of s is written, and keeps its flags
  pub strong_quiet : (s : SlotId) (w : ℕ) → s.0 < z.slots → SameFlags (strong z c s) w
      → ((x : SlotId) → Quiet x (view_at c n) u)
      → shows z (put c n u (strong_at z s) w) ≡ with_seat (shows z c) n (show_seat u)
  strong_quiet s w hs flags quiet =
      quiet_step (set c.words (strong_at z s) w)
      (same_frame z c.words (strong_at z s) w (inner z (strong_at z s) (omega arith) (omega arith)))
      (λ x hx. by_slot s x (SlotSame z c.words (set c.words (strong_at z s) w)) here
      (λ ne. strong_other z c.words s x w hs ne)) quiet
    where
      here : SlotSame z c.words (set c.words (strong_at z s) w) s
      here =
          let len = so.words in
          let e = get_or-set_same c.words (strong_at z s) w 0 (omega arith) in
          record {
            fields = same_fields z c.words (strong_at z s) w s (strong_beside z s s);
            bit = ap (bit_in s) (get_or-set_other c.words (strong_at z s) (bits_at z s) w 0 (omega arith));
            zero = ap has_zero e ∙ flags.zero;
            live = ap is_live_word e ∙ flags.live;
          }

  -- the weak word of s is written
  pub weak_quiet : (s : SlotId) (w : ℕ) → s.0 < z.slots → ((x : SlotId) → Quiet x (view_at c n) u)
      → shows z (put c n u (weak_at z s) w) ≡ with_seat (shows z c) n (show_seat u)
  weak_quiet s w hs quiet =
      quiet_step (set c.words (weak_at z s) w)
      (same_frame z c.words (weak_at z s) w (inner z (weak_at z s) (omega arith) (omega arith)))
      (λ x hx. slot_beside z c.words (weak_at z s) w x (weak_beside z s x) (omega arith) (omega arith))
      quiet

  -- an announcement word is written
  pub note_quiet : (j w : ℕ) → j < 4 → ((x : SlotId) → Quiet x (view_at c n) u)
      → shows z (put c n u (note_at n j) w) ≡ with_seat (shows z c) n (show_seat u)
  note_quiet j w hj quiet =
      quiet_step (set c.words (note_at n j) w)
      (same_frame z c.words (note_at n j) w (omega arith))
      (λ x hx. slot_beside z c.words (note_at n j) w x (front_beside z (note_at n j) x (omega arith))
      (omega arith) (omega arith))
      quiet

  -- no word changes
  pub still_quiet : (p : ℕ) → ((x : SlotId) → Quiet x (view_at c n) u)
      → shows z (put c n u p (slice_index c.words p)) ≡ with_seat (shows z c) n (show_seat u)
  still_quiet p quiet =
      rw (set-get_or c.words p 0) (quiet_step c.words (omega arith) (λ x hx. assumption) quiet)
