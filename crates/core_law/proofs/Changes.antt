-- Steps after which one slot shows another stage.
use Rattle.std.proofs.Common.{◌≡◌, ◌≢◌, ℕ, ◌%◌, ◌<◌, Bool, List, length, set, refl, ap, ◌∙◌, arith}
use Rattle.std.specs.Prelude.{slice_index}
use Rattle.std.proofs.lemmas.List.{get_or-set_same, get_or-set_other}
use Rattle.core_events.specs.plain_state.declared.slot.Stage.{Stage}
use Rattle.core_events.specs.plain_state.declared.slot.SlotId.{SlotId}
use Rattle.core_events.specs.plain_state.State.{with_seat, with_slot}
use Rattle.core_events.specs.declared.shape.Shape.{Shape}
use Rattle.core_events.specs.declared.view.CoreView.{CoreView}
use Rattle.core_events.specs.Words.{strong_at, weak_at, bits_at, bit_in}
use Rattle.core_events.specs.counter_word.Words.{has_zero}
use Rattle.core_events.specs.Runs.{Core, view_at}
use Rattle.core_events.specs.Counts.{strong, stage, is_live_word}
use Rattle.core_events.specs.Shows.{shows, show_seat, show_slot, lives}
use Rattle.core_law.specs.Sound.{Sound}
use Rattle.core_law.proofs.Bits.{bits_bound, bits_other}
use Rattle.core_law.proofs.Put.{put}
use Rattle.core_law.proofs.Frames.{SameFields, SameFrame, slot_made, shows_slot}
use Rattle.core_law.proofs.Quiet.{Quiet, SlotSame, same_frame, same_fields, slot_beside, strong_other, strong_beside, weak_beside, past_beside, inner, slot_quiet}

-- a word of bits is written, and slot x has its bit as before
pub bit_written : (z : Shape) (c : Core) (s x : SlotId) (w : ℕ) → s.0 < z.slots → x.0 < z.slots
    → bit_in x (slice_index (set c.words (bits_at z s) w) (bits_at z x))
    ≡ bit_in x (slice_index c.words (bits_at z x))
    → SlotSame z c.words (set c.words (bits_at z s) w) x
bit_written z c s x w hs hx same =
    let e = get_or-set_other c.words (bits_at z s) (strong_at z x) w 0 (omega arith) in
    record {
      fields = same_fields z c.words (bits_at z s) w x (past_beside z (bits_at z s) x (omega arith) hx);
      bit = same;
      zero = ap has_zero e;
      live = ap is_live_word e;
    }

pub bits_there : (z : Shape) (c : Core) (s : SlotId) → Sound z c → s.0 < z.slots
    → bits_at z s < length c.words
bits_there z c s so hs = let len = so.words in let b = bits_bound z s hs in omega arith

module _ (z : Shape) (c : Core) (n : ℕ) (u : CoreView) (s : SlotId) (so : Sound z c)
    (hn : n < z.seats) (hs : s.0 < z.slots)
    (quiet : (x : SlotId) → x.0 ≢ s.0 → Quiet x (view_at c n) u) where
  -- the other slots stay, and slot s shows this
  changes : (ws : List ℕ) (st : Stage) (mk : Bool) (life' : ℕ)
      → SameFrame z c.words ws → SameFields z c.words ws s
      → ((x : SlotId) → x.0 < z.slots → x.0 ≢ s.0 → SlotSame z c.words ws x)
      → stage z (record { words = ws; views = set c.views n u }) s ≡ st
      → has_zero (slice_index ws (strong_at z s)) ≡ mk
      → lives (record { words = ws; views = set c.views n u }) s ≡ life'
      → shows z (record { words = ws; views = set c.views n u })
      ≡ with_slot (with_seat (shows z c) n (show_seat u)) s
      (record (show_slot z c s) { stage = st; marked = mk; life = life' })
  changes ws st mk life' frame fields others e1 e2 e3 =
      let d : Core = record { words = ws; views = set c.views n u } in
      shows_slot z c d n u s _ refl frame hs (slot_made z c d s st mk life' fields e1 e2 e3)
      (λ x hx ne. slot_quiet z c n u so hn ws x (quiet x ne) (others x hx ne))

  pub strong_changes : (w : ℕ) (st : Stage) (mk : Bool) (life' : ℕ)
      → stage z (put c n u (strong_at z s) w) s ≡ st → has_zero w ≡ mk
      → lives (put c n u (strong_at z s) w) s ≡ life'
      → shows z (put c n u (strong_at z s) w)
      ≡ with_slot (with_seat (shows z c) n (show_seat u)) s
      (record (show_slot z c s) { stage = st; marked = mk; life = life' })
  strong_changes w st mk life' e1 e2 e3 =
      let len = so.words in
      changes (set c.words (strong_at z s) w) st mk life'
      (same_frame z c.words (strong_at z s) w (inner z (strong_at z s) (omega arith) (omega arith)))
      (same_fields z c.words (strong_at z s) w s (strong_beside z s s))
      (λ x hx ne. strong_other z c.words s x w hs ne) e1
      (ap has_zero (get_or-set_same c.words (strong_at z s) w 0 (omega arith)) ∙ e2) e3

  pub weak_changes : (w : ℕ) (st : Stage)
      → stage z (put c n u (weak_at z s) w) s ≡ st → lives (put c n u (weak_at z s) w) s ≡ lives c s
      → shows z (put c n u (weak_at z s) w)
      ≡ with_slot (with_seat (shows z c) n (show_seat u)) s (record (show_slot z c s) { stage = st })
  weak_changes w st e1 e3 =
      changes (set c.words (weak_at z s) w) st (has_zero (strong z c s)) (lives c s)
      (same_frame z c.words (weak_at z s) w (inner z (weak_at z s) (omega arith) (omega arith)))
      (same_fields z c.words (weak_at z s) w s (weak_beside z s s))
      (λ x hx ne. slot_beside z c.words (weak_at z s) w x (weak_beside z s x) (omega arith) (omega arith))
      e1
      (ap has_zero (get_or-set_other c.words (weak_at z s) (strong_at z s) w 0 (omega arith))) e3

  -- the word that has the bit of s is written, and keeps the other bits
  pub bit_changes : (w : ℕ) (st : Stage)
      → ((x : SlotId) → x.0 % 64 ≢ s.0 % 64
      → bit_in x w ≡ bit_in x (slice_index c.words (bits_at z s)))
      → stage z (put c n u (bits_at z s) w) s ≡ st → lives (put c n u (bits_at z s) w) s ≡ lives c s
      → shows z (put c n u (bits_at z s) w)
      ≡ with_slot (with_seat (shows z c) n (show_seat u)) s (record (show_slot z c s) { stage = st })
  bit_changes w st keeps e1 e3 =
      let b = bits_bound z s hs in
      changes (set c.words (bits_at z s) w) st (has_zero (strong z c s)) (lives c s)
      (same_frame z c.words (bits_at z s) w (inner z (bits_at z s) (omega arith) (omega arith)))
      (same_fields z c.words (bits_at z s) w s (past_beside z (bits_at z s) s (omega arith) hs))
      (λ x hx ne. bit_written z c s x w hs hx
      (bits_other z c.words s x w (bits_there z c s so hs) ne (keeps x))) e1
      (ap has_zero (get_or-set_other c.words (bits_at z s) (strong_at z s) w 0 (omega arith))) e3
