-- What a write into a strong word, a weak word or a word of bits leaves of the other words of each slot.
use Rattle.std.proofs.Common.{◌≡◌, ◌≢◌, ℕ, ◌%◌, ◌<◌, List, length, set, ap, arith}
use Rattle.std.specs.Prelude.{slice_index}
use Rattle.std.proofs.lemmas.List.{get_or-set_same, get_or-set_other}
use Rattle.core_events.specs.plain_state.declared.slot.Kind.TheVariants.{Strong, Weak}
use Rattle.core_events.specs.plain_state.declared.slot.SlotId.{SlotId}
use Rattle.core_events.specs.declared.shape.Shape.{Shape}
use Rattle.core_events.specs.Words.{strong_at, weak_at, bits_at, bit_in}
use Rattle.core_law.proofs.Writes.{OffPlaces, OffNotes, OffBits, strong_off, weak_off, past_off, places_off, fields_sum_off}
use Rattle.core_law.proofs.Bits.{bits_off, bits_other}
use Rattle.core_law.proofs.Put.{SlotWords, SameWords}

-- after a write off the places
wrote : (z : Shape) (ws : List ℕ) (p w : ℕ) (x : SlotId) (st wk bt : ℕ) → OffPlaces z p → x.0 < z.slots
    → slice_index (set ws p w) (strong_at z x) ≡ st → slice_index (set ws p w) (weak_at z x) ≡ wk
    → bit_in x (slice_index (set ws p w) (bits_at z x)) ≡ bt → SlotWords z ws (set ws p w) x st wk bt
wrote z ws p w x st wk bt off hx a b d = record {
  strong = a;
  weak = b;
  bit = d;
  strong_places = places_off z ws p w off Strong x;
  weak_places = places_off z ws p w off Weak x;
  fields = fields_sum_off z ws p w x (λ i l. off.fields x i hx l) (off.weak_fields x hx);
}

-- of a word that is of no counter either, nor has a bit
pub wrote_off : (z : Shape) (ws : List ℕ) (p w : ℕ) (x : SlotId) → OffPlaces z p → x.0 < z.slots
    → strong_at z x ≢ p → weak_at z x ≢ p → bits_at z x ≢ p → SameWords z ws (set ws p w) x
wrote_off z ws p w x off hx st wk bt = wrote z ws p w x _ _ _ off hx
    (get_or-set_other ws p (strong_at z x) w 0 st) (get_or-set_other ws p (weak_at z x) w 0 wk)
    (ap (bit_in x) (get_or-set_other ws p (bits_at z x) w 0 bt))

-- the words of a slot after a write of its strong word
abbrev pub WroteStrong : Shape → List ℕ → SlotId → ℕ → Type 0
WroteStrong z ws s w = SlotWords z ws (set ws (strong_at z s) w) s w (slice_index ws (weak_at z s))
    (bit_in s (slice_index ws (bits_at z s)))

pub strong_before : (z : Shape) (s : SlotId) → s.0 < z.slots → OffBits z (strong_at z s)
strong_before z s h = omega arith

pub weak_before : (z : Shape) (s : SlotId) → s.0 < z.slots → OffBits z (weak_at z s)
weak_before z s h = omega arith

pub wrote_strong : (z : Shape) (ws : List ℕ) (s : SlotId) (w : ℕ) → s.0 < z.slots
    → strong_at z s < length ws → WroteStrong z ws s w
wrote_strong z ws s w hs h = wrote z ws (strong_at z s) w s _ _ _ (strong_off z s).0 hs
    (get_or-set_same ws (strong_at z s) w 0 h)
    (get_or-set_other ws (strong_at z s) (weak_at z s) w 0 (omega arith))
    (bits_off z ws (strong_at z s) w s (strong_before z s hs))

pub strong_other : (z : Shape) (ws : List ℕ) (s : SlotId) (w : ℕ) (x : SlotId) → s.0 < z.slots
    → x.0 < z.slots → x.0 ≢ s.0 → SameWords z ws (set ws (strong_at z s) w) x
strong_other z ws s w x hs hx ne =
    wrote_off z ws (strong_at z s) w x (strong_off z s).0 hx (omega arith) (omega arith) (omega arith)

-- the words of a slot after a write of its weak word
abbrev pub WroteWeak : Shape → List ℕ → SlotId → ℕ → Type 0
WroteWeak z ws s w = SlotWords z ws (set ws (weak_at z s) w) s (slice_index ws (strong_at z s)) w
    (bit_in s (slice_index ws (bits_at z s)))

pub wrote_weak : (z : Shape) (ws : List ℕ) (s : SlotId) (w : ℕ) → s.0 < z.slots
    → weak_at z s < length ws → WroteWeak z ws s w
wrote_weak z ws s w hs h = wrote z ws (weak_at z s) w s _ _ _ (weak_off z s).0 hs
    (get_or-set_other ws (weak_at z s) (strong_at z s) w 0 (omega arith))
    (get_or-set_same ws (weak_at z s) w 0 h)
    (bits_off z ws (weak_at z s) w s (weak_before z s hs))

pub weak_other : (z : Shape) (ws : List ℕ) (s : SlotId) (w : ℕ) (x : SlotId) → s.0 < z.slots
    → x.0 < z.slots → x.0 ≢ s.0 → SameWords z ws (set ws (weak_at z s) w) x
weak_other z ws s w x hs hx ne =
    wrote_off z ws (weak_at z s) w x (weak_off z s).0 hx (omega arith) (omega arith) (omega arith)

-- the words of a slot, and of others, after a write of the word that has its bit
abbrev pub WroteBit : Shape → List ℕ → SlotId → ℕ → Type 0
WroteBit z ws s w = SlotWords z ws (set ws (bits_at z s) w) s (slice_index ws (strong_at z s))
    (slice_index ws (weak_at z s)) (bit_in s w)

pub bits_past : (z : Shape) (s : SlotId) → OffPlaces z (bits_at z s) × OffNotes z (bits_at z s)
bits_past z s = past_off z (bits_at z s) (omega arith)

pub wrote_bit : (z : Shape) (ws : List ℕ) (s : SlotId) (w : ℕ) → s.0 < z.slots
    → bits_at z s < length ws → WroteBit z ws s w
wrote_bit z ws s w hs h = wrote z ws (bits_at z s) w s _ _ _ (bits_past z s).0 hs
    (get_or-set_other ws (bits_at z s) (strong_at z s) w 0 (omega arith))
    (get_or-set_other ws (bits_at z s) (weak_at z s) w 0 (omega arith))
    (ap (bit_in s) (get_or-set_same ws (bits_at z s) w 0 h))

pub bit_other : (z : Shape) (ws : List ℕ) (s : SlotId) (w : ℕ) (x : SlotId) → x.0 < z.slots
    → bits_at z s < length ws → x.0 ≢ s.0
    → (x.0 % 64 ≢ s.0 % 64 → bit_in x w ≡ bit_in x (slice_index ws (bits_at z s)))
    → SameWords z ws (set ws (bits_at z s) w) x
bit_other z ws s w x hx h ne keeps = wrote z ws (bits_at z s) w x _ _ _ (bits_past z s).0 hx
    (get_or-set_other ws (bits_at z s) (strong_at z x) w 0 (omega arith))
    (get_or-set_other ws (bits_at z s) (weak_at z x) w 0 (omega arith))
    (bits_other z ws s x w h ne keeps)
