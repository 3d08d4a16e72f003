-- A field of a dying slot that is null stays null: only who holds a slot writes into its fields, and what is held is
-- live; who clears a field of a dying slot leaves it null.
use Rattle.std.proofs.Common.{◌≡◌, ◌≢◌, ⊎_elim, ℕ, ◌<◌, ◌≤◌, List, length, set, refl, ap, sym, ◌∙◌, arith}
use Rattle.std.specs.Prelude.{slice_index}
use Rattle.std.proofs.lemmas.List.{get_or-set_same, get_or-set_other, set-get_or, set_past}
use Rattle.std.proofs.lemmas.Bool.{cases_eq, cases_lt}
use Rattle.plain_protocol.specs.plain_state.declared.act.EventPlace.{EventPlace}
use Rattle.plain_protocol.specs.plain_state.declared.act.EventPlace.TheVariants.{Cell, Field, WeakCell, WeakField}
use Rattle.plain_protocol.specs.plain_state.declared.slot.SlotId.{SlotId}
use Rattle.plain_protocol.specs.plain_state.Lists.{times}
use Rattle.core_law.specs.core_events.Views.{of_slot}
use Rattle.core_law.proofs.Kit.{slot_eq}
use Rattle.epoch_core.specs.declared.act.EpochAct.{EpochAct}
use Rattle.epoch_core.specs.declared.act.EpochAct.TheVariants as act
use Rattle.epoch_core.specs.declared.shape.EpochShape.{EpochShape}
use Rattle.epoch_core.specs.declared.view.EpochView.{EpochView}
use Rattle.epoch_core.specs.Counts.{adds_used}
use Rattle.epoch_core.specs.Runs.{Core, after, view_at}
use Rattle.epoch_core.specs.Slots.{numbers}
use Rattle.epoch_core.specs.Sound.{Sound}
use Rattle.epoch_core.specs.Steps.{May}
use Rattle.epoch_core.specs.Views.{Holds, IsOpen, slot_of}
use Rattle.epoch_core.specs.Words.{count_at, field_at, payload_at, place_at}
use Rattle.epoch_core.proofs.Held.{held_of, held_refs}
use Rattle.epoch_core.proofs.Kit.{total_at}

-- a word that isn't written, or becomes 0, is 0 still
null_stays : (ws : List ℕ) (p w f : ℕ) → (p ≡ f → w ≡ 0) → slice_index ws f ≡ 0
    → slice_index (set ws p w) f ≡ 0
null_stays ws p w f writes null = ⊎_elim
    (λ (there : f < length ws). ⊎_elim
    (λ (e : p ≡ f).
    ap (λ (k : ℕ). slice_index (set ws k w) f) e
    ∙ (get_or-set_same ws f w 0 there ∙ writes e))
    (λ (ne : p ≢ f). get_or-set_other ws p f w 0 (λ e. ne (sym e)) ∙ null)
    (cases_eq p f))
    (λ (past : length ws ≤ f). ⊎_elim
    (λ (e : p ≡ f). ap (λ (xs : List ℕ). slice_index xs f) (set_past ws p w (omega arith)) ∙ null)
    (λ (ne : p ≢ f). get_or-set_other ws p f w 0 (λ e. ne (sym e)) ∙ null)
    (cases_eq p f))
    (cases_lt f (length ws))

module _ (z : EpochShape) (c : Core) (so : Sound z c) (n : ℕ) (hn : n < z.seats) (s : SlotId) (i : ℕ)
    (hs : s.0 < z.slots) (hi : i < 2) (unheld : Holds (view_at c n) s → ⊥) where
  abbrev v : EpochView
  v = view_at c n

  -- an open place isn't the field
  open_other : (q : EventPlace) → IsOpen z v q → place_at z q ≢ field_at z s i
  open_other (Cell k) is e = omega arith
  open_other (Field x k) is e =
      let h = is.0 in
      let same : x.0 ≡ s.0 = omega arith in
      let slot : s ≡ x = slot_eq s x (sym same) in
      unheld (rw slot is.1)
  open_other (WeakCell k) is e = absurd is
  open_other (WeakField x) is e = absurd is

  -- an act that finds a word writes it back
  read_stays : (p : ℕ) → slice_index c.words (field_at z s i) ≡ 0
      → slice_index (set c.words p (slice_index c.words p)) (field_at z s i) ≡ 0
  read_stays p null = ap (λ (ws : List ℕ). slice_index ws (field_at z s i)) (set-get_or c.words p 0) ∙ null

  off : (p w : ℕ) → p ≢ field_at z s i → slice_index c.words (field_at z s i) ≡ 0
      → slice_index (set c.words p w) (field_at z s i) ≡ 0
  off p w ne null = null_stays c.words p w (field_at z s i) (λ e. absurd (ne e)) null

  count_other : (x : SlotId) → count_at z x ≢ field_at z s i
  count_other x = omega arith

  pub field_stays : (a : EpochAct) → May z a v → slice_index c.words (field_at z s i) ≡ 0
      → slice_index (after z c n a).words (field_at z s i) ≡ 0
  field_stays (act.Claim x) may null = off _ _ (count_other x) null
  field_stays (act.Fill k x) may null = off _ _
      (λ e.
      let slot : of_slot (λ t. payload_at z t k) (slot_of v.phase) ≡ payload_at z may.0.0 k =
      ap (λ o. of_slot (λ t. payload_at z t k) o) (ap slot_of may.0.1) in
      let h = may.1 in omega arith) null
  field_stays act.Start may null = off _ _
      (λ e.
      let slot : of_slot (count_at z) (slot_of v.phase) ≡ count_at z may.0 =
      ap (λ o. of_slot (count_at z) o) (ap slot_of may.1) in omega arith) null
  field_stays (act.See x k) may null = read_stays _ null
  field_stays (act.Add x) may null = off _ _ (count_other x) null
  field_stays (act.Drop x) may null = off _ _ (count_other x) null
  field_stays (act.Pay d) may null = off _ _ (count_other d.slot) null
  field_stays (act.Free x) may null = off _ _ (count_other x) null
  field_stays (act.Look q) may null = read_stays _ null
  field_stays (act.Swap q new) may null = off _ _ (open_other q may.1) null
  field_stays (act.Cas q old new) may null = off _ _ (open_other q may.1) null
  field_stays (act.Clear x k) may null =
      null_stays c.words (field_at z x k) 0 (field_at z s i) (λ e. refl) null
  field_stays act.Date may null = read_stays _ null
  field_stays act.Enter may null = read_stays _ null
  field_stays act.Open may null = off _ _ (let e = (so.seats n hn).number in omega arith) null
  field_stays act.Exit may null = off _ _ (let e = (so.seats n hn).number in omega arith) null
  field_stays act.Flush may null = read_stays _ null
  field_stays act.Scan may null = read_stays _ null
  field_stays act.Advance may null = off _ _ (omega arith) null
  field_stays (act.Leave j) may null = read_stays _ null

-- a slot in a dying list nobody holds
pub dying_unheld : (z : EpochShape) (c : Core) (so : Sound z c) (m n : ℕ) (s : SlotId) → m < z.seats
    → n < z.seats → s.0 < z.slots → 0 < times s (view_at c m).dying → Holds (view_at c n) s → ⊥
dying_unheld z c so m n s hm hn hs dies held =
    let e = so.views in
    let d = total_at (λ (u : EpochView). times s u.dying) c.views m (omega arith) in
    let l = held_of (adds_used c) (numbers z c s) (so.slots s hs) (omega arith) in
    let none = l.refs in
    let r = held_refs z c n s so hn held in absurd (omega arith)
