-- What a step leaves of the plain state: what it shows of the cells, of the tickets, of the other slots, and of the
-- other seats.
use Rattle.std.proofs.Common.{◌≡◌, ◌≢◌, ℕ, ◌<◌, Bool, List, set, map, ap, ◌∙◌, arith}
use Rattle.std.specs.Prelude.{slice_index, Option}
use Rattle.std.proofs.lemmas.List.{map-set}
use Rattle.core_events.specs.plain_state.declared.slot.Stage.{Stage}
use Rattle.core_events.specs.plain_state.declared.slot.SlotId.{SlotId}
use Rattle.core_events.specs.plain_state.declared.slot.PlainSlot.{PlainSlot}
use Rattle.core_events.specs.plain_state.State.{Plain, PlainSeat, with_seat, with_slot}
use Rattle.core_events.specs.declared.shape.Shape.{Shape}
use Rattle.core_events.specs.declared.view.CoreView.{CoreView}
use Rattle.core_events.specs.Words.{each_from, slot_in, cell_at, weak_cell_at, field_at, weak_field_at, payload_at, ticket_at}
use Rattle.core_events.specs.counter_word.Words.{has_zero}
use Rattle.core_events.specs.Runs.{Core}
use Rattle.core_events.specs.Counts.{strong, stage}
use Rattle.core_events.specs.Shows.{shows, show_seat, show_slot, lives}
use Rattle.core_law.proofs.Lists.{each_same, each_set}

-- a list of sixteen words
abbrev pub payload_of : Shape → Core → SlotId → List ℕ
payload_of z c s = each_from 0 16 (λ i. slice_index c.words (payload_at z s i))

-- the words of a slot that no change of a stage or a mark touches
pub record SameFields (z : Shape) (ws ws' : List ℕ) (s : SlotId) : Type 0 where
  pub fields : (i : ℕ) → i < 2 → slice_index ws' (field_at z s i) ≡ slice_index ws (field_at z s i)
  pub weak_field : slice_index ws' (weak_field_at z s) ≡ slice_index ws (weak_field_at z s)
  pub payload :
      (i : ℕ) → i < 16 → slice_index ws' (payload_at z s i) ≡ slice_index ws (payload_at z s i)

abbrev pub slot_with : Stage → Bool → ℕ → List ℕ → Option SlotId → Option SlotId → Option SlotId
    → PlainSlot
slot_with a b l p f g w =
    record { stage = a; marked = b; life = l; payload = p; first = f; second = g; weak_field = w }

pub slot_eq : (a a' : Stage) (b b' : Bool) (l l' : ℕ) (p p' : List ℕ)
    (f f' g g' w w' : Option SlotId)
    → a ≡ a' → b ≡ b' → l ≡ l' → p ≡ p' → f ≡ f' → g ≡ g' → w ≡ w'
    → slot_with a b l p f g w ≡ slot_with a' b' l' p' f' g' w'
slot_eq a a' b b' l l' p p' f f' g g' w w' e1 e2 e3 e4 e5 e6 e7 = cc

-- the stage, the mark and the life are given anew
pub slot_made : (z : Shape) (c d : Core) (s : SlotId) (st : Stage) (mk : Bool) (life' : ℕ)
    → SameFields z c.words d.words s
    → stage z d s ≡ st → has_zero (strong z d s) ≡ mk → lives d s ≡ life'
    → show_slot z d s ≡ record (show_slot z c s) { stage = st; marked = mk; life = life' }
slot_made z c d s st mk life' same e1 e2 e3 =
    slot_eq _ _ _ _ _ _ _ _ _ _ _ _ _ _ e1 e2 e3 (each_same 16 _ _ same.payload)
    (ap slot_in (same.fields 0 (omega arith))) (ap slot_in (same.fields 1 (omega arith)))
    (ap slot_in same.weak_field)

abbrev pub plain_with : List PlainSeat → List (Option SlotId) → List (Option SlotId)
    → List PlainSlot → ℕ → Plain
plain_with a b c d t = record { seats = a; cells = b; weak_cells = c; slots = d; tickets = t }

pub plain_eq : (p q : Plain) → q.seats ≡ p.seats → q.cells ≡ p.cells → q.weak_cells ≡ p.weak_cells
    → q.slots ≡ p.slots → q.tickets ≡ p.tickets → q ≡ p
plain_eq p q e1 e2 e3 e4 e5 = whole p.seats q.seats p.cells q.cells p.weak_cells q.weak_cells
    p.slots q.slots p.tickets q.tickets e1 e2 e3 e4 e5
  where
    whole : (a a' : List PlainSeat) (b b' c c' : List (Option SlotId)) (d d' : List PlainSlot)
        (t t' : ℕ)
        → a' ≡ a → b' ≡ b → c' ≡ c → d' ≡ d → t' ≡ t
        → plain_with a' b' c' d' t' ≡ plain_with a b c d t
    whole a a' b b' c c' d d' t t' f1 f2 f3 f4 f5 = cc

-- the cells and the tickets stay
pub record SameFrame (z : Shape) (ws ws' : List ℕ) : Type 0 where
  pub cells : (i : ℕ) → i < z.cells → slice_index ws' (cell_at z i) ≡ slice_index ws (cell_at z i)
  pub weak_cells :
      (i : ℕ) → i < z.weak_cells → slice_index ws' (weak_cell_at z i) ≡ slice_index ws (weak_cell_at z i)
  pub tickets : slice_index ws' (ticket_at z) ≡ slice_index ws (ticket_at z)

-- seat n's view becomes v, and no slot shows anything else
pub shows_seat : (z : Shape) (c d : Core) (n : ℕ) (v : CoreView) → d.views ≡ set c.views n v
    → SameFrame z c.words d.words
    → ((s : SlotId) → s.0 < z.slots → show_slot z d s ≡ show_slot z c s)
    → shows z d ≡ with_seat (shows z c) n (show_seat v)
shows_seat z c d n v views frame slots =
    plain_eq (with_seat (shows z c) n (show_seat v)) (shows z d)
    (ap (map show_seat) views ∙ map-set show_seat c.views n v)
    (each_same z.cells _ _ (λ i h. ap slot_in (frame.cells i h)))
    (each_same z.weak_cells _ _ (λ i h. ap slot_in (frame.weak_cells i h)))
    (each_same z.slots _ _ (λ x h. slots (record { 0 = x }) h)) frame.tickets

-- and slot s becomes y
pub shows_slot : (z : Shape) (c d : Core) (n : ℕ) (v : CoreView) (s : SlotId) (y : PlainSlot)
    → d.views ≡ set c.views n v
    → SameFrame z c.words d.words → s.0 < z.slots → show_slot z d s ≡ y
    → ((x : SlotId) → x.0 < z.slots → x.0 ≢ s.0 → show_slot z d x ≡ show_slot z c x)
    → shows z d ≡ with_slot (with_seat (shows z c) n (show_seat v)) s y
shows_slot z c d n v s y views frame hs is slots =
    plain_eq (with_slot (with_seat (shows z c) n (show_seat v)) s y) (shows z d)
    (ap (map show_seat) views ∙ map-set show_seat c.views n v)
    (each_same z.cells _ _ (λ i h. ap slot_in (frame.cells i h)))
    (each_same z.weak_cells _ _ (λ i h. ap slot_in (frame.weak_cells i h)))
    (each_set z.slots s.0 _ _ y hs is (λ x h ne. slots (record { 0 = x }) h ne)) frame.tickets
