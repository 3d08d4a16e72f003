-- States that are alike have as many references to each slot, and stay alike where the same is written.
use Rattle.std.proofs.Common.{◌≡◌, ◌≢◌, ⊎_elim, ℕ, ◌<◌, length, get_or, get_or-set_same, set, refl, ap, sym, ◌∙◌, subst, arith, Option, None}
use Rattle.std.specs.Prelude.{◌==◌, Bool, true, false, map, if◌then◌else◌}
use Rattle.std.proofs.lemmas.List.{length-set, map-set}
use Rattle.std.proofs.Math.ListN.{get_or-map}
use Rattle.script_desk.specs.plain_state.declared.act.EventPlace.{EventPlace}
use Rattle.script_desk.specs.plain_state.declared.act.EventPlace.TheVariants.{Cell, Field, WeakCell, WeakField}
use Rattle.script_desk.specs.plain_state.declared.slot.Kind.{Kind}
use Rattle.script_desk.specs.plain_state.declared.slot.Kind.TheVariants.{Strong, Weak, Disposal}
use Rattle.script_desk.specs.plain_state.declared.slot.PlainSlot.{PlainSlot}
use Rattle.script_desk.specs.plain_state.declared.slot.SlotId.{SlotId}
use Rattle.script_desk.specs.plain_state.Lists.{cell_times, entry_times, times}
use Rattle.script_desk.specs.plain_state.Places.{content, with_content, with_field}
use Rattle.script_desk.specs.plain_state.References.{held_in, over_seats, over_slots, own_reference, places, deferrals, strong_fields, strong_refs, weak_fields, weak_refs}
use Rattle.script_desk.specs.plain_state.State.{Plain, PlainSeat, new_seat, seat_at, slot_at, with_seat, with_slot}
use Rattle.script_desk.proofs.Below.plain_state_Changes.{IsThere, slot_other, slot_same}
use Rattle.script_desk.proofs.Below.plain_state_Kit.{cases_slot}
use Rattle.script_desk.proofs.Below.plain_audit_Numbers.{seat_alone}
use Rattle.script_law.specs.Renamings.{IsRenaming, renamed}
use Rattle.script_law.specs.States.{SeatsAlike, SlotsAlike, StatesAlike}
use Rattle.script_law.proofs.Counts.{apart, cells_renamed, held_renamed}
use Rattle.script_law.proofs.Sums.{slots_total, total, total_renamed}

-- a place by the new names
abbrev pub renamed_place : (SlotId → SlotId) → EventPlace → EventPlace
renamed_place to (Cell i) = Cell i
renamed_place to (Field s i) = Field (to s) i
renamed_place to (WeakCell i) = WeakCell i
renamed_place to (WeakField s) = WeakField (to s)

-- a place is there, whatever is written to the seat
pub there_written : (p : Plain) (w : PlainSeat) (place : EventPlace) → IsThere p place → IsThere (with_seat p 0 w) place
there_written p w (Cell i) h = h
there_written p w (Field s i) h = h
there_written p w (WeakCell i) h = h
there_written p w (WeakField s) h = h

-- the fields of a slot, and those of the slot of its new name
pub record FieldsAlike (to : SlotId → SlotId) (x y : PlainSlot) : Type 0 where
  pub first : y.first ≡ renamed to x.first
  pub second : y.second ≡ renamed to x.second
  pub weak_field : y.weak_field ≡ renamed to x.weak_field

pub fields_of : (to : SlotId → SlotId) (x y : PlainSlot) → SlotsAlike to x y → FieldsAlike to x y
fields_of to x y same = record { first = same.first; second = same.second; weak_field = same.weak_field }

module _ (to from : SlotId → SlotId) (n : ℕ) (r : IsRenaming n to from) where
  pub strong_fields_alike : (s : SlotId) (x y : PlainSlot) → FieldsAlike to x y → strong_fields (to s) y ≡ strong_fields s x
  strong_fields_alike s x y same =
      let a = ap (held_in (to s)) same.first ∙ held_renamed to from r.back r.forth s x.first in
      let b = ap (held_in (to s)) same.second ∙ held_renamed to from r.back r.forth s x.second in omega arith

  weak_fields_alike : (s : SlotId) (x y : PlainSlot) → FieldsAlike to x y → weak_fields (to s) y ≡ weak_fields s x
  weak_fields_alike s x y same = ap (held_in (to s)) same.weak_field ∙ held_renamed to from r.back r.forth s x.weak_field

  either_field : (x y : PlainSlot) → SlotsAlike to x y → (first : Bool)
      → (if first then y.first else y.second) ≡ renamed to (if first then x.first else x.second)
  either_field x y same true = same.first
  either_field x y same false = same.second

  -- a number that is read off each slot adds up to the same
  pub slots_alike : (p q : Plain) → n ≡ length p.slots → length q.slots ≡ length p.slots → (f g : PlainSlot → ℕ)
      → ((s : SlotId) → s.0 < n → g (slot_at q (to s)) ≡ f (slot_at p s))
      → over_slots g q.slots ≡ over_slots f p.slots
  slots_alike p q size sizes f g same =
      slots_total g q.slots
      ∙ ap (λ (m : ℕ). total m (λ s. g (slot_at q s))) (sizes ∙ sym size)
      ∙ total_renamed n to from (λ s. f (slot_at p s)) (λ s. g (slot_at q s)) r same
      ∙ ap (λ (m : ℕ). total m (λ s. f (slot_at p s))) size
      ∙ sym (slots_total f p.slots)

  -- where all fields and cells are the same, so are the numbers of places that hold a slot
  pub held_alike : (p q : Plain) → n ≡ length p.slots → length q.slots ≡ length p.slots
      → ((s : SlotId) → FieldsAlike to (slot_at p s) (slot_at q (to s)))
      → q.cells ≡ map (renamed to) p.cells → q.weak_cells ≡ map (renamed to) p.weak_cells
      → (k : Kind) (s : SlotId) → places k q (to s) ≡ places k p s
  held_alike p q size sizes fields cells weak_cells Strong s =
      let a = ap (cell_times (to s)) cells ∙ cells_renamed to from r.back r.forth s p.cells in
      let b = slots_alike p q size sizes (strong_fields s) (strong_fields (to s))
      (λ t h. strong_fields_alike s (slot_at p t) (slot_at q (to t)) (fields t)) in omega arith
  held_alike p q size sizes fields cells weak_cells Weak s =
      let a = ap (cell_times (to s)) weak_cells ∙ cells_renamed to from r.back r.forth s p.weak_cells in
      let b = slots_alike p q size sizes (weak_fields s) (weak_fields (to s))
      (λ t h. weak_fields_alike s (slot_at p t) (slot_at q (to t)) (fields t)) in omega arith
  held_alike p q size sizes fields cells weak_cells Disposal s = refl

  module _ (p q : Plain) (size : n ≡ length p.slots) (alike : StatesAlike to p q) where
    pub places_alike : (k : Kind) (s : SlotId) → places k q (to s) ≡ places k p s
    places_alike =
        held_alike p q size alike.size (λ s. fields_of to (slot_at p s) (slot_at q (to s)) (alike.slots s))
        alike.cells alike.weak_cells

    module _ (one : length p.seats ≡ 1) (other : length q.seats ≡ 1) where
      -- a number that is read off the one seat
      pub seats_alike : (f g : PlainSeat → ℕ) → g (seat_at q 0) ≡ f (seat_at p 0) → over_seats g q.seats ≡ over_seats f p.seats
      seats_alike f g same = seat_alone g q other ∙ same ∙ sym (seat_alone f p one)

      pub deferrals_alike : (k : Kind) (s : SlotId) → deferrals k q (to s) ≡ deferrals k p s
      deferrals_alike k s =
          seats_alike (λ v. entry_times k s v.deferred) (λ v. entry_times k (to s) v.deferred) (alike.seat.deferred k s)

      pub strong_refs_alike : (s : SlotId) → strong_refs q (to s) ≡ strong_refs p s
      strong_refs_alike s =
          let a = seats_alike (λ v. times s v.owned) (λ v. times (to s) v.owned) (alike.seat.owned s) in
          let b = places_alike Strong s in
          let c = deferrals_alike Strong s in omega arith

      pub weak_refs_alike : (s : SlotId) → weak_refs q (to s) ≡ weak_refs p s
      weak_refs_alike s =
          let a = seats_alike (λ v. times s v.weaks) (λ v. times (to s) v.weaks) (alike.seat.weaks s) in
          let b = places_alike Weak s in
          let c = deferrals_alike Weak s in
          let d = ap own_reference (alike.slots s).stage in omega arith

    pub content_alike : (place : EventPlace) → content q (renamed_place to place) ≡ renamed to (content p place)
    content_alike (Cell i) = ap (λ cs. get_or cs i None) alike.cells ∙ get_or-map (renamed to) p.cells i None
    content_alike (WeakCell i) = ap (λ cs. get_or cs i None) alike.weak_cells ∙ get_or-map (renamed to) p.weak_cells i None
    content_alike (Field s i) = either_field (slot_at p s) (slot_at q (to s)) (alike.slots s) (i == 0)
    content_alike (WeakField s) = (alike.slots s).weak_field

    -- the seat is written
    pub seat_alike : (v w : PlainSeat) → 0 < length p.seats → 0 < length q.seats → SeatsAlike to v w
        → StatesAlike to (with_seat p 0 v) (with_seat q 0 w)
    seat_alike v w here there same = record {
      size = alike.size;
      slots = alike.slots;
      cells = alike.cells;
      weak_cells = alike.weak_cells;
      seat =
          subst (λ (x : PlainSeat). SeatsAlike to x (seat_at (with_seat q 0 w) 0)) (sym (get_or-set_same p.seats 0 v new_seat here))
          (subst (SeatsAlike to v) (sym (get_or-set_same q.seats 0 w new_seat there)) same);
    }

    -- a slot is written
    pub slot_alike : (s : SlotId) (x y : PlainSlot) → s.0 < length p.slots → SlotsAlike to x y
        → StatesAlike to (with_slot p s x) (with_slot q (to s) y)
    slot_alike s x y here same = record {
      size = length-set q.slots (to s).0 y ∙ alike.size ∙ sym (length-set p.slots s.0 x);
      slots = λ t. ⊎_elim
          (λ (e : t ≡ s). subst (λ (u : SlotId). SlotsAlike to (slot_at (with_slot p s x) u) (slot_at (with_slot q (to s) y) (to u))) (sym e)
          (subst (λ (z : PlainSlot). SlotsAlike to z (slot_at (with_slot q (to s) y) (to s))) (sym (slot_same p s x here))
          (subst (SlotsAlike to x) (sym (slot_same q (to s) y (there s here))) same)))
          (λ (ne : t.0 ≢ s.0).
          subst (λ (z : PlainSlot). SlotsAlike to z (slot_at (with_slot q (to s) y) (to t))) (sym (slot_other p s x t ne))
          (subst (SlotsAlike to (slot_at p t)) (sym (slot_other q (to s) y (to t) (apart to from r.back r.forth t s ne))) (alike.slots t)))
          (cases_slot t s);
      cells = alike.cells;
      weak_cells = alike.weak_cells;
      seat = alike.seat;
    }
      where
        there : (t : SlotId) → t.0 < length p.slots → (to t).0 < length q.slots
        there t h = let a = r.inside t (omega arith) in let b = alike.size in omega arith

    -- a place is written
    field_alike : (first : Bool) (new : Option SlotId) (x y : PlainSlot) → SlotsAlike to x y
        → SlotsAlike to (if first then record x { first = new } else record x { second = new })
        (if first then record y { first = renamed to new } else record y { second = renamed to new })
    field_alike true new x y same = record {
      stage = same.stage;
      marked = same.marked;
      payload = same.payload;
      first = refl;
      second = same.second;
      weak_field = same.weak_field;
    }
    field_alike false new x y same = record {
      stage = same.stage;
      marked = same.marked;
      payload = same.payload;
      first = same.first;
      second = refl;
      weak_field = same.weak_field;
    }

    pub place_alike : (place : EventPlace) (new : Option SlotId) → IsThere p place
        → StatesAlike to (with_content p place new) (with_content q (renamed_place to place) (renamed to new))
    place_alike (Cell i) new here = record {
      size = alike.size;
      slots = alike.slots;
      cells = ap (λ cs. set cs i (renamed to new)) alike.cells ∙ sym (map-set (renamed to) p.cells i new);
      weak_cells = alike.weak_cells;
      seat = alike.seat;
    }
    place_alike (WeakCell i) new here = record {
      size = alike.size;
      slots = alike.slots;
      cells = alike.cells;
      weak_cells = ap (λ cs. set cs i (renamed to new)) alike.weak_cells ∙ sym (map-set (renamed to) p.weak_cells i new);
      seat = alike.seat;
    }
    place_alike (Field s i) new here =
        slot_alike s (with_field i new (slot_at p s)) (with_field i (renamed to new) (slot_at q (to s))) here
        (field_alike (i == 0) new (slot_at p s) (slot_at q (to s)) (alike.slots s))
    place_alike (WeakField s) new here =
        slot_alike s (record (slot_at p s) { weak_field = new }) (record (slot_at q (to s)) { weak_field = renamed to new }) here (record {
          stage = (alike.slots s).stage;
          marked = (alike.slots s).marked;
          payload = (alike.slots s).payload;
          first = (alike.slots s).first;
          second = (alike.slots s).second;
          weak_field = refl;
        })
