-- What each plain step does to what the seat has.
use Rattle.std.proofs.Common.{◌≡◌, ◌<◌, List, length, refl, ap, ◌∙◌, Option}
use Rattle.std.specs.Prelude.{slice_index_or}
use Rattle.std.proofs.lemmas.List.{length-set, get_or-set_same}
use Rattle.plain_audit.specs.plain_state.declared.act.EventPlace.{EventPlace}
use Rattle.plain_audit.specs.plain_state.declared.act.EventPlace.TheVariants.{Cell, Field, WeakCell, WeakField}
use Rattle.plain_audit.specs.plain_state.declared.slot.Kind.TheVariants as kind
use Rattle.plain_audit.specs.plain_state.declared.slot.SlotId.{SlotId}
use Rattle.plain_audit.specs.plain_state.Lists.{times, entry_times}
use Rattle.plain_audit.specs.plain_state.Places.{with_content}
use Rattle.plain_audit.specs.plain_state.State.{Plain, PlainSeat, new_seat, seat_at, with_seat}
use Rattle.script_desk.specs.Holding.{not_strong, SameSizes, HasSame}

-- seat 0 after a write
pub seat_written : (p : Plain) (w : PlainSeat) → 0 < length p.seats → seat_at (with_seat p 0 w) 0 ≡ w
seat_written p w there = get_or-set_same p.seats 0 w new_seat there

pub same_sizes : (p q : Plain) (w : PlainSeat) → q ≡ with_seat p 0 w → SameSizes p q
same_sizes p q w e = record {
  slots = ap (λ (r : Plain). length r.slots) e;
  cells = ap (λ (r : Plain). length r.cells) e;
  weak_cells = ap (λ (r : Plain). length r.weak_cells) e;
}

-- what a seat that is written has
pub written : (p q : Plain) (w : PlainSeat) → 0 < length p.seats → q ≡ with_seat p 0 w → seat_at q 0 ≡ w
written p q w there e = ap (λ (r : Plain). seat_at r 0) e ∙ seat_written p w there

-- a seat with the lists of another
pub has_lists : (p q : Plain) (w : PlainSeat) → SameSizes p q → seat_at q 0 ≡ w
    → w.owned ≡ (seat_at p 0).owned → w.weaks ≡ (seat_at p 0).weaks → w.snapshots ≡ (seat_at p 0).snapshots → HasSame p q
has_lists p q w sizes is owned weaks snapshots = record {
  sizes = sizes;
  owned = λ s. ap (λ (v : PlainSeat). times s v.owned) is ∙ ap (times s) owned;
  weaks = λ s. ap (λ (v : PlainSeat). times s v.weaks) is ∙ ap (times s) weaks;
  snapshots = λ s. ap (λ (v : PlainSeat). entry_times kind.Strong s v.snapshots) is ∙ ap (entry_times kind.Strong s) snapshots;
  weak_snapshots = λ s. ap (λ (v : PlainSeat). not_strong s v.snapshots) is ∙ ap (not_strong s) snapshots;
}

pub same_by : (p q : Plain) (w : PlainSeat) → 0 < length p.seats → q ≡ with_seat p 0 w
    → w.owned ≡ (seat_at p 0).owned → w.weaks ≡ (seat_at p 0).weaks → w.snapshots ≡ (seat_at p 0).snapshots → HasSame p q
same_by p q w there e = has_lists p q w (same_sizes p q w e) (written p q w there e)

-- a place's content is no list of the seat
placed_seats : (p : Plain) (place : EventPlace) (new : Option SlotId) → (with_content p place new).seats ≡ p.seats
placed_seats p (Cell i) new = refl
placed_seats p (Field s i) new = refl
placed_seats p (WeakCell i) new = refl
placed_seats p (WeakField s) new = refl

placed_sizes : (p : Plain) (place : EventPlace) (new : Option SlotId) → SameSizes p (with_content p place new)
placed_sizes p (Cell i) new = record { slots = refl; cells = length-set p.cells i new; weak_cells = refl }
placed_sizes p (Field s i) new = record { slots = length-set p.slots s.0 _; cells = refl; weak_cells = refl }
placed_sizes p (WeakCell i) new = record { slots = refl; cells = refl; weak_cells = length-set p.weak_cells i new }
placed_sizes p (WeakField s) new = record { slots = length-set p.slots s.0 _; cells = refl; weak_cells = refl }

-- seat 0 is w, and a place has another content
pub placed : (p q : Plain) (w : PlainSeat) (place : EventPlace) (new : Option SlotId) → 0 < length p.seats
    → q ≡ with_content (with_seat p 0 w) place new → seat_at q 0 ≡ w
placed p q w place new there e =
    ap (λ (r : Plain). seat_at r 0) e
    ∙ ap (λ (vs : List PlainSeat). slice_index_or vs 0 new_seat) (placed_seats (with_seat p 0 w) place new)
    ∙ seat_written p w there

pub placed_same_sizes : (p q : Plain) (w : PlainSeat) (place : EventPlace) (new : Option SlotId)
    → q ≡ with_content (with_seat p 0 w) place new → SameSizes p q
placed_same_sizes p q w place new e =
    let z = placed_sizes (with_seat p 0 w) place new in
    record {
      slots = ap (λ (r : Plain). length r.slots) e ∙ z.slots;
      cells = ap (λ (r : Plain). length r.cells) e ∙ z.cells;
      weak_cells = ap (λ (r : Plain). length r.weak_cells) e ∙ z.weak_cells;
    }
