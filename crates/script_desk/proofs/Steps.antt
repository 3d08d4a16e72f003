-- A heap that settles leaves what the seat has.
use Rattle.std.proofs.Common.{◌≡◌, ℕ, ◌<◌, List, [], ◌∷◌, ◌++◌, length, refl, ap, sym, subst, ◌∙◌, None}
use Rattle.std.proofs.lemmas.List.{length-set}
use Rattle.plain_audit.specs.plain_state.declared.act.EventPlace.{EventPlace}
use Rattle.plain_audit.specs.plain_state.declared.act.PlainAct.{PlainAct}
use Rattle.plain_audit.specs.plain_state.declared.act.PlainAct.TheVariants as act
use Rattle.plain_audit.specs.plain_state.declared.slot.SlotId.{SlotId}
use Rattle.plain_audit.specs.plain_state.declared.slot.PlainSlot.{PlainSlot}
use Rattle.plain_audit.specs.plain_state.State.{Plain, PlainSeat, seat_at, with_seat, with_slot}
use Rattle.plain_audit.specs.plain_state.Places.{place_kind, content}
use Rattle.plain_audit.specs.plain_state.Steps.{Does, joined}
use Rattle.plain_settling.specs.plain_store.Settling.{Settles, SettlesBy, SettlesTo}
use Rattle.script_desk.specs.Holding.{HasSame}
use Rattle.script_desk.proofs.Grows.{has_lists, same_by, seat_written, placed, placed_same_sizes}

pub same_refl : (p : Plain) → HasSame p p
same_refl p = record {
  sizes = record { slots = refl; cells = refl; weak_cells = refl };
  owned = λ s. refl;
  weaks = λ s. refl;
  snapshots = λ s. refl;
  weak_snapshots = λ s. refl;
}

pub same_as : (p q : Plain) → q ≡ p → HasSame p q
same_as p q e = subst (λ (r : Plain). HasSame p r) (sym e) (same_refl p)

pub same_then : (p q r : Plain) → HasSame p q → HasSame q r → HasSame p r
same_then p q r a b = record {
  sizes = record { slots = b.sizes.slots ∙ a.sizes.slots; cells = b.sizes.cells ∙ a.sizes.cells; weak_cells = b.sizes.weak_cells ∙ a.sizes.weak_cells };
  owned = λ s. b.owned s ∙ a.owned s;
  weaks = λ s. b.weaks s ∙ a.weaks s;
  snapshots = λ s. b.snapshots s ∙ a.snapshots s;
  weak_snapshots = λ s. b.weak_snapshots s ∙ a.weak_snapshots s;
}

-- a slot is written, and the seat's lists of handles stay
pub slot_written : (p q : Plain) (w : PlainSeat) (s : SlotId) (y : PlainSlot) → 0 < length p.seats → q ≡ with_slot (with_seat p 0 w) s y
    → w.owned ≡ (seat_at p 0).owned → w.weaks ≡ (seat_at p 0).weaks → w.snapshots ≡ (seat_at p 0).snapshots → HasSame p q
slot_written p q w s y there e =
    has_lists p q w
    (record { slots = ap (λ (r : Plain). length r.slots) e ∙ length-set p.slots s.0 y; cells = ap (λ (r : Plain). length r.cells) e; weak_cells = ap (λ (r : Plain). length r.weak_cells) e })
    (ap (λ (r : Plain). seat_at r 0) e ∙ seat_written p w there)

pub slot_alone : (p q : Plain) (s : SlotId) (y : PlainSlot) → q ≡ with_slot p s y → HasSame p q
slot_alone p q s y e =
    has_lists p q (seat_at p 0)
    (record { slots = ap (λ (r : Plain). length r.slots) e ∙ length-set p.slots s.0 y; cells = ap (λ (r : Plain). length r.cells) e; weak_cells = ap (λ (r : Plain). length r.weak_cells) e })
    (ap (λ (r : Plain). seat_at r 0) e) refl refl refl

clear_same : (p q : Plain) (place : EventPlace) (found : ℕ) → Does p 0 (act.Clear place) found q → HasSame p q
clear_same p q place found (here, (dying, z, e)) =
    let w : PlainSeat = record (seat_at p 0) { deferred = joined (place_kind place) (content p place) (seat_at p 0).deferred } in
    has_lists p q w (placed_same_sizes p q w place None e) (placed p q w place None here.0 e) refl refl refl

settle_step : (p q : Plain) (a : PlainAct) (found : ℕ) → Settles p a q → Does p 0 a found q → HasSame p q
settle_step p q (act.Eject k s) found may (here, (es, l, z, e, covered)) =
    same_by p q (record (seat_at p 0) { deferred = es }) here.0 e refl refl refl
settle_step p q (act.End s) found may (here, (live, dead, z, e)) =
    slot_written p q (record (seat_at p 0) { dying = (seat_at p 0).dying ++ s ∷ [] }) s _ here.0 e refl refl refl
settle_step p q (act.Clear place) found may d = clear_same p q place found d
settle_step p q (act.Destroy s) found may (here, (nulls, under, z, (xs, l, e))) =
    slot_written p q (record (seat_at p 0) { dying = xs }) s _ here.0 e refl refl refl
settle_step p q (act.Give s) found may (here, (husk, none, z, e)) = slot_alone p q s _ e
settle_step p q _ found may d = absurd may

settled_same : (weight : List ℕ → ℕ) (acts : List PlainAct) (p q : Plain) (total : ℕ) → SettlesBy weight acts p total q → HasSame p q
settled_same weight [] p q total (e, z) = same_as p q e
settled_same weight (a ∷ more) p q total (m, found, rest, may, d, s, z) =
    same_then p m q (settle_step p m a found may d) (settled_same weight more m q rest s)

pub settles_same : (weight : List ℕ → ℕ) (p q : Plain) (total : ℕ) → SettlesTo weight p total q → HasSame p q
settles_same weight p q total (acts, s) = settled_same weight acts p q total s
