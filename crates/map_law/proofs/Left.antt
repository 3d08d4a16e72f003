-- Who has left: no step but a leave changes it.
use Rattle.std.proofs.Common.{◌≡◌, ◌≢◌, ⊎_elim, ℕ, List, length, get_or, set, refl, ap, sym, ◌∙◌, Option, Some, None}
use Rattle.std.proofs.lemmas.Bool.{cases_eq, cases_lt}
use Rattle.plain_protocol.specs.plain_state.State.{Plain, PlainSeat, seat_at, new_seat}
use Rattle.plain_protocol.specs.plain_state.Steps.{Does, Replaces}
use Rattle.plain_protocol.specs.plain_state.declared.slot.SlotId.{SlotId}
use Rattle.plain_protocol.specs.plain_state.declared.act.EventPlace.{EventPlace}
use Rattle.plain_protocol.specs.plain_state.declared.act.EventPlace.TheVariants.{Cell, Field, WeakCell, WeakField}
use Rattle.plain_protocol.specs.plain_state.declared.act.PlainAct.{PlainAct}
use Rattle.plain_protocol.specs.plain_state.declared.act.PlainAct.TheVariants as act
use Rattle.std.proofs.lemmas.List.{get_or-set_same, get_or-set_other, set_past, length-set}
use Rattle.plain_protocol.specs.plain_state.Places.{with_content, place_kind}
use Rattle.plain_protocol.specs.plain_state.Steps.{GivesUp}
use Rattle.plain_protocol.specs.plain_state.declared.slot.Kind.{Kind}
use Rattle.plain_protocol.specs.plain_state.declared.slot.Kind.TheVariants.{Strong, Weak, Disposal}

-- a write of a seat that doesn't say that it leaves
pub left_with : (xs : List PlainSeat) (n : ℕ) (v : PlainSeat) → v.left ≡ (get_or xs n new_seat).left
    → (m : ℕ) → (get_or (set xs n v) m new_seat).left ≡ (get_or xs m new_seat).left
left_with xs n v same m = ⊎_elim
    (λ e. ⊎_elim
    (λ low. ap (λ z. (get_or (set xs n v) z new_seat).left) e
    ∙ (ap (λ (z : PlainSeat). z.left) (get_or-set_same xs n v new_seat low)
    ∙ (same ∙ ap (λ z. (get_or xs z new_seat).left) (sym e))))
    (λ past. ap (λ z. (get_or z m new_seat).left) (set_past xs n v past)) (cases_lt n (length xs)))
    (λ ne. ap (λ (z : PlainSeat). z.left) (get_or-set_other xs n m v new_seat ne)) (cases_eq m n)

pub record LeftSame (p q : Plain) : Type 0 where
  pub seats : length q.seats ≡ length p.seats
  pub left : (m : ℕ) → (seat_at q m).left ≡ (seat_at p m).left

same_seats : (p q : Plain) → q.seats ≡ p.seats → LeftSame p q
same_seats p q e = record {
  seats = ap (λ (l : List PlainSeat). length l) e;
  left = λ m. ap (λ z. (get_or z m new_seat).left) e;
}

by_seat : (p q : Plain) (n : ℕ) (v : PlainSeat) → q.seats ≡ set p.seats n v → v.left ≡ (seat_at p n).left
    → LeftSame p q
by_seat p q n v e same = record {
  seats = ap (λ (l : List PlainSeat). length l) e
      ∙ length-set p.seats n v;
  left = λ m. ap (λ z. (get_or z m new_seat).left) e
      ∙ left_with p.seats n v same m;
}

pub seats_of : (p q : Plain) → q ≡ p → q.seats ≡ p.seats
seats_of p q e = ap (λ (z : Plain). z.seats) e

content_seats : (r : Plain) (at : EventPlace) (new : Option SlotId)
    → (with_content r at new).seats ≡ r.seats
content_seats r (Cell c) new = refl
content_seats r (Field s i) new = refl
content_seats r (WeakCell c) new = refl
content_seats r (WeakField s) new = refl

gives_left : (k : Kind) (new : Option SlotId) (v w : PlainSeat) → GivesUp k new v w → w.left ≡ v.left
gives_left Strong None v w g = ap (λ (z : PlainSeat). z.left) g
gives_left Weak None v w g = ap (λ (z : PlainSeat). z.left) g
gives_left Strong (Some s) v w g = ap (λ (z : PlainSeat). z.left) g.2
gives_left Weak (Some s) v w g = ap (λ (z : PlainSeat). z.left) g.2
gives_left Disposal None v w g = ap (λ (z : PlainSeat). z.left) g
gives_left Disposal (Some s) v w g = absurd g

replaces_left : (p q : Plain) (n : ℕ) (at : EventPlace) (new : Option SlotId) → Replaces p n at new q
    → LeftSame p q
replaces_left p q n at new r = by_seat p q n _ (seats_of _ q r.2 ∙ content_seats _ at new)
    (gives_left (place_kind at) new (seat_at p n) r.0 r.1)

pub does_left : (p q : Plain) (n : ℕ) (step : PlainAct) (found : ℕ) → ((j : ℕ) → step ≢ act.Leave j)
    → Does p n step found q → LeftSame p q
does_left p q n (act.Claim s) found stay d = by_seat p q n _ (seats_of _ q d.1.4) refl
does_left p q n (act.Fill s i word) found stay d = same_seats p q (seats_of _ q d.1.4)
does_left p q n (act.Make s) found stay d = by_seat p q n _ (seats_of _ q d.1.3) refl
does_left p q n (act.Add s) found stay d = ⊎_elim (λ t. by_seat p q n _ (seats_of _ q t.2) refl)
    (λ t. by_seat p q n _ (seats_of _ q t.2) refl) d.1.1
does_left p q n (act.Drop s) found stay d = by_seat p q n _ (seats_of _ q d.1.3) refl
does_left p q n (act.WeakGain s) found stay d = by_seat p q n _ (seats_of _ q d.1.2) refl
does_left p q n (act.WeakDrop s) found stay d = by_seat p q n _ (seats_of _ q d.1.3) refl
does_left p q n (act.Look at) found stay d = same_seats p q (seats_of _ q d.1.2)
does_left p q n (act.Check j at) found stay d = ⊎_elim (λ e. same_seats p q (seats_of _ q e))
    (λ t. by_seat p q n _ (seats_of _ q t.2.2) refl) d.1.2
does_left p q n (act.Alive j) found stay d = ⊎_elim (λ e. same_seats p q (seats_of _ q e.1))
    (λ t. by_seat p q n _ (seats_of _ q t.2.2) refl) d.1.3
does_left p q n (act.EndSnapshot k s) found stay d = by_seat p q n _ (seats_of _ q d.1.3) refl
does_left p q n (act.Replace at new) found stay d = replaces_left p q n at new d.1.2
does_left p q n (act.TryReplace at old new) found stay d =
    ⊎_elim (λ hit. replaces_left p q n at new hit.1) (λ miss. same_seats p q (seats_of _ q miss.1)) d.1.2
does_left p q n (act.Count s) found stay d = same_seats p q (seats_of _ q d.1.2)
does_left p q n (act.Mark s) found stay d = ⊎_elim (λ e. same_seats p q (seats_of _ q e.0))
    (λ e. same_seats p q (seats_of _ q e.2)) d.1.1
does_left p q n (act.WeakCount s) found stay d = same_seats p q (seats_of _ q d.1.2)
does_left p q n (act.See s i) found stay d = same_seats p q (seats_of _ q d.1.3)
does_left p q n (act.Eject k s) found stay d = by_seat p q n _ (seats_of _ q d.1.3) refl
does_left p q n (act.End s) found stay d = by_seat p q n _ (seats_of _ q d.1.3) refl
does_left p q n (act.Clear at) found stay d =
    by_seat p q n _ (seats_of _ q d.1.2 ∙ content_seats _ at None) refl
does_left p q n (act.Destroy s) found stay d = by_seat p q n _ (seats_of _ q d.1.3.2) refl
does_left p q n (act.Give s) found stay d = same_seats p q (seats_of _ q d.1.3)
does_left p q n (act.Leave j) found stay d = absurd (stay j refl)
does_left p q n act.Split found stay d = by_seat p q n _ (seats_of _ q d.1.1.2) refl
does_left p q n act.Ticket found stay d = by_seat p q n _ (seats_of _ q d.1.1) refl
does_left p q n act.Still found stay d = same_seats p q (seats_of _ q d.1.1)
