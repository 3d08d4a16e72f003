-- A desk whose handles are given up, one after the other.
use Rattle.std.proofs.Common.{◌≡◌, ℕ, ◌<◌, true, false, List, [], ◌∷◌, length, refl, ap, sym, ◌∙◌, subst, arith, None}
use Rattle.std.specs.List.{sum_by}
use Rattle.std.proofs.lemmas.List.{length-set, length-replicate, get_or-set_same, set-get_or, set-set}
use Rattle.std.proofs.lemmas.List.Sums.{sum_by-cons}
use Rattle.plain_audit.specs.plain_state.declared.slot.Kind.TheVariants as kind
use Rattle.plain_audit.specs.plain_state.declared.slot.SlotId.{SlotId}
use Rattle.plain_audit.specs.plain_state.Lists.{Entry, times, entry_times}
use Rattle.plain_audit.specs.plain_state.State.{Plain, PlainSeat, new_seat, new_slot, seat_at, with_seat, empty}
use Rattle.plain_audit.specs.plain_state.Steps.{Does}
use Rattle.plain_audit.proofs.Below.plain_state_Kit.{held_self, times_none, times_cons, entry_none, entry_cons}
use Rattle.script_desk.specs.declared.handle.Handle.{Handle}
use Rattle.script_desk.specs.declared.handle.Handle.TheVariants.{Strong, Weak, Snapshot}
use Rattle.script_desk.specs.Desks.{Names, Maker, without_handles}
use Rattle.script_desk.specs.Holding.{owned_by, weakly_owned_by, announced_by, not_strong, HoldsFor, HasHandle, Kept, giving}
use Rattle.script_desk.proofs.Gaining.{gives_fewer}

-- p with the three lists of v for its seat's
abbrev pub with_hands : Plain → PlainSeat → Plain
with_hands p v = with_seat p 0 (record (seat_at p 0) { owned = v.owned; weaks = v.weaks; snapshots = v.snapshots })

-- a list in which nothing stands
none_owned : (xs : List SlotId) → ((s : SlotId) → times s xs ≡ 0) → xs ≡ []
none_owned [] h = refl
none_owned (x ∷ xs) h = absurd (omega (arith, h x, times_cons x x xs, held_self x))

none_announced : (es : List Entry) → ((s : SlotId) → entry_times kind.Strong s es ≡ 0) → ((s : SlotId) → not_strong s es ≡ 0) → es ≡ []
none_announced [] h g = refl
none_announced ((kind.Strong, s) ∷ es) h g = absurd (omega (arith, h s, entry_cons kind.Strong s (kind.Strong, s) es, held_self s))
none_announced ((kind.Weak, s) ∷ es) h g = absurd (omega (arith, g s, entry_cons kind.Weak s (kind.Weak, s) es, held_self s))
none_announced ((kind.Disposal, s) ∷ es) h g = absurd (omega (arith, g s, entry_cons kind.Disposal s (kind.Disposal, s) es, held_self s))

-- at first
pub hands_first : (p : Plain) → p ≡ with_hands p (seat_at p 0)
hands_first p = ap (λ (vs : List PlainSeat). record p { seats = vs }) (sym (set-get_or p.seats 0 new_seat))

-- at last
pub hands_last : (p q : Plain) → HoldsFor q [] → q ≡ with_hands p (seat_at q 0) → q ≡ without_handles p
hands_last p q holds e =
    let owned = none_owned (seat_at q 0).owned holds.owned in
    let weaks = none_owned (seat_at q 0).weaks holds.weaks in
    let snapshots = none_announced (seat_at q 0).snapshots holds.snapshots holds.weak_snapshots in
    e ∙ ap (λ (xs : List SlotId). with_seat p 0 (record (seat_at p 0) { owned = xs; weaks = (seat_at q 0).weaks; snapshots = (seat_at q 0).snapshots })) owned
    ∙ ap (λ (xs : List SlotId). with_seat p 0 (record (seat_at p 0) { owned = []; weaks = xs; snapshots = (seat_at q 0).snapshots })) weaks
    ∙ ap (λ (es : List Entry). with_seat p 0 (record (seat_at p 0) { owned = []; weaks = []; snapshots = es })) snapshots

-- one more is given up
hands_step : (p q r : Plain) (w : PlainSeat) → q ≡ with_hands p (seat_at q 0) → 0 < length q.seats → r ≡ with_seat q 0 w
    → w ≡ record (seat_at q 0) { owned = w.owned; weaks = w.weaks; snapshots = w.snapshots } → r ≡ with_hands p (seat_at r 0)
hands_step p q r w e there f g =
    let v : PlainSeat = seat_at q 0 in
    let u : PlainSeat = record (seat_at p 0) { owned = v.owned; weaks = v.weaks; snapshots = v.snapshots } in
    let here : 0 < length p.seats = omega (arith, there, ap (λ (x : Plain). length x.seats) e, length-set p.seats 0 u) in
    let is : v ≡ u = ap (λ (x : Plain). seat_at x 0) e ∙ get_or-set_same p.seats 0 u new_seat here in
    let lists : PlainSeat → PlainSeat = λ x. record x { owned = w.owned; weaks = w.weaks; snapshots = w.snapshots } in
    let over : r ≡ with_seat p 0 w
    = f ∙ ap (λ (x : Plain). with_seat x 0 w) e ∙ ap (λ (vs : List PlainSeat). record p { seats = vs }) (set-set p.seats 0 u w) in
    let seat : seat_at r 0 ≡ w = ap (λ (x : Plain). seat_at x 0) over ∙ get_or-set_same p.seats 0 w new_seat here in
    over ∙ ap (with_seat p 0) (g ∙ ap lists is) ∙ ap (with_hands p) (sym seat)

pub hands_given : (p q r : Plain) (h : Handle) → q ≡ with_hands p (seat_at q 0) → Does q 0 (giving h) 0 r → r ≡ with_hands p (seat_at r 0)
hands_given p q r (Strong s) e (here, (xs, l, z, f)) = hands_step p q r (record (seat_at q 0) { owned = xs }) e here.0 f refl
hands_given p q r (Weak s) e (here, (xs, l, z, f)) = hands_step p q r (record (seat_at q 0) { weaks = xs }) e here.0 f refl
hands_given p q r (Snapshot (s, true)) e (here, (xs, l, z, f)) = hands_step p q r (record (seat_at q 0) { owned = xs }) e here.0 f refl
hands_given p q r (Snapshot (s, false)) e (here, (es, l, z, f)) = hands_step p q r (record (seat_at q 0) { snapshots = es }) e here.0 f refl

-- the first of some handles
pub has_first : (q : Plain) (handles rest : List Handle) (h : Handle) → HoldsFor q handles → handles ≡ h ∷ rest → HasHandle q h
has_first q handles rest (Strong s) k e = omega (arith, k.owned s, ap (sum_by (owned_by s)) e, sum_by-cons (owned_by s) (Strong s) rest, held_self s)
has_first q handles rest (Weak s) k e = omega (arith, k.weaks s, ap (sum_by (weakly_owned_by s)) e, sum_by-cons (weakly_owned_by s) (Weak s) rest, held_self s)
has_first q handles rest (Snapshot (s, true)) k e =
    omega (arith, k.owned s, ap (sum_by (owned_by s)) e, sum_by-cons (owned_by s) (Snapshot (s, true)) rest, held_self s)
has_first q handles rest (Snapshot (s, false)) k e =
    omega (arith, k.snapshots s, ap (sum_by (announced_by s)) e, sum_by-cons (announced_by s) (Snapshot (s, false)) rest, held_self s)

pub holds_rest : (q r : Plain) (handles rest : List Handle) (h : Handle) → HoldsFor q handles → handles ≡ h ∷ rest → Does q 0 (giving h) 0 r → HoldsFor r rest
holds_rest q r handles rest h k e d =
    let m = gives_fewer q r h d in
    record {
      owned = λ s. omega (arith, m.owned s, k.owned s, ap (sum_by (owned_by s)) e, sum_by-cons (owned_by s) h rest);
      weaks = λ s. omega (arith, m.weaks s, k.weaks s, ap (sum_by (weakly_owned_by s)) e, sum_by-cons (weakly_owned_by s) h rest);
      snapshots = λ s. omega (arith, m.snapshots s, k.snapshots s, ap (sum_by (announced_by s)) e, sum_by-cons (announced_by s) h rest);
      weak_snapshots = λ s. sym (m.weak_snapshots s) ∙ k.weak_snapshots s;
    }

-- an empty heap has what no handles need
pub holds_none : (slots cells weak_cells : ℕ) → HoldsFor (empty 1 slots cells weak_cells) []
holds_none slots cells weak_cells = record {
  owned = λ s. times_none s;
  weaks = λ s. times_none s;
  snapshots = λ s. entry_none kind.Strong s;
  weak_snapshots = λ s. omega (arith, entry_none kind.Weak s, entry_none kind.Disposal s);
}

pub kept_open : (slots cells weak_cells : ℕ) (p : Plain) (names : Names) (made : List Maker) → p ≡ empty 1 slots cells weak_cells → names ≡ []
    → length made ≡ slots → Kept p names made cells weak_cells
kept_open slots cells weak_cells p names made e f size =
    subst (λ (q : Plain). Kept q names made cells weak_cells) (sym e)
    (subst (λ (ns : Names). Kept (empty 1 slots cells weak_cells) ns made cells weak_cells) (sym f)
    (record {
      holds = holds_none slots cells weak_cells;
      makers = size ∙ sym (length-replicate slots new_slot);
      cells = sym (length-replicate cells None);
      weak_cells = sym (length-replicate weak_cells None);
    }))
