-- Plain steps that change nothing but what the seat has.
use Rattle.std.proofs.Common.{◌≡◌, ⊎_elim, ℕ, ◌<◌, List, length, ap, sym, ◌∙◌, Some}
use Rattle.std.proofs.lemmas.List.{get_or-set_same, set-get_or, set-set}
use Rattle.protected_loads.specs.plain_state.declared.act.EventPlace.{EventPlace}
use Rattle.protected_loads.specs.plain_state.declared.act.PlainAct.TheVariants as plain
use Rattle.protected_loads.specs.plain_state.declared.slot.Kind.{Kind}
use Rattle.protected_loads.specs.plain_state.declared.slot.SlotId.{SlotId}
use Rattle.protected_loads.specs.plain_state.Lists.{Entry, Gains}
use Rattle.protected_loads.specs.plain_state.Places.{content, place_kind}
use Rattle.protected_loads.specs.plain_state.State.{Plain, PlainSeat, new_seat, seat_at, with_seat}
use Rattle.protected_loads.specs.plain_state.Steps.{Does}

-- q is p, but for what the seat has
abbrev pub Writes : Plain → Plain → Type 0
Writes p q = q ≡ with_seat p 0 (seat_at q 0)

pub writes_seat : (p q : Plain) (w : PlainSeat) → 0 < length p.seats → q ≡ with_seat p 0 w
    → Writes p q
writes_seat p q w there is =
    is
    ∙ ap (with_seat p 0)
    (sym (ap (λ (r : Plain). seat_at r 0) is ∙ get_or-set_same p.seats 0 w new_seat there))

pub writes_none : (p q : Plain) → q ≡ p → Writes p q
writes_none p q same =
    same
    ∙ ap (λ (vs : List PlainSeat). record p { seats = vs }) (sym (set-get_or p.seats 0 new_seat))
    ∙ ap (λ (r : Plain). with_seat p 0 (seat_at r 0)) (sym same)

pub writes_on : (p m q : Plain) → Writes p m → Writes m q → Writes p q
writes_on p m q first second =
    second
    ∙ ap (λ (r : Plain). with_seat r 0 (seat_at q 0)) first
    ∙ ap (λ (vs : List PlainSeat). record p { seats = vs })
    (set-set p.seats 0 (seat_at m 0) (seat_at q 0))

pub check_writes : (p q : Plain) (j : ℕ) (place : EventPlace) (found : ℕ)
    → Does p 0 (plain.Check j place) found q → Writes p q
check_writes p q j place found (here, (readable, word, cases)) =
    ⊎_elim (λ (same : q ≡ p). writes_none p q same) of cases
  where
    of : (s : SlotId) × (content p place ≡ Some s)
        × ((es : List Entry) × Gains (seat_at p 0).snapshots (place_kind place, s) es
        × (q ≡ with_seat p 0 (record (seat_at p 0) { snapshots = es })))
        → Writes p q
    of (s, holds, (es, more, is)) = writes_seat p q _ here.0 is

pub add_writes : (p q : Plain) (s : SlotId) (found : ℕ) → Does p 0 (plain.Add s) found q
    → Writes p q
add_writes p q s found (here, (held, cases)) =
    ⊎_elim
    (λ up. writes_seat p q _ here.0 up.2)
    (λ dead. writes_seat p q _ here.0 dead.2)
    cases

pub weak_gain_writes : (p q : Plain) (s : SlotId) (found : ℕ)
    → Does p 0 (plain.WeakGain s) found q → Writes p q
weak_gain_writes p q s found (here, (held, none, is)) = writes_seat p q _ here.0 is

pub end_writes : (p q : Plain) (k : Kind) (s : SlotId) (found : ℕ)
    → Does p 0 (plain.EndSnapshot k s) found q → Writes p q
end_writes p q k s found (here, (es, fewer, none, is)) = writes_seat p q _ here.0 is
