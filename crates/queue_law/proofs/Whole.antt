-- The law, with what it says of seats that have left, as a protocol owes it.
use Rattle.std.proofs.Common.{◌≡◌, ◌≢◌, ◌⊎◌, inl, inr, ⊎_elim, ℕ, zero, suc, ◌+◌, ◌≤◌, true, List, length, get_or, set, map, replicate, refl, ap, sym, ◌∙◌, subst, arith, Option, None}
use Rattle.std.proofs.lemmas.Bool.{cases_eq, cases_lt, false≢true}
use Rattle.plain_protocol.specs.plain_state.State.{Plain, PlainSeat, seat_at, new_seat, new_slot, no_payload}
use Rattle.plain_protocol.specs.plain_state.Lawful.{Lawful}
use Rattle.plain_protocol.specs.plain_state.Steps.{Does, word_of}
use Rattle.plain_protocol.specs.plain_state.declared.slot.SlotId.{SlotId}
use Rattle.plain_protocol.specs.plain_state.declared.slot.PlainSlot.{PlainSlot}
use Rattle.plain_protocol.specs.plain_state.declared.act.PlainAct.{PlainAct}
use Rattle.plain_protocol.specs.plain_state.declared.act.PlainAct.TheVariants as act
use Rattle.plain_protocol.specs.Owns.{OwnPart, own_part}
use Rattle.plain_protocol.specs.Acts.{IsCalm, IsForeign}
use Rattle.queue_law.specs.Words.{cell_at, code, id}
use Rattle.queue_law.specs.Views.{Form, View, first_view, view_of, joined, view_at}
use Rattle.queue_law.specs.Chain.{Ends}
use Rattle.queue_law.specs.Law.{QueueLaw, WholeLaw}
use Rattle.queue_law.specs.Owned.{Keeps, owns}
use Rattle.queue_law.specs.Lessons.{TellsNothing}
use Rattle.std.proofs.lemmas.List.{get_or-set_other, get_or_past, length-set, get_or-replicate, length-replicate}
use Rattle.std.proofs.lemmas.List.FromFn.{get_or-map-range_with_len}
use Rattle.std.specs.List.{range_with_len}
use Rattle.plain_protocol.specs.plain_state.State.{with_seat, with_slot, empty}
use Rattle.plain_protocol.specs.plain_state.State as state
use Rattle.plain_protocol.specs.Laws as laws
use Rattle.queue_law.proofs.Notes.{view_here, view_else}
use Rattle.queue_law.proofs.Foreign.{calm, foreign}
use Rattle.queue_law.proofs.Leave.{leave}
use Rattle.queue_law.proofs.Start.{start}
use Rattle.queue_law.proofs.Left.{left_with, seats_of, does_left, gone_same, gone_set}

-- a deed is ready for no leave
abbrev pub NoLeave : (OwnPart → View → PlainAct → Type 0) → Type 0
NoLeave ready = (own : OwnPart) (v : View) (step : PlainAct) → ready own v step → (j : ℕ)
    → step ≢ act.Leave j

-- what a deed tells of its step, where the law held before it
abbrev pub Tells : Ends → (OwnPart → View → PlainAct → Type 0)
    → (OwnPart → OwnPart → View → PlainAct → ℕ → View) → (Plain → Plain → ℕ → View → View → Type 0)
    → Type 0
Tells u ready next allows =
    (p q : Plain) (views : List View) (n : ℕ) (v : View) (step : PlainAct) (found : ℕ)
    → Lawful p → QueueLaw u p views → view_at views n ≡ v → ready (own_part p n) v step
    → Does p n step found q
    → allows p q n v (next (own_part p n) (own_part q n) v step found)

pub whole_told : (u : Ends) (ready : OwnPart → View → PlainAct → Type 0)
    (next : OwnPart → OwnPart → View → PlainAct → ℕ → View) (allows : Plain → Plain → ℕ → View → View
    → Type 0)
    → NoLeave ready → Keeps (QueueLaw u) ready next → Tells u ready next allows
    → laws.Keeps (WholeLaw u) first_view ready next allows
whole_told u ready next allows stay k told p q views n step found meets low r d =
    let v = view_at views n in (
      (
        k p q views n v step found meets.lawful meets.law.0 (low, refl) d.0.1 r d,
        gone_set p q n step found views (next (own_part p n) (own_part q n) v step found)
            (stay (own_part p n) v step r) d meets.law.1,
      ),
      told p q views n v step found meets.lawful meets.law.0 refl r d,
    )

pub whole_deed : (u : Ends) (ready : OwnPart → View → PlainAct → Type 0)
    (next : OwnPart → OwnPart → View → PlainAct → ℕ → View) → NoLeave ready
    → Keeps (QueueLaw u) ready next
    → laws.Keeps (WholeLaw u) first_view ready next TellsNothing
whole_deed u ready next stay k =
    whole_told u ready next TellsNothing stay k (λ p q views n v step found lawful law at r d. tt)

pub whole_shut : (u : Ends) (ready : OwnPart → View → PlainAct → Type 0)
    (next : OwnPart → OwnPart → View → PlainAct → ℕ → View) → Keeps (WholeLaw u) ready next
    → laws.Keeps (WholeLaw u) first_view ready next TellsNothing
whole_shut u ready next k p q views n step found meets low r d =
    (k p q views n (view_at views n) step found meets.lawful meets.law (low, refl) d.0.1 r d, tt)

calm_no_leave : (step : PlainAct) → IsCalm step → (j : ℕ) → step ≢ act.Leave j
calm_no_leave step calm j e = subst IsCalm e calm

pub whole_calm : (u : Ends) → laws.KeptByCalm (WholeLaw u)
whole_calm u p q n step found views meets is d = (
  calm u p q n found views meets.lawful meets.law.0 step is d,
  gone_same p q views
      (does_left p q n step found (calm_no_leave step is) d) meets.law.1,
)

pub whole_foreign : (u : Ends) → laws.KeptByForeign (WholeLaw u) (owns u)
whole_foreign u p q n step found views meets is d = (
  foreign u p q n found views meets.lawful meets.law.0 step is d,
  gone_same p q views (does_left p q n step found
      (λ j e. subst (IsForeign (owns u) p) e is) d) meets.law.1,
)

pub whole_leave : (u : Ends) → laws.KeptByLeave (WholeLaw u) joined first_view
whole_leave u p q j found views meets d =
    let law = meets.law in
    let count = meets.count in
    let v = view_at views 0 in let w = view_at views j in
    let seats = seats_of _ q d.1.8 in (
      leave u p q j found views count d law.0,
      λ m e.
          ⊎_elim
          (λ is. ap (view_at (set (set views 0 (joined v w)) j first_view)) is
          ∙ view_here (set views 0 (joined v w)) j first_view (let z = length-set views 0 (joined v w) in
          let y = d.1.2 in omega arith))
          (λ ne.
          let l1 = length-set p.seats 0 _ in
          let l2 = length-set (set p.seats 0 _) j _ in
          let long : length q.seats ≡ length p.seats = ap (λ (l : List PlainSeat). length l) seats
          ∙ (l2 ∙ l1) in
          let e1 : (seat_at q m).left ≡ (seat_at p m).left = ap (λ z. (get_or z m new_seat).left) seats
          ∙ (ap (λ (z : PlainSeat). z.left) (get_or-set_other (set p.seats 0 _) j m _ new_seat ne)
          ∙ left_with p.seats 0 _ refl m) in
          let was : (length p.seats ≤ m) ⊎ ((seat_at p m).left ≡ true) =
          ⊎_elim (λ past. inl (omega arith)) (λ left. inr (sym e1 ∙ left)) e in
          ⊎_elim
          (λ is. ⊎_elim (λ past. let z = d.0.0 in absurd (omega arith))
          (λ left. absurd (false≢true (sym d.0.1 ∙ (ap (λ z. (seat_at p z).left) (sym is) ∙ left)))) was)
          (λ ne0. view_else (set views 0 (joined v w)) j m first_view ne
          ∙ (view_else views 0 m (joined v w) ne0 ∙ law.1 m was))
          (cases_eq m 0))
          (cases_eq m j),
    )

empty_slot : (seats slots cells weak_cells s : ℕ) → state.slot_at (empty seats slots cells weak_cells)
    (id s) ≡ new_slot
empty_slot seats slots cells weak_cells s = ⊎_elim (λ low. get_or-replicate slots s new_slot new_slot low)
    (λ past. let l = length-replicate slots new_slot in get_or_past (replicate slots new_slot) s new_slot
    (omega arith)) (cases_lt s slots)

empty_seat : (seats slots cells weak_cells m : ℕ)
    → seat_at (empty seats slots cells weak_cells) m ≡ new_seat
empty_seat seats slots cells weak_cells m = ⊎_elim (λ low. get_or-replicate seats m new_seat new_seat low)
    (λ past. let l = length-replicate seats new_seat in get_or_past (replicate seats new_seat) m new_seat
    (omega arith)) (cases_lt m seats)

empty_cell : (cells c : ℕ) → cell_at (empty 0 0 cells 0) c ≡ 0
empty_cell cells c = let null : Option SlotId = None in
    ⊎_elim (λ low. ap word_of (get_or-replicate cells c null null low))
    (λ past. let l = length-replicate cells null in
    ap word_of (get_or_past (replicate cells null) c null (omega arith))) (cases_lt c cells)

views_long : (f : Form) (n a : ℕ) → length (map (view_of f) (range_with_len a n)) ≡ n
views_long f zero a = refl
views_long f (suc n) a = let e = views_long f n (a + 1) in omega arith

pub whole_start : (u : Ends) → laws.Starts (WholeLaw u) (view_of u.form)
whole_start u seats slots cells weak_cells =
    let views = map (view_of u.form) (range_with_len 0 seats) in
    let long = views_long u.form seats 0 in
    let p = empty seats slots cells weak_cells in (
      start u p views
          (record {
            cells = λ c. empty_cell cells c;
            slots = λ s live. let z =
                ap (λ (x : PlainSlot). code x.stage) (empty_slot seats slots cells weak_cells s) in
                absurd (omega arith);
          })
          (λ n. ⊎_elim (λ low. inl (get_or-map-range_with_len (view_of u.form) 0 seats n n first_view low
          (omega arith))) (λ past. inr (get_or_past views n first_view (omega arith)))
          (cases_lt n seats)),
      λ m e. ⊎_elim
          (λ past. let l = length-replicate seats new_seat in get_or_past views m first_view
          (omega arith))
          (λ left. absurd (false≢true
          (sym (ap (λ (z : PlainSeat). z.left) (empty_seat seats slots cells weak_cells m)) ∙ left))) e,
    )
