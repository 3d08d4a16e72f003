-- A step with an aim keeps the rule of the table, at the word and by the function that its caller
-- names, and the seat that made it is one afterwards.
use Rattle.std.proofs.Common.{◌≡◌, ℕ, ◌<◌, List, length, refl, ap, sym, ◌∙◌, subst, arith}
use Rattle.std.specs.Prelude.{Option, Some, None, IsSome}
use Rattle.std.specs.Option.{option_map}
use Rattle.atomic_table.specs.Table.{Allows, Me}
use Rattle.atomic_table.specs.declared.shared.Seat.{Seat as TableSeat}
use Rattle.epoch_rule.specs.plain_protocol.plain_state.declared.act.PlainAct.{PlainAct}
use Rattle.epoch_rule.specs.plain_protocol.plain_state.State.{Plain}
use Rattle.epoch_rule.specs.plain_protocol.Laws.{Keeps, KeptByCalm}
use Rattle.epoch_rule.specs.plain_protocol.Owns.{OwnPart}
use Rattle.epoch_rule.specs.epoch_core.declared.act.EpochAct.{EpochAct}
use Rattle.epoch_rule.specs.epoch_core.declared.shape.EpochShape.{EpochShape}
use Rattle.epoch_rule.specs.epoch_core.core_events.declared.shape.Quota.{Quota}
use Rattle.epoch_rule.specs.epoch_core.declared.view.EpochView.{EpochView}
use Rattle.epoch_rule.specs.epoch_core.Sound.{SeatLaw}
use Rattle.epoch_rule.specs.epoch_core.Runs.{IsShape, after}
use Rattle.epoch_rule.specs.epoch_core.Steps.{May, next, place}
use Rattle.epoch_rule.specs.epoch_core.Words.{word_count}
use Rattle.epoch_rule.specs.declared.view.EpochSeatView.{EpochSeatView}
use Rattle.epoch_rule.specs.declared.view.EpochWhole.{EpochWhole}
use Rattle.epoch_rule.specs.Rule.{Kept}
use Rattle.epoch_rule.specs.Told.{Told}
use Rattle.epoch_rule.specs.Views.{IsAlone, core_in, whole_of}
use Rattle.epoch_rule.proofs.StepKeeps.{step_allowed}
use Rattle.epoch_domain.proofs.InRange.{left_same, place_in}
use Rattle.epoch_domain.specs.Calls.{Aimed, CanStep, Finds, Stepped, aimed}
use Rattle.epoch_domain.specs.Domains.{DomainState, IsDomain, StoredDomain}
use Rattle.epoch_domain.specs.Seats.{IsSeated}

-- two names of one aim
same_aim : {A : Type 0} (x y : A) (aim : Option A) → aim ≡ Some x → aim ≡ Some y → x ≡ y
same_aim x y aim is is' = cc (is, is')

-- the act is on a word of the domain
word_there : (z : EpochShape) (v : EpochView) (a : EpochAct) (words word : ℕ) → SeatLaw v.shape v.seat v
    → v.seat < v.shape.seats → v.shape ≡ z → May z a v → words ≡ word_count z → word ≡ place z a v
    → word < words
word_there z v a words word law there same may all at =
    let law' = subst (λ (y : EpochShape). SeatLaw y v.seat v) same law in
    let there' = subst (λ (y : EpochShape). v.seat < y.seats) same there in
    let inside = place_in z v.seat v law' there' a may in omega arith

still_known : (f : EpochWhole → EpochWhole) (known : Option EpochWhole) → IsSome known
    → IsSome (option_map f known)
still_known f None is = is
still_known f (Some all) is = refl

-- a seat that has made a step is a seat
seated_after : {V : Type 0} {fits : List ℕ → Type 0} (z : EpochShape) (qs : List Quota)
    (next_view : OwnPart → OwnPart → V → PlainAct → ℕ → V) (allows : Plain → Plain → ℕ → V → V → Type 0) (a : EpochAct) (w : ℕ)
    (me new : Me (Unit {0}) (EpochSeatView V)) → me.0.core.shape ≡ z → IsSeated me
    → Told fits z qs next_view allows a me.0 w new.0 → new.1 ≡ me.1 → IsSeated new
seated_after z qs next_view allows a w me new same seated told carried = record {
  carries = carried ∙ seated.carries;
  here = told.here;
  shape = subst IsShape (same ∙ sym shape_is) seated.shape;
  there = subst (λ (x : ℕ × EpochShape). x.0 < x.1.seats)
      (λ i. (sym seat_is i, (same ∙ sym shape_is) i)) seated.there;
  law = subst (λ (x : EpochShape × ℕ). SeatLaw x.0 x.1 new.0.core)
      (λ i. (sym shape_is i, sym seat_is i)) told.law;
  root = λ other. left_is ∙ seated.root (λ e. other (seat_is ∙ e));
  knows = λ alone. subst IsSome (sym told.whole)
      (still_known (λ all. whole_of (after z (core_in all) me.0.core.seat a)) me.0.whole
      (seated.knows (alone_before alone)));
}
  where
    shape_is : new.0.core.shape ≡ z
    shape_is = told.law.same_shape

    seat_is : new.0.core.seat ≡ me.0.core.seat
    seat_is = told.law.number

    left_is : new.0.core.left_seats ≡ me.0.core.left_seats
    left_is =
        ap (λ (v : EpochView). v.left_seats) told.core ∙ left_same me.0.core z a w

    alone_before : IsAlone new.0 → IsAlone me.0
    alone_before alone =
        let stay = ap length left_is in
        let seats = ap (λ (y : EpochShape). y.seats) (same ∙ sym shape_is) in
        let number = seat_is in (omega (arith, alone.0), omega (arith, alone.1))

module _ {P D V : Type 0} (law : P → Plain → List V → Type 0) (first : P → ℕ → V) (gone : V)
    (fits : List ℕ → Type 0) (calm : (it : P) → KeptByCalm (law it)) (ready : D → P → OwnPart → V → PlainAct → Type 0)
    (next_view : D → P → OwnPart → OwnPart → V → PlainAct → ℕ → V)
    (allows : D → P → Plain → Plain → ℕ → V → V → Type 0)
    (keep : (deed : D) (it : P)
    → Keeps (law it) gone (ready deed it) (next_view deed it) (allows deed it))
    (d : DomainState P) (deed : D) (a : EpochAct) (aim : Option (Aimed P D))
    (is : aim ≡ Some (aimed d deed a)) (seat : TableSeat (Unit {0}) (EpochSeatView V))
    (can : CanStep d (ready deed d.protocol) fits a seat) where
  -- a step that found w tells so for each aim that it has, which is one
  abbrev Tells : ℕ → Me (Unit {0}) (EpochSeatView V) → Type 0
  Tells w new = (x : Aimed P D) → aim ≡ Some x
      → Finds fits x.domain (next_view x.deed x.domain.protocol) (allows x.deed x.domain.protocol) x.act
      seat.me w new

  abbrev TellsSome : Me (Unit {0}) (EpochSeatView V) → Type 0
  TellsSome new = (x : Aimed P D) → aim ≡ Some x
      → (w : ℕ) × Finds fits x.domain (next_view x.deed x.domain.protocol)
      (allows x.deed x.domain.protocol) x.act seat.me w new

  tells : (w : ℕ) (new : Me (Unit {0}) (EpochSeatView V))
      → Finds fits d (next_view deed d.protocol) (allows deed d.protocol) a seat.me w new → Tells w new
  tells w new found x aims =
      let T : Aimed P D → Type 0 = λ x. Finds fits x.domain (next_view x.deed x.domain.protocol)
      (allows x.deed x.domain.protocol) x.act seat.me w new in
      subst T (same_aim (aimed d deed a) x aim is aims) found

  module _ (e : DomainState P) (same : e ≡ d) (kept : StoredDomain)
      (in_domain : IsDomain e.table e.shape e.quotas kept)
      (word : ℕ) (at : word ≡ place d.shape a seat.me.0.core) (f : ℕ → ℕ)
      (kind : (w : ℕ) → next a seat.me.0.core w ≡ f w) where
    table_is : seat.table_id ≡ e.table
    table_is = can.table ∙ sym (ap (λ (x : DomainState P). x.table) same)

    inside : word < e.table.words
    inside = word_there d.shape seat.me.0.core a e.table.words word can.seated.law can.seated.there
        can.shape can.may
        (in_domain.words ∙ ap (λ (x : DomainState P). word_count x.shape) same) at

    allowed : Allows (Kept (law e.protocol) (first e.protocol) gone fits e.shape e.quotas) e.table.slots
        seat.id seat.me word f
        (λ w new. Finds fits d (next_view deed d.protocol) (allows deed d.protocol) a seat.me w new)
    allowed =
        let r = step_allowed (law d.protocol) (first d.protocol) gone fits (ready deed d.protocol)
        (next_view deed d.protocol) (allows deed d.protocol) (keep deed d.protocol) (calm d.protocol) d.shape
        d.quotas a e.table.slots seat.id seat.me can.seated.here can.seated.knows can.own can.may
        can.starts can.is_ready in
        let T : DomainState P × (ℕ × (ℕ → ℕ)) → Type 0 = λ x.
        Allows (Kept (law x.0.protocol) (first x.0.protocol) gone fits x.0.shape x.0.quotas)
        e.table.slots seat.id seat.me x.1.0 x.1.1
        (λ w new. Finds fits d (next_view deed d.protocol) (allows deed d.protocol) a seat.me w new) in
        subst T (λ i. (sym same i, (sym at i, λ w. kind w i))) r

    -- what the table requires of an atomic step, where the step tells the word that it finds
    pub step_requires : (seat.table_id ≡ e.table) × (word < e.table.words)
        × Allows (Kept (law e.protocol) (first e.protocol) gone fits e.shape e.quotas) e.table.slots
        seat.id seat.me word f Tells
    step_requires = (
      table_is,
      inside,
      λ s k len there fit.
          let r = allowed s k len there fit in (r.0, r.1, r.2, r.3, tells _ _ r.4),
    )

    -- and where it doesn't
    pub store_requires : (seat.table_id ≡ e.table) × (word < e.table.words)
        × Allows (Kept (law e.protocol) (first e.protocol) gone fits e.shape e.quotas) e.table.slots
        seat.id seat.me word f (λ _ new. TellsSome new)
    store_requires = (
      table_is,
      inside,
      λ s k len there fit.
          let r = allowed s k len there fit in
          (r.0, r.1, r.2, r.3, λ x aims. (_, tells _ _ r.4 x aims)),
    )

  -- what the step has told the seat
  stepped_by : (w : ℕ) (new : TableSeat (Unit {0}) (EpochSeatView V)) → new.table_id ≡ seat.table_id
      → Finds fits d (next_view deed d.protocol) (allows deed d.protocol) a seat.me w new.me
      → Stepped fits d (next_view deed d.protocol) (allows deed d.protocol) a seat w new
  stepped_by w new table found = record {
    table = table;
    seated = seated_after d.shape d.quotas (next_view deed d.protocol) (allows deed d.protocol) a w
        seat.me new.me can.shape can.seated found.0 found.1;
    told = found.0;
  }

  pub step_made : (w : ℕ) (new : TableSeat (Unit {0}) (EpochSeatView V))
      → new.table_id ≡ seat.table_id → Tells w new.me
      → Stepped fits d (next_view deed d.protocol) (allows deed d.protocol) a seat w new
  step_made w new table told = stepped_by w new table (told (aimed d deed a) is)

  pub store_made : (new : TableSeat (Unit {0}) (EpochSeatView V)) → new.table_id ≡ seat.table_id
      → TellsSome new.me
      → (w : ℕ) × Stepped fits d (next_view deed d.protocol) (allows deed d.protocol) a seat w new
  store_made new table told =
      let found = told (aimed d deed a) is in (found.0, stepped_by found.0 new table found.1)
