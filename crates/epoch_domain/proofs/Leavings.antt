-- Seat 0 takes over what a seat had that leaves.
use Rattle.std.proofs.Common.{◌≡◌, ◌≢◌, ℕ, ◌+◌, ◌^◌, ◌<◌, ◌≤◌, List, [], ◌∷◌, ◌++◌, length, ap, sym, ◌∙◌, subst, arith, length-append}
use Rattle.std.specs.Prelude.{Option, Some}
use Rattle.atomic_table.specs.Table.{Joins}
use Rattle.atomic_table.specs.declared.shared.Seat.{Seat as TableSeat}
use Rattle.epoch_rule.specs.plain_protocol.plain_state.State.{Plain}
use Rattle.epoch_rule.specs.plain_protocol.Laws.{KeptByLeave}
use Rattle.epoch_rule.specs.epoch_core.declared.act.EpochAct.TheVariants as act
use Rattle.epoch_rule.specs.epoch_core.declared.outcome.EpochOutcome.TheVariants as outcome
use Rattle.epoch_rule.specs.epoch_core.declared.shape.EpochShape.{EpochShape}
use Rattle.epoch_rule.specs.epoch_core.declared.view.EpochView.{EpochView}
use Rattle.epoch_rule.specs.epoch_core.Runs.{IsShape, taken_over}
use Rattle.epoch_rule.specs.epoch_core.Sound.{SeatLaw}
use Rattle.epoch_rule.specs.epoch_core.Steps.{CanLeave, noted}
use Rattle.epoch_rule.specs.declared.view.EpochSeatView.{EpochSeatView}
use Rattle.epoch_rule.specs.Opening.{gone_view}
use Rattle.epoch_rule.specs.Rule.{Kept}
use Rattle.epoch_rule.proofs.Leaves.{leaves}
use Rattle.epoch_parts.specs.Ended.{EndedSlots}
use Rattle.epoch_parts.specs.Pending.{Queues, entries}
use Rattle.epoch_domain.specs.Calls.{IsOf}
use Rattle.epoch_domain.specs.Domains.{DomainState, IsDomain, StoredDomain}
use Rattle.epoch_domain.specs.Leavings.{HasJoined, MayJoin, TookOver, joined_in}
use Rattle.epoch_domain.specs.Seats.{IsSeat, IsSeated, SeatState, Stored, stored}
use Rattle.epoch_domain.proofs.Calls.{value_of}
use Rattle.epoch_domain.proofs.Knowing.{found_dying, found_law, found_left}

module _ {P V : Type 0} (law : P → Plain → List V → Type 0) (first : P → ℕ → V)
    (fits : List ℕ → Type 0) (joined : P → V → V → V) (gone : V)
    (leave : (it : P) → KeptByLeave (law it) (joined it) gone) (d : DomainState P)
    (site : Option (DomainState P)) (is : site ≡ Some d)
    (root v : TableSeat (Unit {0}) (EpochSeatView V)) (may : MayJoin d root v) where
  -- what the table requires where seat 0 takes over what another has
  pub join_requires : (e : DomainState P) → e ≡ d → (kept : StoredDomain)
      → IsDomain e.table e.shape e.quotas kept
      → (root.table_id ≡ e.table) × (v.table_id ≡ e.table) × (v.me.1 ≡ []) × (0 < e.table.words)
      × Joins (Kept (law e.protocol) (first e.protocol) gone fits e.shape e.quotas) root.id root.me.0
      v.id v.me.0 (joined_in joined site root.me.0 v.me.0) (gone_view gone)
  join_requires e same kept in_domain =
      let count = in_domain.words in
      let table = sym (ap (λ (x : DomainState P). x.table) same) in
      let T : DomainState P × Option (DomainState P) → Type 0 = λ x.
      Joins (Kept (law x.0.protocol) (first x.0.protocol) gone fits x.0.shape x.0.quotas) root.id
      root.me.0 v.id v.me.0 (joined_in joined x.1 root.me.0 v.me.0) (gone_view gone) in (
        may.tables.0 ∙ table,
        may.tables.1 ∙ table,
        may.seated.1.carries,
        omega arith,
        subst T (λ i. (sym same i, sym is i))
            (leaves (law d.protocol) (first d.protocol) fits d.shape d.quotas (joined d.protocol) gone
            (leave d.protocol) root.id v.id root.me.0 v.me.0 may.seated.0.here may.seated.1.here
            may.first may.may.0 may.may.1),
      )

-- what seat 0 stores when it has taken over what the other stores
abbrev pub taken : Stored → Stored → Stored
taken s t = record s {
  pending = s.pending ++ t.pending;
  ended = s.ended ++ t.ended;
  left = s.left + 1;
}

-- two seats may join where what clauses see of them may
pub may_join : {P V : Type 0} (d : DomainState P) (root v : TableSeat (Unit {0}) (EpochSeatView V))
    (root_room room : ℕ) (r w : SeatState V) → value_of root root_room ≡ r → value_of v room ≡ w
    → IsSeated root.me → IsSeated v.me
    → IsOf d r × IsOf d w → r.view.core.seat ≡ 0 → CanLeave r.view.core × CanLeave w.view.core
    → MayJoin d root v
may_join {V = V} d root v root_room room r w root_is is root_seated seated of first may =
    let T : SeatState V × SeatState V → Type 0 = λ x. (IsOf d x.0 × IsOf d x.1)
    × (x.0.view.core.seat ≡ 0) × (CanLeave x.0.view.core × CanLeave x.1.view.core) in
    let t = subst T (λ i. (sym root_is i, sym is i)) (of, first, may) in record {
      tables = (t.0.0.0, t.0.1.0);
      seated = (root_seated, seated);
      shape = (t.0.0.1, t.0.1.1);
      first = t.1;
      may = t.2;
    }

-- what clauses see of the seats then
pub took_over : {P V : Type 0} (d : DomainState P) (fits : List ℕ → Type 0) (joined : V → V → V)
    (root v new : TableSeat (Unit {0}) (EpochSeatView V)) (root_room room after : ℕ) (r w : SeatState V)
    → value_of root root_room ≡ r → value_of v room ≡ w → HasJoined d fits joined root v new
    → TookOver d fits joined r w (value_of new after)
took_over {V = V} d fits joined root v new root_room room after r w is is' join =
    subst
    (λ (x : SeatState V × SeatState V). TookOver d fits joined x.0 x.1 (value_of new after))
    (λ i. (is i, is' i))
    (record {
      table = join.table;
      view = join.view;
      knows = join.knows;
      word = join.word;
      found = join.found;
      same = join.same;
      left = join.left;
    })

module _ {P V : Type 0} (d : DomainState P) (fits : List ℕ → Type 0) (joined : V → V → V)
    (root v new : TableSeat (Unit {0}) (EpochSeatView V)) (may : MayJoin d root v)
    (join : HasJoined d fits joined root v new) where
  abbrev both : EpochView
  both = noted (act.Leave v.me.0.core.seat) outcome.Plain (taken_over root.me.0.core v.me.0.core)

  core_is : new.me.0.core ≡ both
  core_is = ap (λ (u : EpochSeatView V). u.core) join.view

  root_after : new.me.0.core.seat ≡ 0
  root_after = ap (λ (u : EpochView). u.seat) core_is ∙ may.first

  inside : new.me.0.core.seat < d.shape.seats
  inside = let at = root_after in let some_seat = join.found.shape.0 in omega arith

  shape_after : new.me.0.core.shape ≡ d.shape
  shape_after = ap (λ (u : EpochView). u.shape) core_is ∙ may.shape.0

  left_more : length new.me.0.core.left_seats ≡ length root.me.0.core.left_seats + 1
  left_more =
      let now = ap (λ (u : EpochView). length u.left_seats) core_is in
      let more = length-append root.me.0.core.left_seats
      (record { seat = v.me.0.core.seat; trail = v.me.0.core.trail } ∷ []) in omega arith

  -- the seat that left isn't seat 0, so no other had left to it
  not_root : v.me.0.core.seat ≢ 0
  not_root = join.left.enabled.1.1

  none_left : v.me.0.core.left_seats ≡ []
  none_left = may.seated.1.root not_root

  few_left : length new.me.0.core.left_seats + 1 ≤ d.shape.seats
  few_left = found_left fits d.shape d.quotas new.me.0 0 join.word join.found inside root_after

  stored_both : stored both ≡ taken (stored root.me.0.core) (stored v.me.0.core)
  stored_both =
      let more = length-append root.me.0.core.left_seats
      (record { seat = v.me.0.core.seat; trail = v.me.0.core.trail } ∷ []) in
      λ i. record (taken (stored root.me.0.core) (stored v.me.0.core)) { left = more i }

  module _ (s t : Stored) (root_lists lists : Queues) (root_room room : ℕ)
      (seat : IsSeat root.me s root_lists root_room) (other : IsSeat v.me t lists room) where
    stores_after : taken s t ≡ stored new.me.0.core
    stores_after = (λ i. taken (seat.stores i) (other.stores i)) ∙ sym (ap stored core_is ∙ stored_both)

    -- the one list of the seat that left finds room
    pub lists_fit : length root_lists.queues + length lists.queues ≤ root_lists.room
    lists_fit =
        let own = seat.rooms.counted in
        let one = other.rooms.counted in
        let none = ap length none_left in
        let more = left_more in
        let few = few_left in
        let all = seat.rooms.root may.first in
        let seats = ap (λ (z : EpochShape). z.seats) may.shape.0 in omega arith

    -- and so do the slots that it had ended
    pub ended_fit : length s.ended + length t.ended ≤ root_room
    ended_fit =
        let few = found_dying fits d.shape d.quotas new.me.0 0 join.word join.found inside in
        let dying = ap (λ (x : Stored). length x.ended) stores_after in
        let more = length-append s.ended t.ended in
        let slots = ap (λ (z : EpochShape). z.slots) may.shape.0 in
        let room = seat.rooms.ended in omega arith

    pub left_fits : s.left + 1 < 2 ^ 32
    left_fits =
        let few = few_left in
        let left = ap (λ (x : Stored). x.left) stores_after in
        let most = join.found.shape.1 in omega arith

    -- seat 0 is a seat still, and stores what its view has
    pub taken_seat : (after : Queues) (slots : EndedSlots)
        → entries after.queues ≡ s.pending ++ t.pending
        → length after.queues ≡ length root_lists.queues + length lists.queues
        → root_lists.room ≤ after.room
        → slots ≡ record { slots = s.ended ++ t.ended; room = root_room }
        → IsSeat new.me (record s {
          pending = entries after.queues;
          ended = slots.slots;
          left = s.left + 1;
        }) after slots.room
    taken_seat after slots pending count grows dying = record {
      seated = record {
        carries = join.carries ∙ may.seated.0.carries;
        here = ap (λ (x : EpochSeatView V). x.gone) join.view ∙ may.seated.0.here;
        shape = subst IsShape (sym shape_after) join.found.shape;
        there = subst (λ (z : EpochShape). new.me.0.core.seat < z.seats) (sym shape_after) inside;
        law = subst (λ (z : EpochShape). SeatLaw z new.me.0.core.seat new.me.0.core) (sym shape_after)
            (found_law fits d.shape d.quotas new.me.0 0 join.word join.found inside);
        root = λ later. absurd (later root_after);
        knows = join.knows.1;
      };
      stores = (λ i. record (taken s t) { pending = pending i; ended = (dying i).slots })
          ∙ stores_after;
      rooms = record {
        ended = let room = seat.rooms.ended in
            let same = ap (λ (b : EndedSlots). b.room) dying in
            let now = ap (λ (z : EpochShape). z.slots) shape_after in
            let was = ap (λ (z : EpochShape). z.slots) may.shape.0 in omega arith;
        counted = let own = seat.rooms.counted in
            let one = other.rooms.counted in
            let none = ap length none_left in
            let more = left_more in omega arith;
        root = λ _. let all = seat.rooms.root may.first in
            let now = ap (λ (z : EpochShape). z.seats) shape_after in
            let was = ap (λ (z : EpochShape). z.seats) may.shape.0 in omega arith;
      };
    }
