-- Seat 0 takes over what a seat had that leaves.
use Rattle.std.proofs.Common.{◌≡◌, ℕ, ◌+◌, ◌*◌, ◌^◌, ◌<◌, ◌≤◌, List, [], ◌∷◌, ◌++◌, length, ap, sym, ◌∙◌, subst, arith, length-append}
use Rattle.std.specs.Prelude.{Option, Some}
use Rattle.atomic_table.specs.Table.{Joins}
use Rattle.atomic_table.specs.declared.shared.Seat.{Seat as TableSeat}
use Rattle.plain_state.specs.declared.slot.SlotId.{SlotId}
use Rattle.plain_state.specs.Lists.{times}
use Rattle.plain_state.specs.State.{Plain}
use Rattle.plain_state.proofs.Kit.{times_append}
use Rattle.domain_rule.specs.plain_protocol.Laws.{KeptByLeave}
use Rattle.core_promises.specs.core_events.declared.act.Act.TheVariants as act
use Rattle.core_promises.specs.core_events.declared.outcome.Outcome.TheVariants as outcome
use Rattle.core_promises.specs.core_events.declared.shape.Shape.{Shape}
use Rattle.core_promises.specs.core_events.declared.view.CoreView.{CoreView}
use Rattle.core_promises.specs.core_events.Good.{SeatLaw}
use Rattle.core_promises.specs.core_events.Runs.{IsShape, taken_over}
use Rattle.core_promises.specs.core_events.Steps.{CanLeave, noted}
use Rattle.core_promises.specs.core_events.Views.{room_of}
use Rattle.dying_slots.specs.retire_batch.Entries.{Entries}
use Rattle.dying_slots.specs.Dying.{DyingSlots}
use Rattle.dying_slots.proofs.Waiting.{few_waiting, joined_waiting}
use Rattle.domain_rule.specs.declared.view.SeatView.{SeatView}
use Rattle.domain_rule.specs.Opening.{gone_view}
use Rattle.domain_rule.specs.Rule.{Kept}
use Rattle.domain_rule.proofs.Leaves.{leaves}
use Rattle.acquire_retire.proofs.Granted.{grants_few}
use Rattle.acquire_retire.proofs.Rooms.{rooms_least}
use Rattle.acquire_retire.specs.Calls.{IsOf}
use Rattle.acquire_retire.specs.Domains.{DomainState, IsDomain, StoredDomain}
use Rattle.acquire_retire.specs.Leavings.{HasJoined, MayJoin, TookOver, joined_in}
use Rattle.acquire_retire.specs.Seats.{HasRooms, IsSeat, IsSeated, SeatState, Stored, stored}
use Rattle.acquire_retire.proofs.Calls.{value_of}
use Rattle.acquire_retire.proofs.Knowing.{found_dying, found_entries, found_law, found_left, found_once, found_ripe, found_room}

module _ {P V : Type 0} (law : P → Plain → List V → Type 0) (first : P → ℕ → V)
    (fits : List ℕ → Type 0) (joined : P → V → V → V) (gone : V)
    (leave : (it : P) → KeptByLeave (law it) (joined it) gone) (d : DomainState P)
    (site : Option (DomainState P)) (is : site ≡ Some d)
    (root v : TableSeat (Unit {0}) (SeatView V)) (may : MayJoin d root v) where
  -- what the table requires where seat 0 takes over what another has
  pub join_requires : (e : DomainState P) → e ≡ d → (kept : StoredDomain)
      → IsDomain e.table e.shape e.terms kept
      → (root.table_id ≡ e.table) × (v.table_id ≡ e.table) × (v.me.1 ≡ []) × (0 < e.table.words)
      × Joins (Kept (law e.protocol) (first e.protocol) gone fits e.shape e.terms) root.id root.me.0
      v.id v.me.0 (joined_in joined site root.me.0 v.me.0) (gone_view gone)
  join_requires e same kept in_domain =
      let count = in_domain.words in
      let table = sym (ap (λ (x : DomainState P). x.table) same) in
      let T : DomainState P × Option (DomainState P) → Type 0 = λ x.
      Joins (Kept (law x.0.protocol) (first x.0.protocol) gone fits x.0.shape x.0.terms) root.id
      root.me.0 v.id v.me.0 (joined_in joined x.1 root.me.0 v.me.0) (gone_view gone) in (
        may.tables.0 ∙ table,
        may.tables.1 ∙ table,
        may.seated.1.carries,
        omega arith,
        subst T (λ i. (sym same i, sym is i))
            (leaves (law d.protocol) (first d.protocol) fits d.shape d.terms (joined d.protocol) gone
            (leave d.protocol) root.id v.id root.me.0 v.me.0 may.seated.0.here may.seated.1.here
            may.first may.may.0 may.may.1),
      )

-- what seat 0 stores when it has taken over what the other stores
abbrev pub taken : Stored → Stored → Stored
taken s t = record s {
  retired = s.retired ++ t.retired;
  owed = s.owed ++ t.owed;
  waiting = s.waiting ++ t.waiting;
  ripe = s.ripe ++ t.ripe;
  left = s.left + 1;
}

-- two seats may join where what clauses see of them may
pub may_join : {P V : Type 0} (d : DomainState P) (root v : TableSeat (Unit {0}) (SeatView V))
    (r w : SeatState V) → value_of root ≡ r → value_of v ≡ w → IsSeated root.me → IsSeated v.me
    → IsOf d r × IsOf d w → r.view.core.seat ≡ 0 → CanLeave r.view.core × CanLeave w.view.core
    → MayJoin d root v
may_join {V = V} d root v r w root_is is root_seated seated of first may =
    let T : SeatState V × SeatState V → Type 0 = λ x. (IsOf d x.0 × IsOf d x.1)
    × (x.0.view.core.seat ≡ 0) × (CanLeave x.0.view.core × CanLeave x.1.view.core) in
    let t = subst T (λ i. (sym root_is i, sym is i)) (of, first, may) in record {
      tables = (t.0.0.0, t.0.1.0);
      seated = (root_seated, seated);
      shape = t.0.0.1;
      first = t.1;
      may = t.2;
    }

-- what clauses see of the seats then
pub took_over : {P V : Type 0} (d : DomainState P) (fits : List ℕ → Type 0) (joined : V → V → V)
    (root v new : TableSeat (Unit {0}) (SeatView V)) (r w : SeatState V) → value_of root ≡ r
    → value_of v ≡ w → HasJoined d fits joined root v new
    → TookOver d fits joined r w (value_of new)
took_over {V = V} d fits joined root v new r w is is' join =
    subst
    (λ (x : SeatState V × SeatState V). TookOver d fits joined x.0 x.1 (value_of new))
    (λ i. (is i, is' i))
    (record {
      table = join.table;
      view = join.view;
      knows = join.knows;
      word = join.word;
      found = join.found;
      alike = join.alike;
      same = join.same;
      left = join.left;
    })

module _ {P V : Type 0} (d : DomainState P) (fits : List ℕ → Type 0) (joined : V → V → V)
    (root v new : TableSeat (Unit {0}) (SeatView V)) (may : MayJoin d root v)
    (join : HasJoined d fits joined root v new) where
  abbrev both : CoreView
  both = noted (act.Leave v.me.0.core.seat) outcome.Plain (taken_over root.me.0.core v.me.0.core)

  core_is : new.me.0.core ≡ both
  core_is = ap (λ (u : SeatView V). u.core) join.view

  inside : new.me.0.core.seat < d.shape.seats
  inside =
      let at = ap (λ (u : CoreView). u.seat) core_is in
      let some_seat = join.found.shape.0 in omega arith

  root_after : new.me.0.core.seat ≡ 0
  root_after = ap (λ (u : CoreView). u.seat) core_is ∙ may.first

  shape_after : new.me.0.core.shape ≡ d.shape
  shape_after = ap (λ (u : CoreView). u.shape) core_is ∙ may.shape

  root_law : SeatLaw root.me.0.core.shape root.me.0.core.seat root.me.0.core
  root_law = may.seated.0.law

  other_law : SeatLaw v.me.0.core.shape v.me.0.core.seat v.me.0.core
  other_law = may.seated.1.law

  -- a slot that one of them is to destroy the other isn't
  once_both : (x : SlotId) → times x root.me.0.core.dying + times x v.me.0.core.dying ≤ 1
  once_both x =
      let one = found_once fits d.shape d.terms new.me.0 0 join.word join.found inside x in
      let now = ap (λ (u : CoreView). times x u.dying) core_is in
      let sum = times_append x root.me.0.core.dying v.me.0.core.dying in omega arith

  stored_both : stored both ≡ taken (stored root.me.0.core) (stored v.me.0.core)
  stored_both =
      let owes : root.me.0.core.owed ≡ root.me.0.core.owed ++ v.me.0.core.owed =
      may.may.0.1 ∙ sym (λ i. may.may.0.1 i ++ may.may.1.1 i) in
      let waits = joined_waiting root.me.0.core.ripe root.me.0.core.dying v.me.0.core.ripe
      v.me.0.core.dying
      (λ x among. let two = once_both x in let few = other_law.ripe x in omega arith)
      (λ x among. let two = once_both x in let few = root_law.ripe x in omega arith) in
      let left = length-append root.me.0.core.left_seats
      (record {
        seat = v.me.0.core.seat;
        trail = v.me.0.core.trail;
        tickets = v.me.0.core.tickets;
      } ∷ []) in
      λ i. record (taken (stored root.me.0.core) (stored v.me.0.core)) {
        owed = owes i;
        waiting = waits i;
        left = left i;
      }

  module _ (s t : Stored) (batch_room seen_room dying_room : ℕ) (stores : s ≡ stored root.me.0.core)
      (other_stores : t ≡ stored v.me.0.core)
      (rooms : HasRooms root.me.0.core batch_room seen_room dying_room) where
    stores_after : taken s t ≡ stored new.me.0.core
    stores_after = (λ i. taken (stores i) (other_stores i)) ∙ sym (ap stored core_is ∙ stored_both)

    room_after : new.me.0.core.room ≤ batch_room
    room_after =
        let most = found_room fits d.shape d.terms new.me.0 0 join.word join.found inside
        root_after in
        let all = rooms.root may.first in
        let same = ap (λ (z : Shape). z.seats * room_of z) may.shape in omega arith

    -- all that both have to give up finds room
    pub entries_fit : length s.retired + length s.owed + (length t.retired + length t.owed)
        ≤ batch_room
    entries_fit =
        let few = found_entries fits d.shape d.terms new.me.0 0 join.word join.found inside in
        let room = room_after in
        let retired = ap (λ (x : Stored). length x.retired) stores_after in
        let owed = ap (λ (x : Stored). length x.owed) stores_after in
        let more = length-append s.retired t.retired in
        let more_owed = length-append s.owed t.owed in omega arith

    -- and so do the slots that they have ended
    pub dying_fit : length s.waiting + length t.waiting ≤ dying_room
    dying_fit =
        let few = found_dying fits d.shape d.terms new.me.0 0 join.word join.found inside in
        let waiting = ap (λ (x : Stored). length x.waiting) stores_after in
        let wait = few_waiting new.me.0.core.ripe new.me.0.core.dying in
        let more = length-append s.waiting t.waiting in
        let slots = ap (λ (z : Shape). z.slots) may.shape in
        let room = rooms.dying in omega arith

    pub ripe_fit : length s.ripe + length t.ripe ≤ dying_room
    ripe_fit =
        let few = found_ripe fits d.shape d.terms new.me.0 0 join.word join.found inside in
        let ripe = ap (λ (x : Stored). length x.ripe) stores_after in
        let more = length-append s.ripe t.ripe in
        let slots = ap (λ (z : Shape). z.slots) may.shape in
        let room = rooms.dying in omega arith

    pub left_fits : s.left + 1 < 2 ^ 32
    left_fits =
        let few = found_left fits d.shape d.terms new.me.0 0 join.word join.found inside
        root_after in
        let left = ap (λ (x : Stored). x.left) stores_after in
        let most = join.found.shape.1 in omega arith

    -- seat 0 is a seat still, and stores what its view has
    pub taken_seat : (batch : Entries) (slots : DyingSlots)
        → batch ≡ record {
          retired = s.retired ++ t.retired;
          owed = s.owed ++ t.owed;
          room = batch_room;
        }
        → slots ≡ record {
          waiting = s.waiting ++ t.waiting;
          ripe = s.ripe ++ t.ripe;
          room = dying_room;
        }
        → IsSeat new.me (record s {
          retired = batch.retired;
          owed = batch.owed;
          waiting = slots.waiting;
          ripe = slots.ripe;
          left = s.left + 1;
        }) batch.room seen_room slots.room
    taken_seat batch slots is dying = record {
      seated = record {
        carries = join.carries ∙ may.seated.0.carries;
        here = ap (λ (x : SeatView V). x.gone) join.view ∙ may.seated.0.here;
        shape = subst IsShape (sym shape_after) join.found.shape;
        there = subst (λ (z : Shape). new.me.0.core.seat < z.seats) (sym shape_after) inside;
        law = subst (λ (z : Shape). SeatLaw z new.me.0.core.seat new.me.0.core) (sym shape_after)
            (found_law fits d.shape d.terms new.me.0 0 join.word join.found inside);
        room = let f = join.found in
            rooms_least d.shape d.terms f.events f.core f.shape f.terms f.history
            new.me.0.core.seat inside new.me.0.core f.says.core shape_after;
        granted = let f = join.found in
            grants_few d.shape d.terms f.events f.core f.shape f.terms f.history
            new.me.0.core.seat inside new.me.0.core f.says.core;
        knows = join.knows.1;
      };
      stores = (λ i. record (taken s t) {
        retired = (is i).retired;
        owed = (is i).owed;
        waiting = (dying i).waiting;
        ripe = (dying i).ripe;
      }) ∙ stores_after;
      rooms = record {
        batch = let few = room_after in let same = ap (λ (b : Entries). b.room) is in omega arith;
        root = λ _. let all = rooms.root may.first in
            let same = ap (λ (b : Entries). b.room) is in
            let now = ap (λ (z : Shape). z.seats * room_of z) shape_after in
            let was = ap (λ (z : Shape). z.seats * room_of z) may.shape in omega arith;
        seen = let room = rooms.seen in
            let now = ap (λ (z : Shape). z.seats) shape_after in
            let was = ap (λ (z : Shape). z.seats) may.shape in omega arith;
        dying = let room = rooms.dying in
            let same = ap (λ (b : DyingSlots). b.room) dying in
            let now = ap (λ (z : Shape). z.slots) shape_after in
            let was = ap (λ (z : Shape). z.slots) may.shape in omega arith;
      };
    }
