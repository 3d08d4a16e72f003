-- The words of a scan: there is room for each, and the last one splits the batch as the table of
-- events does.
use Rattle.std.proofs.Common.{◌≡◌, ℕ, ◌+◌, ◌*◌, ◌<◌, true, false, List, [], ◌∷◌, ◌++◌, length, refl, ap, sym, ◌∙◌, arith}
use Rattle.std.proofs.lemmas.Bool.Decides.{nat_tests}
use Rattle.atomic_table.specs.declared.shared.Seat.{Seat as TableSeat}
use Rattle.plain_state.specs.declared.act.PlainAct.{PlainAct}
use Rattle.plain_state.specs.State.{Plain}
use Rattle.domain_rule.specs.plain_protocol.Owns.{OwnPart}
use Rattle.core_promises.specs.core_events.declared.act.Act.TheVariants as act
use Rattle.core_promises.specs.core_events.declared.outcome.Outcome.TheVariants as outcome
use Rattle.core_promises.specs.core_events.declared.shape.Shape.{Shape}
use Rattle.core_promises.specs.core_events.declared.view.CoreView.{CoreView}
use Rattle.core_promises.specs.core_events.declared.view.Phase.TheVariants as phase
use Rattle.core_promises.specs.core_events.Good.{SeatLaw}
use Rattle.core_promises.specs.core_events.Steps.{all_seen, answer, is_last, moved}
use Rattle.std.specs.Prelude.{not}
use Rattle.std.specs.List.{filter}
use Rattle.dying_slots.specs.Dying.{is_free, waiting_of}
use Rattle.dying_slots.proofs.Waiting.{ripened_waiting, waiting_after}
use Rattle.plain_state.specs.Ejection.{Announcements}
use Rattle.dying_slots.specs.eject_scan.Seen.{announced, noted, total, with_word}
use Rattle.dying_slots.proofs.Below.eject_scan_Announcements.{announced_alike, fewer, noted_more}
use Rattle.plain_state.specs.Ejection as batch
use Rattle.domain_rule.specs.declared.view.SeatView.{SeatView}
use Rattle.acquire_retire.specs.Calls.{Stepped}
use Rattle.acquire_retire.specs.Domains.{DomainState}
use Rattle.acquire_retire.specs.Seats.{HasRooms, IsSeat, Stored, stored}
use Rattle.acquire_retire.proofs.Calls.{kept, seat_after}

-- there is room for the word that comes next
pub room_to_read : (v : CoreView) (s : Stored) (batch_room seen_room dying_room : ℕ)
    → SeatLaw v.shape v.seat v → s ≡ stored v → HasRooms v batch_room seen_room dying_room
    → total s.seen < seen_room
room_to_read v s batch_room seen_room dying_room law stores rooms =
    let few = fewer v.seen in
    let had = ap (λ (t : Stored). total t.seen) stores in
    let reads = law.reads in
    let room = rooms.seen in omega arith

-- what a seat has noted of the words that it read, the last one among them, announces what they do
seen_alike : (v : CoreView) (w : ℕ)
    → announced (with_word w (noted v.seen)) ≡ all_seen w v
seen_alike v w =
    ap announced (sym (noted_more v.seen w)) ∙ announced_alike (v.seen ++ w ∷ [])

-- what a seat stores after the last word of a scan
abbrev pub last_stored : ℕ → Stored → Stored
last_stored w s = record s {
  phase = phase.Idle;
  retired = batch.kept s.retired (announced (with_word w s.seen));
  owed = batch.ejected s.retired (announced (with_word w s.seen));
  waiting = filter (λ x. not (is_free (announced (with_word w s.seen)) x)) s.waiting;
  ripe = s.ripe ++ filter (is_free (announced (with_word w s.seen))) s.waiting;
  seen = [];
  read = 0;
}

last_kept : (z : Shape) (v : CoreView) (w : ℕ) → is_last z v ≡ true
    → kept (moved z act.Scan w v) ≡ (last_stored w (stored v), v.room)
last_kept z v w last = rw last (λ i. (
  record (stored v) {
    phase = phase.Idle;
    retired = batch.kept v.retired (sym (seen_alike v w) i);
    owed = batch.ejected v.retired (sym (seen_alike v w) i);
    waiting = (waiting_after v.ripe v.dying (all_seen w v)
        ∙ ap (λ a. filter (λ x. not (is_free a x)) (waiting_of v.ripe v.dying)) (sym (seen_alike v w)))
        i;
    ripe = (ripened_waiting v.ripe v.dying (all_seen w v)
        ∙ ap (λ a. v.ripe ++ filter (is_free a) (waiting_of v.ripe v.dying)) (sym (seen_alike v w)))
        i;
    seen = [];
    read = 0;
  },
  v.room,
))

-- the numbers that a seat stores tell that the word is the last one
pub reads_last : (z y : Shape) (v : CoreView) (s : Stored) → y ≡ z → s ≡ stored v
    → s.read + 1 ≡ 4 * y.seats → is_last z v ≡ true
reads_last z y v s same stores last =
    let read = ap (λ (t : Stored). t.read) stores in
    let seats = ap (λ (x : Shape). x.seats) same in
    let all : length v.seen + 1 ≡ 4 * z.seats = omega arith in grind (arith, nat_tests)

-- and that it isn't
pub reads_on : (z y : Shape) (v : CoreView) (s : Stored) → y ≡ z → s ≡ stored v
    → (s.read + 1 ≡ 4 * y.seats → ⊥) → is_last z v ≡ false
reads_on z y v s same stores more =
    let read = ap (λ (t : Stored). t.read) stores in
    let seats = ap (λ (x : Shape). x.seats) same in
    let on : length v.seen + 1 ≡ 4 * z.seats → ⊥ = λ e. more (omega arith) in
    grind (arith, nat_tests)

pub reads_word : (z : Shape) (v : CoreView) (w : ℕ) → is_last z v ≡ false
    → outcome.Word w ≡ answer z act.Scan w v
reads_word z v w on = rw on refl

module _ {P V : Type 0} {fits : List ℕ → Type 0} (d : DomainState P) (next_view : OwnPart → OwnPart → V → PlainAct → ℕ → V)
    (allows : Plain → Plain → ℕ → V → V → Type 0) (old new : TableSeat (Unit {0}) (SeatView V))
    (w : ℕ) (step : Stepped fits d next_view allows act.Scan old w new) (s : Stored)
    (batch_room seen_room dying_room : ℕ) (seat : IsSeat old.me s batch_room seen_room dying_room)
    (same : old.me.0.core.shape ≡ d.shape) (last : is_last d.shape old.me.0.core ≡ true) where
  -- the ripe slots after the last word are those that the seat finds
  pub ripe_after : (moved d.shape act.Scan w old.me.0.core).ripe
      ≡ s.ripe ++ filter (is_free (announced (with_word w s.seen))) s.waiting
  ripe_after = rw last
      (ripened_waiting old.me.0.core.ripe old.me.0.core.dying (all_seen w old.me.0.core)
      ∙ (ap (λ (a : Announcements). old.me.0.core.ripe
      ++ filter (is_free a) (waiting_of old.me.0.core.ripe old.me.0.core.dying))
      (sym (seen_alike old.me.0.core w))
      ∙ ap (λ (t : Stored). t.ripe ++ filter (is_free (announced (with_word w t.seen))) t.waiting)
      (sym seat.stores)))

  -- the seat is one after the last word
  pub scan_ends : IsSeat new.me (last_stored w s) batch_room seen_room dying_room
  scan_ends = seat_after d next_view allows act.Scan old new w step (last_stored w) s batch_room
      seen_room dying_room same seat.stores seat.rooms
      (last_kept d.shape old.me.0.core w last)

  -- and the call answers how many entries stay and go
  pub split_answers : (stay go : ℕ) → stay ≡ length (last_stored w s).retired
      → go ≡ length (last_stored w s).owed
      → outcome.Split w stay go ≡ answer d.shape act.Scan w old.me.0.core
  split_answers stay go stays goes =
      let stored_is = ap (last_stored w) seat.stores in
      let seen = seen_alike old.me.0.core w in
      let stay_is = stays
      ∙ (ap (λ (t : Stored). length t.retired) stored_is
      ∙ ap (λ (a : Announcements). length (batch.kept old.me.0.core.retired a)) seen) in
      let go_is = goes
      ∙ (ap (λ (t : Stored). length t.owed) stored_is
      ∙ ap (λ (a : Announcements). length (batch.ejected old.me.0.core.retired a)) seen) in
      rw last (λ i. outcome.Split w (stay_is i) (go_is i))
