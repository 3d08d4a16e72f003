-- What a seat that is alone knows after steps, and that it is as ready as it was.
use Rattle.std.proofs.Common.{◌≡◌, ℕ, List, [], ◌∷◌, length, ap, sym, ◌∙◌, subst, arith}
use Rattle.std.specs.Prelude.{Result, Ok, Err, IfOk, OnErr}
use Rattle.protected_loads.specs.plain_state.declared.act.PlainAct.{PlainAct}
use Rattle.protected_loads.specs.plain_state.declared.slot.Kind.TheVariants.{Disposal}
use Rattle.protected_loads.specs.plain_state.declared.slot.SlotId.{SlotId}
use Rattle.protected_loads.specs.plain_state.Lists.{entry_times}
use Rattle.protected_loads.specs.plain_state.State.{Plain, seat_at}
use Rattle.protected_loads.specs.plain_protocol.Owns.{OwnPart}
use Rattle.protected_loads.specs.core_events.declared.act.Act.{Act}
use Rattle.protected_loads.specs.core_events.declared.outcome.Outcome.{Outcome}
use Rattle.protected_loads.specs.core_events.declared.shape.Shape.{Shape}
use Rattle.protected_loads.specs.core_events.declared.view.CoreView.{CoreView}
use Rattle.protected_loads.specs.core_events.declared.view.LeftSeat.{LeftSeat}
use Rattle.protected_loads.specs.core_events.declared.view.Move.{Move}
use Rattle.protected_loads.specs.core_events.declared.view.Note.{Note}
use Rattle.protected_loads.specs.core_events.Runs.{Core, after, view_at}
use Rattle.protected_loads.specs.core_events.Shows.{show_seat, shows}
use Rattle.protected_loads.specs.core_events.Steps.{HasRoom}
use Rattle.protected_loads.specs.core_events.Views.{valid_of}
use Rattle.protected_loads.proofs.Below.core_law_Bridge.{shown_seat}
use Rattle.protected_loads.specs.acquire_retire.Calls.{Steps}
use Rattle.protected_loads.specs.acquire_retire.Collecting.{WalksBy}
use Rattle.protected_loads.specs.acquire_retire.Domains.{DomainState}
use Rattle.protected_loads.specs.acquire_retire.Seats.{SeatState}
use Rattle.protected_loads.specs.control_word.Resting.{IsAtRest}
use Rattle.slot_store.proofs.Objects.{known_after, known_still, sound_later}
use Rattle.lone_heap.specs.Lone.{IsReady, known_plain}
use Rattle.lone_heap.proofs.Tidying.{Knows}

-- what the calls of a seat leave as it was: its number, who has left, and its notes
abbrev pub kept_of : CoreView → ℕ × ℕ × ℕ × List Note
kept_of v = (v.seat, length v.left_seats, v.shape.seats, v.notes)

-- by its view the seat has its part of the plain state that it knows
abbrev pub IsMine : {P V : Type 0} → DomainState P → SeatState V → Type 0
IsMine d s = seat_at (known_plain d s) 0 ≡ show_seat s.view.core

module _ {P V : Type 0} (d : DomainState P) where
  pub knows_ready : (s : SeatState V) → IsReady d s → Knows s
  knows_ready s ready = record { known = ready.known; root = ready.alone.0 }

  -- the seat is as ready as it was
  pub ready_still : (old new : SeatState V) → IsReady d old → Knows new → IsMine d new
      → kept_of new.view.core ≡ kept_of old.view.core → IsAtRest d new → HasRoom new.view.core
      → IsReady d new
  ready_still old new ready knows mine same rest room = record {
    rest = rest;
    room = room;
    alone = (
      knows.root,
      (let left = ap (λ (x : ℕ × ℕ × ℕ × List Note). x.1) same in
          let seats = ap (λ (x : ℕ × ℕ × ℕ × List Note). x.2) same in
          let was = ready.alone.1 in omega arith),
    );
    known = knows.known;
    mine = mine;
    disposals = λ x.
        ap (λ (y : ℕ × ℕ × ℕ × List Note). entry_times Disposal x (valid_of y.3)) same
        ∙ ready.disposals x;
  }

  -- the same, where its notes have changed
  pub ready_noted : (old new : SeatState V) → IsReady d old → Knows new → IsMine d new
      → new.view.core.left_seats ≡ old.view.core.left_seats
      → new.view.core.shape ≡ old.view.core.shape → IsAtRest d new → HasRoom new.view.core
      → ((x : SlotId) → entry_times Disposal x (valid_of new.view.core.notes) ≡ 0) → IsReady d new
  ready_noted old new ready knows mine left shape rest room none = record {
    rest = rest;
    room = room;
    alone = (
      knows.root,
      (let gone = ap (λ (xs : List LeftSeat). length xs) left in
          let seats = ap (λ (z : Shape). z.seats) shape in
          let was = ready.alone.1 in omega arith),
    );
    known = knows.known;
    mine = mine;
    disposals = none;
  }

module _ {P V : Type 0} {fits : List ℕ → Type 0} (d : DomainState P)
    {next : OwnPart → OwnPart → V → PlainAct → ℕ → V}
    {allows : Plain → Plain → ℕ → V → V → Type 0} where
  pub knows_on : (a : Act) (old new : SeatState V) (o : Outcome) → Knows old
      → Steps fits d next allows a old new o → Knows new
  knows_on a old new o knows step =
      record { known = known_still step.told knows.known; root = step.told.law.number ∙ knows.root }

  -- after a step the seat has its part of the state
  pub mine_after : (a : Act) (old new : SeatState V) (o : Outcome) → Knows old
      → Steps fits d next allows a old new o → IsMine d new
  mine_after a old new o knows step =
      let told = step.told in
      let n = old.view.core.seat in
      let sound = sound_later told in
      let views = sound.views in
      let one = sound.shape.0 in
      let c = after d.shape told.happened.before n a in
      ap (λ (x : Core). seat_at (shows d.shape x) 0) (known_after told knows.known)
      ∙ shown_seat d.shape c 0 (omega arith)
      ∙ sym (ap show_seat (told.says.core ∙ ap (λ (m : ℕ). view_at c m) knows.root))

module _ {P V : Type 0} (fits : List ℕ → Type 0) (d : DomainState P)
    (next : OwnPart → OwnPart → V → PlainAct → ℕ → V)
    (allows : Plain → Plain → ℕ → V → V → Type 0) where
  pub walk_mine : (ms : List Move) (old new : SeatState V) → Knows old → IsMine d old
      → WalksBy fits d next allows ms old new → Knows new × IsMine d new
  walk_mine [] old new knows mine walks =
      (subst Knows (sym walks) knows, subst (IsMine d) (sym walks) mine)
  walk_mine (m ∷ ms) old new knows mine walks =
      walk_mine ms walks.0 new (knows_on d m.act old walks.0 m.outcome knows walks.1)
      (mine_after d m.act old walks.0 m.outcome knows walks.1) walks.2

-- where a refusal changed nothing, the seat is ready whatever the answer
pub ready_result : {P V A E : Type 0} (d : DomainState P) (ok : A → Type 0) (r : Result A E)
    (old new : SeatState V) → IsReady d old → IfOk r ok → OnErr r (new ≡ old)
    → ((x : A) → ok x → IsReady d new) → IsReady d new
ready_result d ok (Ok x) old new ready is refused so = so x is
ready_result d ok (Err e) old new ready is refused so =
    subst (IsReady d) (sym refused) ready
