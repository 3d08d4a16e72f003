-- A seat that has drawn a ticket has added what it grants.
use Rattle.std.proofs.Common.{◌≡◌, ◌∙◌, ℕ, ◌+◌, List, [], ◌∷◌, ◌++◌, ap, sym, arith}
use Rattle.std.specs.Prelude.{slice_index_or}
use Rattle.atomic_table.specs.declared.shared.Seat.{Seat as TableSeat}
use Rattle.plain_state.specs.declared.act.PlainAct.{PlainAct}
use Rattle.plain_state.specs.State.{Plain}
use Rattle.domain_rule.specs.plain_protocol.Owns.{OwnPart}
use Rattle.core_promises.specs.core_events.declared.act.Act.TheVariants as act
use Rattle.core_promises.specs.core_events.declared.view.CoreView.{CoreView}
use Rattle.core_promises.specs.core_events.Views.{granted}
use Rattle.core_promises.proofs.Below.core_law_Always.{history_sound}
use Rattle.core_promises.proofs.Below.core_law_Grants.{history_grants}
use Rattle.domain_rule.specs.declared.view.SeatView.{SeatView}
use Rattle.acquire_retire.specs.Calls.{Stepped}
use Rattle.acquire_retire.specs.Domains.{DomainState, IsDomain, StoredDomain}
use Rattle.acquire_retire.specs.Seats.{IsSeat, Stored, stored}
use Rattle.acquire_retire.proofs.Calls.{seat_after}
use Rattle.acquire_retire.proofs.Granted.{granted_more}

module _ {P V : Type 0} {fits : List ℕ → Type 0} (d e : DomainState P) (same : e ≡ d)
    (kept : StoredDomain) (in_domain : IsDomain e.table e.shape e.terms kept)
    (next_view : OwnPart → OwnPart → V → PlainAct → ℕ → V)
    (allows : Plain → Plain → ℕ → V → V → Type 0) (old new : TableSeat (Unit {0}) (SeatView V))
    (w : ℕ) (step : Stepped fits d next_view allows act.Ticket old w new) where
  -- the grants that the domain stores are those that the seat's view has
  seen_grants : kept.grants ≡ old.me.0.core.grants
  seen_grants =
      let h = step.told.happened in
      let so = history_sound d.shape d.terms h.events h.before h.shape h.terms h.history in
      let views = so.views in
      let there = h.enabled.0 in
      let quotas = h.terms.0 in
      in_domain.grants ∙ (ap (λ (x : DomainState P). x.terms.grants) same
      ∙ sym (ap (λ (v : CoreView). v.grants) h.view
      ∙ history_grants d.shape d.terms h.events h.before h.history old.me.0.core.seat
      (omega arith)))

  pub ticket_seat : old.me.0.core.shape ≡ d.shape → (s : Stored)
      (batch_room seen_room dying_room : ℕ)
      → IsSeat old.me s batch_room seen_room dying_room → (more : ℕ)
      → more ≡ slice_index_or kept.grants w 0
      → IsSeat new.me (record s { adds = s.adds + 1; granted = s.granted + more })
      batch_room seen_room dying_room
  ticket_seat shape s batch_room seen_room dying_room seat more is =
      let v = old.me.0.core in
      let sum = granted_more v.grants kept.grants v.tickets w seen_grants in
      let longer : granted v.grants (v.tickets ++ w ∷ []) ≡ granted v.grants v.tickets + more =
      omega arith in
      seat_after d next_view allows act.Ticket old new w step
      (λ (t : Stored). record t { adds = t.adds + 1; granted = t.granted + more }) s batch_room
      seen_room dying_room shape seat.stores seat.rooms
      (λ i. (record (stored v) { adds = v.adds + 1; granted = longer i }, v.room))
