use Rattle.std.proofs.Common.{◌∙◌, subst, sym}
use Rattle.std.specs.Prelude.{Option}
use Rattle.epoch_domain.specs.plain_protocol.plain_state.declared.slot.SlotId.{SlotId}
use Rattle.epoch_domain.specs.Calls.{IsOf}
use Rattle.epoch_domain.specs.Seats.{SeatState}
use Rattle.epoch_refs.specs.Searching.{Searches, in_order}
use Rattle.epoch_refs.proofs.Searching.{claims_of}
use Rattle.epoch_refs.proofs.claiming.claim_any.Goals as goal

pub returns-in_err-slot : goal.returns-in_err-slot
returns-in_err-slot g c =
    let T : SeatState _ × Option SlotId → Type 0 = λ x.
    Searches g.P.Kind.PayloadKind.fits c.args.domain.now
    (in_order c.args.domain.now.shape c.first_slot-first.result.0) x.0 c.claim_round.new.seat x.1 in (
      c.first_slot-first.result.0,
      c.first_slot-first.ensures.there,
      subst T
          (λ i. (c.first_slot-first.ensures.same i, (c.in_err-slot.was ∙ sym c.from_residual.ensures) i))
          c.claim_round.ensures,
    )

pub end_search-requires-clause-seat : goal.end_search-requires-clause-seat
end_search-requires-clause-seat g c =
    let claims = rw c.in_ok-slot.was at c.claim_round.ensures in
    claims_of _ c.args.domain.now _ c.first_slot-first.new.seat c.claim_round.new.seat
    c.in_ok-slot.slot claims
    (subst (λ s. IsOf c.args.domain.now s) (sym c.first_slot-first.ensures.same) c.requires.rest.0)

pub end_search-requires-clause-slot : goal.end_search-requires-clause-slot
end_search-requires-clause-slot g c =
    let claims = rw c.in_ok-slot.was at c.claim_round.ensures in claims.there
