use Rattle.std.proofs.Common.{ap, ◌∙◌}
use Rattle.std.specs.Prelude.{Err, None, Some}
use Rattle.cell_calls.specs.cell_law.directory_law.Bytes.{IsPiece}
use Rattle.cell_calls.specs.cell_law.plain_state.declared.act.EventPlace.TheVariants.{Cell}
use Rattle.cell_calls.specs.Cells.{area_of}
use Rattle.cell_making.proofs.Bound.{anothers, bound_there, lost_of, lost_sees, won}
use Rattle.cell_making.proofs.Events.{cas_event}
use Rattle.cell_making.proofs.Exchanged.{lost_keeps, put_keeps}
use Rattle.cell_making.proofs.Given.{given_back}
use Rattle.cell_making.proofs.binding.bind.Goals as goal

pub returns-in-Ok-clause-keeps : goal.returns-in-Ok-clause-keeps
returns-in-Ok-clause-keeps c =
    put_keeps IsPiece c.args.domain.now _ _ c.args.seat.now c.e_cas.new.seat
    c.requires.rest.1.0 (Cell c.args.cell) c.args.head.slot c.in-Ok.ensures.done

pub returns-in-Some-clause-back : goal.returns-in-Some-clause-back
returns-in-Some-clause-back c =
    let lost = lost_of IsPiece c.args.domain.now _ _ (Cell c.args.cell) None (Some c.args.head)
    c.in-Err-Lost.back _ c.e_cas.result c.args.seat.now c.e_cas.new.seat
    (c.in-Err-Lost.is ∙ ap (λ e. Err e) c.in-Err-Lost.field-0-is) c.e_cas.ensures.done in (
      given_back c.in-Err-Lost.back c.in-Some.head c.args.head c.in-Some.is lost.gives_back,
      lost_sees IsPiece c.args.domain.now (area_of c.args.domain.now.protocol) _ c.args.cell
          c.args.head.slot c.args.seat.now c.e_cas.new.seat lost.held c.requires.over.first
          lost.found,
    )

pub returns-in-Some-clause-keeps : goal.returns-in-Some-clause-keeps
returns-in-Some-clause-keeps c =
    let lost = lost_of IsPiece c.args.domain.now _ _ (Cell c.args.cell) None (Some c.args.head)
    c.in-Err-Lost.back _ c.e_cas.result c.args.seat.now c.e_cas.new.seat
    (c.in-Err-Lost.is ∙ ap (λ e. Err e) c.in-Err-Lost.field-0-is) c.e_cas.ensures.done in
    lost_keeps IsPiece c.args.domain.now _ _ c.args.seat.now c.e_cas.new.seat
    c.requires.rest.1.0 (Cell c.args.cell) c.args.head.slot lost.held lost.found

pub returns-in-Some-clause-lost : goal.returns-in-Some-clause-lost
returns-in-Some-clause-lost c =
    let lost = lost_of IsPiece c.args.domain.now _ _ (Cell c.args.cell) None (Some c.args.head)
    c.in-Err-Lost.back _ c.e_cas.result c.args.seat.now c.e_cas.new.seat
    (c.in-Err-Lost.is ∙ ap (λ e. Err e) c.in-Err-Lost.field-0-is) c.e_cas.ensures.done in
    anothers IsPiece c.args.domain.now c.args.cell c.args.head.slot c.args.seat.now
    c.e_cas.new.seat lost.held c.requires.over.first lost.found

pub returns-in-Ok-clause-bound : goal.returns-in-Ok-clause-bound
returns-in-Ok-clause-bound c =
    bound_there IsPiece c.args.domain.now (area_of c.args.domain.now.protocol) _ c.args.cell
    c.args.head.slot c.args.seat.now c.e_cas.new.seat c.requires.over.first c.in-Ok.ensures.done

pub returns-in-Ok-clause-won : goal.returns-in-Ok-clause-won
returns-in-Ok-clause-won c =
    won IsPiece c.args.domain.now c.args.cell c.args.head.slot c.args.seat.now c.e_cas.new.seat
    c.in-Ok.ensures.done

pub returns-in-Ok-clause-event : goal.returns-in-Ok-clause-event
returns-in-Ok-clause-event c =
    cas_event IsPiece c.args.domain.now _ _ c.args.seat.now c.e_cas.new.seat (Cell c.args.cell)
    c.args.head.slot _ c.in-Ok.ensures.done

pub returns-in-Some-clause-event : goal.returns-in-Some-clause-event
returns-in-Some-clause-event c =
    let lost = lost_of IsPiece c.args.domain.now _ _ (Cell c.args.cell) None (Some c.args.head)
    c.in-Err-Lost.back _ c.e_cas.result c.args.seat.now c.e_cas.new.seat
    (c.in-Err-Lost.is ∙ ap (λ e. Err e) c.in-Err-Lost.field-0-is) c.e_cas.ensures.done in
    cas_event IsPiece c.args.domain.now _ _ c.args.seat.now c.e_cas.new.seat (Cell c.args.cell)
    c.args.head.slot _ lost.found
