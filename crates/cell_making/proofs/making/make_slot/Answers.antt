use Rattle.std.proofs.Common.{arith, refl, ap, ◌∙◌}
use Rattle.std.specs.Prelude.{Err}
use Rattle.cell_calls.specs.cell_law.directory_law.Bytes.{IsPiece}
use Rattle.cell_calls.proofs.Keeping.{keeps_wider}
use Rattle.cell_making.proofs.Events.{full_events, made_events}
use Rattle.cell_making.proofs.Kept.{full_keeps, made_keeps}
use Rattle.cell_making.proofs.Slots.{make_ready, piece_own}
use Rattle.cell_making.proofs.making.make_slot.Goals as goal

pub e_make-requires-clause-deed : goal.e_make-requires-clause-deed
e_make-requires-clause-deed c s mid begins w =
    make_ready IsPiece c.args.domain.now c.args.payload.now s c.args.seat.now mid begins
    (piece_own c.args.payload.now c.requires.piece)

pub returns-in-Ok-clause-keeps : goal.returns-in-Ok-clause-keeps
returns-in-Ok-clause-keeps c =
    made_keeps IsPiece c.args.domain.now c.args.seat.now c.e_make.new.seat _ _ c.args.payload.now
    c.in-Ok.slot.slot c.in-Ok.ensures.made c.in-Ok.ensures.objects

pub returns-in-Err-Full-clause-keeps : goal.returns-in-Err-Full-clause-keeps
returns-in-Err-Full-clause-keeps c =
    keeps_wider 0 1 0 1 c.args.seat.now.view.core.owned c.args.seat.now.view.core.owned
    c.args.seat.now c.e_make.new.seat
    (full_keeps IsPiece c.args.domain.now c.args.seat.now c.e_make.new.seat
    (c.e_make.ensures.full (c.in-Err-Full.is ∙ ap (λ e. Err e) c.in-Err-Full.field-0-is))
    c.e_make.ensures.objects)
    (omega arith) (omega arith) (λ x. refl)

pub returns-in-Ok-clause-events : goal.returns-in-Ok-clause-events
returns-in-Ok-clause-events c =
    made_events IsPiece c.args.domain.now c.args.seat.now c.e_make.new.seat _ _ c.args.payload.now
    c.in-Ok.slot.slot c.in-Ok.ensures.made

pub returns-in-Err-Full-clause-events : goal.returns-in-Err-Full-clause-events
returns-in-Err-Full-clause-events c =
    full_events IsPiece c.args.domain.now c.args.seat.now c.e_make.new.seat
    (c.e_make.ensures.full (c.in-Err-Full.is ∙ ap (λ e. Err e) c.in-Err-Full.field-0-is))

pub returns-in-Err-Full-clause-fewer : goal.returns-in-Err-Full-clause-fewer
returns-in-Err-Full-clause-fewer c =
    let used = (full_keeps IsPiece c.args.domain.now c.args.seat.now c.e_make.new.seat
    (c.e_make.ensures.full (c.in-Err-Full.is ∙ ap (λ e. Err e) c.in-Err-Full.field-0-is))
    c.e_make.ensures.objects).makes_used.1 in omega (arith, used)
