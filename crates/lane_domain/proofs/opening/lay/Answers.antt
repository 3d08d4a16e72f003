use Rattle.std.proofs.Common.{◌<◌, OnErr, ap, subst, sym, ◌∙◌}
use Rattle.std.proofs.lemmas.Result.{err_from_is_err_and}
use Rattle.lane_files.specs.core_events.declared.shape.Shape.{Shape}
use Rattle.lane_files.specs.acquire_retire.Calls.{IsOf}
use Rattle.lane_files.specs.claim_law.Claims.{makes_given}
use Rattle.lane_files.specs.queue_law.declared.view.Form.{Form}
use Rattle.lane_domain.specs.Opened.{HasOnlyLaid}
use Rattle.lane_domain.proofs.Laid.{few_slots_by, laid_ready, only_laid, same_form}
use Rattle.lane_domain.proofs.opening.lay.Goals as goal

pub returns-in_err-queue-clause-slots : goal.returns-in_err-queue-clause-slots
returns-in_err-queue-clause-slots c =
    let d = c.args.domain.now in
    let p = err_from_is_err_and c.from_residual.result c.from_residual.ensures.1 in
    subst (λ r. OnErr r (d.shape.slots < makes_given d.terms)) (sym p.1)
    (few_slots_by d c.requires.domain _ c.lay.new.seat c.args.root.now
    c.in_err-queue.field-0.0 c.requires.root c.in_err-queue.ensures.why)

pub returns-in_err-queue-clause-of_domain : goal.returns-in_err-queue-clause-of_domain
returns-in_err-queue-clause-of_domain c =
    let p = err_from_is_err_and c.from_residual.result c.from_residual.ensures.1 in
    subst (λ r. OnErr r (IsOf c.args.domain.now c.lay.new.seat)) (sym p.1)
    c.lay.ensures.rest.of_domain

pub returns-clause-ready : goal.returns-clause-ready
returns-clause-ready c =
    laid_ready c.args.domain.now c.requires.domain c.args.root.now c.lay.new.seat c.requires.root
    c.lay.ensures.beside c.lay.ensures.leaves _ c.lay.ensures.rest c.lay.ensures.room
    c.in_ok-queue.ensures.attached c.in_ok-queue.ensures.is_on (
      c.over.ensures.over.0,
      c.over.ensures.over.1 ∙ ap (λ (z : Shape). z.weak_cells) c.shape.ensures,
    )

pub returns-clause-laid : goal.returns-clause-laid
returns-clause-laid c =
    subst (λ (form : Form). HasOnlyLaid form c.lay.new.seat)
    (same_form c.args.domain.now c.requires.domain c.args.form c.requires.form)
    (only_laid c.args.domain.now c.requires.domain c.args.root.now c.lay.new.seat c.requires.root
    c.lay.ensures.beside c.lay.ensures.leaves c.in_ok-queue.ensures.laid)
