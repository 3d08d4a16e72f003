use Rattle.std.proofs.Common.{◌≡◌, ◌+◌, ◌*◌, ◌∙◌, suc, subst, arith}
use Rattle.std.proofs.lemmas.List.{length-set}
use Rattle.std.specs.Prelude.{slice_set}
use Rattle.weak_watch.proofs.Keeping.{keeps_wider}
use Rattle.weak_watch.specs.Fates.{Publishes}
use Rattle.weak_watch.proofs.Published.{publishes_one}
use Rattle.weak_watch.proofs.Pushed.{keeps_both}
use Rattle.weak_watch.proofs.subject.Subject.publish.Goals as goal

pub returns-in-Err-clause-keeps : goal.returns-in-Err-clause-keeps
returns-in-Err-clause-keeps g c =
    let first = c.loop-id.invariant.3 in
    let last = c.publish_to.ensures.keeps in (
      first.0 + last.0,
      keeps_wider (2 * c.loop-id.id + 2) (first.0 + last.0) (2 * c.args.self.now.cells)
          (first.0 + last.0) _ _ c.args.seat.now c.publish_to.new.seat
          (keeps_both (2 * c.loop-id.id) first.0 2 last.0 c.args.seat.now c.loop-id.seat
          c.publish_to.new.seat first.1 last.1)
          (omega (arith, c.loop-id-test.true)) (omega arith),
    )

pub loop-id-preserved : goal.loop-id-preserved
loop-id-preserved g c =
    let first = c.loop-id.invariant.3 in
    let last = c.publish_to.ensures.keeps in
    let next : suc c.loop-id.id ≡ c.loop-id.id + 1 = omega arith in (
      c.publish_to.ensures.ready,
      length-set c.loop-id.fates c.loop-id.id c.in-Ok.fate ∙ c.loop-id.invariant.1,
      subst (λ n. Publishes c.args.domain.now c.args.event n
          (slice_set c.loop-id.fates c.loop-id.id c.in-Ok.fate) c.args.seat.now
          c.publish_to.new.seat) next
          (publishes_one c.args.domain.now c.args.event c.loop-id.id c.loop-id.fates c.in-Ok.fate
          c.args.seat.now c.loop-id.seat c.publish_to.new.seat
          (omega (arith, c.loop-id.invariant.1, c.loop-id-test.true))
          c.loop-id.invariant.2 c.in-Ok.ensures.fate),
      (
        first.0 + last.0,
        keeps_wider (2 * c.loop-id.id + 2) (first.0 + last.0) (2 * (c.loop-id.id + 1))
            (first.0 + last.0) _ _ c.args.seat.now c.publish_to.new.seat
            (keeps_both (2 * c.loop-id.id) first.0 2 last.0 c.args.seat.now c.loop-id.seat
            c.publish_to.new.seat first.1 last.1)
            (omega arith) (omega arith),
      ),
      c.publish_to.ensures.beside ∙ c.loop-id.invariant.4,
    )
