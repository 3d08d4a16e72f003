use Rattle.core_views.proofs.Trails.{may_with, answer_with, changed_with}
use Rattle.core_views.proofs.seat.OwnView.moves.Goals as goal

pub change-requires-clause-may : goal.change-requires-clause-may
change-requires-clause-may c =
    may_with c.args.shape.now c.args.act.now
    c.self.inside.holdings c.self.inside.trail.items
    (rw (c.self.view_is) c.requires.may)

pub returns-clause-ok : goal.returns-clause-ok
returns-clause-ok c =
    rw (
      ← c.self.view_is,
      c.push_reserved.ensures.items,
      c.reserve.ensures.items,
      answer_with c.args.shape.now c.args.act.now c.args.word
          c.self.inside.holdings c.self.inside.trail.items,
      changed_with c.args.shape.now c.args.act.now c.args.word
          c.self.inside.holdings c.self.inside.trail.items,
      c.in_ok-outcome.ensures.ok,
      c.in_ok-outcome.ensures.told,
    )
