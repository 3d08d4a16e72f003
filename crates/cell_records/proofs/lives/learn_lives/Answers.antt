use Rattle.std.proofs.Common.{ap, ◌∙◌}
use Rattle.cell_intern.specs.cell_calls.cell_law.declared.view.View.{View}
use Rattle.cell_records.proofs.Alive.{knows_lives}
use Rattle.cell_records.proofs.lives.learn_lives.Goals as goal

pub returns-clause-lives : goal.returns-clause-lives
returns-clause-lives c =
    knows_lives c.args.domain.now c.learn_law.new.seat c.learn_law.ensures.law
    (ap (λ (v : View). v.cleared) c.learn_law.ensures.stays.client ∙ c.requires.open)
