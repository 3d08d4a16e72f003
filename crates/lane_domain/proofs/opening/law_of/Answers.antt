use Rattle.std.proofs.Common.{ap, ◌∙◌, arith}
use Rattle.std.specs.Prelude.{sum}
use Rattle.lane_domain.proofs.Shapes.{interns_are}
use Rattle.lane_domain.proofs.opening.law_of.Goals as goal

pub granted-directory-requires : goal.granted-directory-requires
granted-directory-requires c =
    let all = ap sum c.in_ok-interns.ensures ∙ interns_are c.args.work.now in
    let most = c.requires.cells in
    omega arith
