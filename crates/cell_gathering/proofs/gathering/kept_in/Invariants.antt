use Rattle.std.proofs.Common.{◌≡◌, length}
use Rattle.std.specs.Prelude.{take}
use Rattle.std.specs.List.{sum_by}
use Rattle.cell_gathering.specs.declared.done.Done.{Done}
use Rattle.cell_gathering.specs.Gathering.{kept_by}
use Rattle.cell_gathering.proofs.gathering.kept_in.Given as goal

abbrev pub invariant-loop-one : goal.invariant-loop-one
invariant-loop-one l =
    l.count ≡ sum_by (λ (one : Done). length (kept_by one)) (take l.one-index l.done)
