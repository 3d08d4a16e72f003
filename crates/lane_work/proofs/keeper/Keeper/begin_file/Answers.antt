use Rattle.std.proofs.Common.{List, ℕ, ap}
use Rattle.std.specs.Prelude.{◌==◌}
use Rattle.std.specs.List.{list_any}
use Rattle.lane_work.specs.Keeping.{has}
use Rattle.lane_work.proofs.keeper.Keeper.begin_file.Goals as goal

pub returns-clause-none : goal.returns-clause-none
unfolding has
returns-clause-none c s = ap (λ (ks : List ℕ). list_any (λ n. s.0 == n) ks) c.clear.ensures.empty
