use Rattle.std.proofs.Common.{List, ℕ, refl, ap}
use Rattle.std.specs.Prelude.{◌==◌}
use Rattle.std.specs.List.{list_any}
use Rattle.std.proofs.lemmas.Result.{err_from_is_err_and}
use Rattle.lane_work.specs.Keeping.{has}
use Rattle.lane_work.proofs.keeper.Keeper.mark.Goals as goal

pub returns-in_err-reserve-clause-refused : goal.returns-in_err-reserve-clause-refused
unfolding has
returns-in_err-reserve-clause-refused c =
    let p = err_from_is_err_and c.from_residual.result c.from_residual.ensures.1 in
    rw (p.1, p.2) (record { kept = c.reserve.ensures.items; same = λ s. refl })

pub returns-in_err-insert-clause-refused : goal.returns-in_err-insert-clause-refused
unfolding has
returns-in_err-insert-clause-refused c =
    let p = err_from_is_err_and c.from_residual-in_err-insert.result
    c.from_residual-in_err-insert.ensures.1 in
    rw (p.1, p.2) (record {
      kept = c.reserve.ensures.items;
      same = λ s. ap (λ (ks : List ℕ). list_any (λ n. s.0 == n) ks) c.in_err-insert.ensures.err;
    })

pub returns-clause-marks : goal.returns-clause-marks
unfolding has
returns-clause-marks c s = c.in_ok-insert.ensures.updates.0 s.0
