use Rattle.std.proofs.Common.{◌<◌, ap, sym, subst, arith}
use Rattle.std.specs.List.{All}
use Rattle.std.specs.Map.{values_of}
use Rattle.cdrc_text.specs.Tally.{count_of, total_of, entries_of}
use Rattle.cdrc_text.proofs.tally.Tally.new.Goals as goal

pub returns-clause-counts : goal.returns-clause-counts
unfolding count_of
returns-clause-counts c w = ap (λ es. count_of (entries_of es) w) c.new.ensures.empty

pub returns-clause-total : goal.returns-clause-total
unfolding total_of
returns-clause-total c = ap (λ es. total_of (entries_of es)) c.new.ensures.empty

pub invariant_of-result : goal.invariant_of-result
unfolding total_of
invariant_of-result c =
    let none = c.new.ensures.empty in (
      subst (λ es. All (λ n. 0 < n) (values_of es)) (sym none) (λ k d h. absurd (omega (arith, h))),
      sym (ap (λ es. total_of (entries_of es)) none),
    )
