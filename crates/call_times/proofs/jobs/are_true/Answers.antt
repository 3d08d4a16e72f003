use Rattle.std.proofs.Common.{◌≡◌, ℕ, arith, false, get_or, subst, sym, true, ⊎_elim}
use Rattle.std.proofs.lemmas.Bool.{cases_eq}
use Rattle.call_times.proofs.jobs.are_true.Goals as goal

pub loop-flag-preserved : goal.loop-flag-preserved
loop-flag-preserved c i low = ⊎_elim
    (λ (is : i ≡ c.loop-flag.flag-index).
    subst (λ (j : ℕ). get_or c.args.flags.now j false ≡ true) (sym is) c.if-not-flag.false)
    (λ ne. c.loop-flag.invariant i (omega arith))
    (cases_eq i c.loop-flag.flag-index)
