use Rattle.std.proofs.Common.{ℕ, List, refl, subst, sym}
use Rattle.line_words.specs.Number.{IsNumber}
use Rattle.command_line.proofs.numbers.number_within.Goals as goal

pub returns-in_err-value-clause-none : goal.returns-in_err-value-clause-none
returns-in_err-value-clause-none c none n within =
    c.in_err-value.ensures.none refl n
    (subst (λ (bytes : List ℕ). IsNumber bytes n) (sym c.as_bytes.ensures.value) within.0)
