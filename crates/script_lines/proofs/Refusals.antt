-- A refusal that `?` hands on.
use Rattle.std.proofs.Common.{◌≡◌, Result, Ok, Err, refl, sym, ap, ◌∙◌}
use Rattle.std.proofs.lemmas.Result.{err_from_is_err_and}
use Rattle.std.specs.Result.{is_ok, IsErrAnd}
use Rattle.script_lines.specs.declared.refused.CommandRefused.{CommandRefused}
use Rattle.script_lines.specs.declared.refused.CommandRefused.TheVariants.{Syntax}

-- a refusal that is handed on as it is comes as syntax only where it was syntax
pub same-refusal : {T U : Type 0} (r : Result T CommandRefused) (e : CommandRefused) → IsErrAnd r (λ x. x ≡ e) → r ≡ Err Syntax
    → ◌≡◌ {A = Result U CommandRefused} (Err e) (Err Syntax)
same-refusal r e handed told =
    let p = err_from_is_err_and r handed in
    let was = p.1 in
    let same = p.2 in
    let is : e ≡ Syntax = cc in
    cc

-- a refusal that `map` leaves as it is
pub mapped-refusal : {T U : Type 0} (r : Result T CommandRefused) (mapped : Result U CommandRefused) → is_ok mapped ≡ is_ok r
    → ((e : CommandRefused) → r ≡ Err e → mapped ≡ Err e) → mapped ≡ Err Syntax → r ≡ Err Syntax
mapped-refusal (Ok x) mapped same cases told = let wrong = sym same ∙ ap is_ok told in cc
mapped-refusal (Err e) mapped same cases told = let e = cases e refl in cc
