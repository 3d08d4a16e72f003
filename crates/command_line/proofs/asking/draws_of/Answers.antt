use Rattle.std.proofs.Common.{◌≡◌, ◌∙◌, ℕ, List, ap, refl, subst, sym, Bor}
use Rattle.std.specs.Option.{IfSome}
use Rattle.command_line.specs.Found.{found_under, operands_name}
use Rattle.command_line.specs.Requests.{AreDraws}
use Rattle.command_line.proofs.Given.{given_is, texts}
use Rattle.command_line.proofs.asking.draws_of.Goals as goal

pub returns-clause-found : goal.returns-clause-found
returns-clause-found c =
    let same : texts c.unwrap_or.result.now ≡ found_under operands_name c.args.matches.now =
    ap (λ (r : Bor (List (Bor (List ℕ)))). texts r.now) c.unwrap_or.ensures
    ∙ given_is c.args.matches.now operands_name c.get_raw.result _ c.get_raw.ensures refl in
    subst (λ (ts : List (List ℕ)). IfSome c.draws_within.result (λ draws. AreDraws c.args.most draws ts)) same c.draws_within.ensures.found

pub returns-clause-none : goal.returns-clause-none
returns-clause-none c none draws is =
    let same : texts c.unwrap_or.result.now ≡ found_under operands_name c.args.matches.now =
    ap (λ (r : Bor (List (Bor (List ℕ)))). texts r.now) c.unwrap_or.ensures
    ∙ given_is c.args.matches.now operands_name c.get_raw.result _ c.get_raw.ensures refl in
    c.draws_within.ensures.none none draws (subst (AreDraws c.args.most draws) (sym same) is)
