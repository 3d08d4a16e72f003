use Rattle.std.proofs.Common.{◌≡◌, ◌∙◌, ℕ, List, ap, codes, refl, subst, sym, Bor}
use Rattle.command_line.specs.Found.{found_under}
use Rattle.command_line.specs.Values.{IsLanes}
use Rattle.command_line.proofs.Given.{given_is, texts}
use Rattle.command_line.proofs.options.lanes.Goals as goal

pub returns-clause-found : goal.returns-clause-found
returns-clause-found c =
    let same : texts c.unwrap_or.result.now ≡ found_under (codes "lanes") c.args.matches.now =
    ap (λ (r : Bor (List (Bor (List ℕ)))). texts r.now) c.unwrap_or.ensures
    ∙ given_is c.args.matches.now (codes "lanes") c.get_raw.result _ c.get_raw.ensures refl in
    subst (λ (ts : List (List ℕ)). IsLanes ts c.in_ok-number_or.field-0) same c.in_ok-number_or.ensures.found

pub returns-in_err-number_or-clause-none : goal.returns-in_err-number_or-clause-none
returns-in_err-number_or-clause-none c none n is =
    let same : texts c.unwrap_or.result.now ≡ found_under (codes "lanes") c.args.matches.now =
    ap (λ (r : Bor (List (Bor (List ℕ)))). texts r.now) c.unwrap_or.ensures
    ∙ given_is c.args.matches.now (codes "lanes") c.get_raw.result _ c.get_raw.ensures refl in
    c.in_err-number_or.ensures.none refl n (subst (λ (ts : List (List ℕ)). IsLanes ts n) (sym same) is)
