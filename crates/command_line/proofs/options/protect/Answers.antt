use Rattle.std.proofs.Common.{◌≡◌, ◌∙◌, ℕ, List, ap, codes, refl, subst, sym, Bor}
use Rattle.std.specs.Option.{IfSome}
use Rattle.command_line.specs.Found.{found_under}
use Rattle.command_line.specs.Values.{IsProtect}
use Rattle.command_line.proofs.Given.{given_is, texts}
use Rattle.command_line.proofs.options.protect.Goals as goal

pub returns-clause-found : goal.returns-clause-found
returns-clause-found c =
    let same : texts c.unwrap_or.result.now ≡ found_under (codes "protect") c.args.matches.now =
    ap (λ (r : Bor (List (Bor (List ℕ)))). texts r.now) c.unwrap_or.ensures
    ∙ given_is c.args.matches.now (codes "protect") c.get_raw.result _ c.get_raw.ensures refl in
    subst (λ (ts : List (List ℕ)). IfSome c.protect_of.result (IsProtect ts)) same c.protect_of.ensures.found

pub returns-clause-none : goal.returns-clause-none
returns-clause-none c none n is =
    let same : texts c.unwrap_or.result.now ≡ found_under (codes "protect") c.args.matches.now =
    ap (λ (r : Bor (List (Bor (List ℕ)))). texts r.now) c.unwrap_or.ensures
    ∙ given_is c.args.matches.now (codes "protect") c.get_raw.result _ c.get_raw.ensures refl in
    c.protect_of.ensures.none none n (subst (λ (ts : List (List ℕ)). IsProtect ts n) (sym same) is)
