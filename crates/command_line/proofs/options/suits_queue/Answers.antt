use Rattle.std.proofs.Common.{◌≡◌, ◌∙◌, ℕ, List, [], ap, codes, length, refl, subst, sym, Bor}
use Rattle.std.proofs.lemmas.Bool.{eqb-true}
use Rattle.std.proofs.lemmas.List.{nil_from_length}
use Rattle.std.specs.Prelude.{◌==◌}
use Rattle.command_line.specs.Found.{found_under}
use Rattle.command_line.specs.Values.{SuitsQueue}
use Rattle.command_line.proofs.Given.{given_is, texts, texts_length}
use Rattle.run_requests.specs.declared.asked.Protect.{Protect}
use Rattle.command_line.proofs.options.suits_queue.Goals as goal

pub returns-in-Epoch-clause-suits : goal.returns-in-Epoch-clause-suits
returns-in-Epoch-clause-suits c empty =
    let values = found_under (codes "queue") c.args.matches.now in
    let same : texts c.unwrap_or.result.now ≡ values =
    ap (λ (r : Bor (List (Bor (List ℕ)))). texts r.now) c.unwrap_or.ensures
    ∙ given_is c.args.matches.now (codes "queue") c.get_raw.result _ c.get_raw.ensures refl in
    let none : length c.unwrap_or.result.now ≡ 0 = eqb-true _ 0 (sym c.is_empty.ensures ∙ empty) in
    let nothing : values ≡ [] =
    nil_from_length values (sym (ap length same) ∙ texts_length c.unwrap_or.result.now ∙ none) in
    subst (λ (p : Protect). SuitsQueue values p) (sym c.in-Epoch.is) nothing

pub returns-in-Epoch-clause-only : goal.returns-in-Epoch-clause-only
returns-in-Epoch-clause-only c suits =
    let values = found_under (codes "queue") c.args.matches.now in
    let same : texts c.unwrap_or.result.now ≡ values =
    ap (λ (r : Bor (List (Bor (List ℕ)))). texts r.now) c.unwrap_or.ensures
    ∙ given_is c.args.matches.now (codes "queue") c.get_raw.result _ c.get_raw.ensures refl in
    let nothing : values ≡ [] = subst (λ (p : Protect). SuitsQueue values p) c.in-Epoch.is suits in
    let none : length c.unwrap_or.result.now ≡ 0 =
    sym (texts_length c.unwrap_or.result.now) ∙ ap length same ∙ ap length nothing in
    c.is_empty.ensures ∙ ap (λ (n : ℕ). n == 0) none
