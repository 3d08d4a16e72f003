use Rattle.std.proofs.Common.{◌≡◌, ◌∙◌, ◌<◌, ◌≤◌, ℕ, List, [], ◌∷◌, ◌++◌, false, true, ap, ap₂, arith, length, map, rules, sym, take, Bor}
use Rattle.std.proofs.lemmas.List.{map_more}
use Rattle.std.proofs.lemmas.Result.{IfOk-weaker}
use Rattle.clap.specs.Simple.{Shape, app_of_fields, on_top, with_rule}
use Rattle.clap.specs.Walk.{Rule, rule_of}
use Rattle.command_line.specs.Found.{app_raw, operands_rule, option_rule}
use Rattle.command_line.proofs.Given.{all_taken, rules_are}
use Rattle.command_line.proofs.matching.command.Goals as goal

pub loop-name-init : goal.loop-name-init
loop-name-init c =
    ap app_of_fields c.disable_help_flag-command.ensures
    ∙ ap (on_top (λ (s : Shape). record s { disable_help_flag = true })) c.new.ensures.app

pub loop-name-preserved : goal.loop-name-preserved
loop-name-preserved c =
    let xs = c.args.options.now in
    let i = c.loop-name.name-index in
    let none : Bor (List ℕ) = record { ref_ptr = (0, 0); now = [] } in
    let below : i < length xs = omega arith in
    c.in_ok-command.ensures.shape c.option.ensures.local
    ∙ ap₂ with_rule c.loop-name.invariant c.option.ensures.rule
    ∙ ap app_raw (sym (map_more (λ (o : Bor (List ℕ)). option_rule o.now) xs i none below))

pub returns : goal.returns
returns c =
    let xs = c.args.options.now in
    let i = c.loop-name.name-index in
    let past : length xs ≤ i = omega arith in
    let local : c.action.result.global ≡ false = search rules in
    let rule : rule_of c.action.result ≡ operands_rule = search rules in
    let all : map (λ (o : Bor (List ℕ)). option_rule o.now) (take i xs) ≡ map option_rule (map (λ (o : Bor (List ℕ)). o.now) xs) =
    ap (map (λ (o : Bor (List ℕ)). option_rule o.now)) (all_taken xs i past) ∙ rules_are xs in
    IfOk-weaker c.arg-2.result _ _ (λ m h. h.shape local ∙ ap₂ with_rule c.loop-name.invariant rule
    ∙ ap (λ (rs : List Rule). app_raw (rs ++ operands_rule ∷ [])) all) c.arg-2.ensures
