use Rattle.std.proofs.Common.{◌++◌, codes, string_bytes, ap, ◌∙◌, arith}
use Rattle.std.proofs.lemmas.List.{take_all}
use Rattle.std.specs.List.{flat_map}
use Rattle.cdrc_scripts.proofs.shown.push_names.Goals as goal

pub returns : goal.returns
returns c =
    c.loop-name.invariant
    ∙ ap (λ names. c.args.text.now.items ++ flat_map (λ name. codes " " ++ string_bytes name) names)
    (take_all c.loop-name.name-index c.args.names.now (omega arith))
