use Rattle.std.proofs.Common.{◌∙◌, ap, codes, drop, map, string_bytes, sym}
use Rattle.std.specs.Option.{is_some}
use Rattle.command_line.proofs.Commands.{bulk_only, gen_only, line_is, script_only, steps_only, words_only}
use Rattle.command_line.proofs.asking.request.Goals as goal

pub returns-in-None-clause-exactly : goal.returns-in-None-clause-exactly
returns-in-None-clause-exactly c _ =
    let line = map string_bytes c.args.words.now in
    let is = line_is c.args.words.now c.in-Some.command.now (codes "words") c.in-Some.ensures.value (sym c.as_str.ensures.value ∙ c.in-words.is) in
    words_only line (drop 1 line) is (c.in_ok-args-in-words.ensures.none (ap is_some c.in-None.is))

pub returns-in-None-2-clause-exactly : goal.returns-in-None-2-clause-exactly
returns-in-None-2-clause-exactly c _ =
    let line = map string_bytes c.args.words.now in
    let is = line_is c.args.words.now c.in-Some.command.now (codes "script") c.in-Some.ensures.value (sym c.as_str.ensures.value ∙ c.in-script.is) in
    script_only line (drop 1 line) is (c.in_ok-file-in-script.ensures.none (ap is_some c.in-None-2.is))

pub returns-in-None-3-clause-exactly : goal.returns-in-None-3-clause-exactly
returns-in-None-3-clause-exactly c _ =
    let line = map string_bytes c.args.words.now in
    let is = line_is c.args.words.now c.in-Some.command.now (codes "steps") c.in-Some.ensures.value (sym c.as_str.ensures.value ∙ c.in-steps.is) in
    steps_only line (drop 1 line) is (c.in_ok-file-in-steps.ensures.none (ap is_some c.in-None-3.is))

pub returns-in-None-4-clause-exactly : goal.returns-in-None-4-clause-exactly
returns-in-None-4-clause-exactly c _ =
    let line = map string_bytes c.args.words.now in
    let is = line_is c.args.words.now c.in-Some.command.now (codes "gen") c.in-Some.ensures.value (sym c.as_str.ensures.value ∙ c.in-gen.is) in
    gen_only line (drop 1 line) is (c.in_ok-draws-in-gen.ensures.none (ap is_some c.in-None-4.is))

pub returns-in-None-5-clause-exactly : goal.returns-in-None-5-clause-exactly
returns-in-None-5-clause-exactly c _ =
    let line = map string_bytes c.args.words.now in
    let is = line_is c.args.words.now c.in-Some.command.now (codes "bulk") c.in-Some.ensures.value (sym c.as_str.ensures.value ∙ c.in-bulk.is) in
    bulk_only line (drop 1 line) is (c.in_ok-bulk-in-bulk.ensures.none (ap is_some c.in-None-5.is))
