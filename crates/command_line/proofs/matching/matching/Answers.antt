use Rattle.std.proofs.Common.{◌∙◌, map, string_bytes}
use Rattle.clap.specs.Simple.{app_of}
use Rattle.command_line.proofs.Matches.{none_is, shows_is, utf_after}
use Rattle.command_line.proofs.matching.matching.Goals as goal

pub returns-in-Ok-clause-found : goal.returns-in-Ok-clause-found
returns-in-Ok-clause-found c = shows_is (map (λ o. o.now) c.args.options.now) c.requires.names (map string_bytes c.args.words.now) (app_of c.in_ok-command.field-0) c.in-Ok.matches
    (utf_after c.args.words.now) c.in_ok-command.ensures c.in-Ok.ensures.kinds c.in-Ok.ensures.matches

pub returns : goal.returns
returns c = record {
  found = tt;
  none = λ _. none_is (map (λ o. o.now) c.args.options.now) c.requires.names (map string_bytes c.args.words.now) (app_of c.in_ok-command.field-0) c.in-Err.error
      (utf_after c.args.words.now) c.in_ok-command.ensures (λ e. c.in_default.not-OutOfMemory (c.kind.ensures ∙ e)) c.in-Err.ensures.kinds;
}
