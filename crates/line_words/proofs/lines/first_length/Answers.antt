use Rattle.line_words.proofs.Cutting.{position-or_len}
use Rattle.std.proofs.Common.{◌==◌, length, ap, ◌∙◌}
use Rattle.std.specs.Option.{unwrap_or}
use Rattle.line_words.proofs.lines.first_length.Goals as goal

pub returns : goal.returns
returns c =
    c.unwrap_or.ensures ∙ ap (λ o. unwrap_or o (length c.args.text.now)) c.line_feed.ensures
    ∙ position-or_len (λ byte. byte == 10) c.args.text.now
