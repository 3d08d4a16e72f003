use Rattle.std.proofs.Common.{◌≡◌, sym, ap, ◌∙◌}
use Rattle.std.specs.Option.{unwrap_or}
use Rattle.cdrc_text.proofs.Counts.{count_of-is}
use Rattle.cdrc_text.specs.Tally.{count_of, entries_of}
use Rattle.cdrc_text.proofs.tally.Tally.get.Goals as goal

pub returns : goal.returns
returns c =
    let piece = c.args.piece.now in
    let entries = c.self.inside.counts.entries in
    let view : entries_of entries ≡ c.args.self.now = c.self.view_is in
    c.unwrap_or.ensures ∙ ap (λ o. unwrap_or o 0) (c.copied.ensures ∙ c.get.ensures.value)
    ∙ sym (count_of-is piece entries) ∙ ap (λ counted. count_of counted piece) view
