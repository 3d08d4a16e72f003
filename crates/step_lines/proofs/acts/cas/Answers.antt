use Rattle.std.proofs.Common.{arith}
use Rattle.step_lines.specs.Beyond.{IsBeyondContent, IsBeyondPlace}
use Rattle.step_lines.proofs.Readings.{reads_both, Both, OneOf}
use Rattle.step_lines.proofs.Rows.{cas_refused}
use Rattle.step_lines.proofs.Words.{ContentAt, PlaceAt}
use Rattle.step_lines.proofs.acts.cas.Goals as goal

pub returns-in_err-place : goal.returns-in_err-place
returns-in_err-place c =
    let words = c.args.words.now in
    let rest = reads_both (ContentAt words 1) IsBeyondContent (ContentAt words 2) IsBeyondContent
    c.parse_content.result c.parse_content-2.result c.both-contents.result c.both-contents.ensures.ok c.both-contents.ensures.syntax c.both-contents.ensures.range
    c.parse_content.ensures c.parse_content-2.ensures in
    let all = reads_both (PlaceAt words 0) IsBeyondPlace (Both (ContentAt words 1) (ContentAt words 2)) (OneOf IsBeyondContent IsBeyondContent)
    c.parse_place.result c.both-contents.result c.both.result c.both.ensures.ok c.both.ensures.syntax c.both.ensures.range
    c.parse_place.ensures rest in
    cas_refused words c.from_residual.result c.in_err-place.field-0.0 c.from_residual.ensures.1 (omega arith) (rw c.in_err-place.was at all)
