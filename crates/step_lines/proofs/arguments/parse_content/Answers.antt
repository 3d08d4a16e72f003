use Rattle.std.proofs.Common.{codes}
use Rattle.std.specs.Cmp.Lexicographic.{bytes_decides}
use Rattle.step_lines.proofs.Places.{content_reads}
use Rattle.step_lines.proofs.arguments.parse_content.Goals as goal

pub returns : goal.returns
returns c =
    content_reads c.args.word.now (λ is. let same = (bytes_decides c.args.word.now (codes "null")).1 is in cc)
    c.parse_slot.result c.map.result c.map.ensures.cases c.parse_slot.ensures
