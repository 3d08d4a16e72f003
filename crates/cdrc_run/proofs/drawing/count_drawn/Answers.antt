use Rattle.std.proofs.Common.{◌≤◌, ◌∙◌, List, ℕ, map, refl, sym, subst}
use Rattle.command_line.specs.cdrc_text.Pieces.{pieces_of}
use Rattle.words_work.specs.Contents.{bytes_in, bytes_of}
use Rattle.words_work.specs.Limits.{most_bytes}
use Rattle.words_work.specs.Outcomes.{IsCounted}
use Rattle.cdrc_run.specs.Closings.{EndsInLines}
use Rattle.cdrc_run.specs.Jobs.{drawn_plan}
use Rattle.cdrc_run.specs.Outputs.{IsClosing}
use Rattle.cdrc_run.proofs.Drawn.{drawn_size}
use Rattle.cdrc_run.proofs.Lines.{closing_is, ends_in_lines}
use Rattle.cdrc_run.proofs.drawing.count_drawn.Goals as goal

pub count_contents-requires-clause-bytes : goal.count_contents-requires-clause-bytes
count_contents-requires-clause-bytes g c κs within =
    subst (λ (ts : List (List ℕ)). bytes_in ts ≤ most_bytes) (sym c.in_ok-texts.ensures)
    (drawn_size c.args.drawn c.requires.draws)

pub last_lines-requires : goal.last_lines-requires
last_lines-requires g c =
    let texts = bytes_of c.in_ok-texts.texts.items in
    subst EndsInLines (sym c.deref.ensures.value)
    (ends_in_lines (map pieces_of texts) 1 c.in-Ok.counted.bytes.items c.in-Ok.ensures.done.text)

pub returns-clause-output : goal.returns-clause-output
returns-clause-output g c =
    let texts = bytes_of c.in_ok-texts.texts.items in let done = c.in-Ok.counted in
    let counted = c.in-Ok.ensures.done in
    let lines = c.in_ok-from_slice.field-0.items in
    let closing = closing_is (map pieces_of texts) 1 done.bytes.items counted.text lines
    (λ front distinct totals whole is. c.in_ok-from_slice.ensures.items
    ∙ c.last_lines.ensures front distinct totals whole (c.deref.ensures.value ∙ is)) in (
      record {
        text = done.bytes.items;
        count = record {
          done = done;
          is = refl;
          counted = subst (λ (ts : List (List ℕ)). IsCounted (drawn_plan c.args.drawn) ts done)
              c.in_ok-texts.ensures counted;
          shows = refl;
        };
        closing = subst (λ (ts : List (List ℕ)). IsClosing (map pieces_of ts) lines) c.in_ok-texts.ensures closing;
      },
      refl,
    )
