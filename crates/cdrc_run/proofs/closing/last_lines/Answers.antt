use Rattle.std.proofs.Common.{ℕ, List, ◌≡◌, ◌++◌, ◌-◌, ◌<◌, ◌≤◌, arith, get_or, length, length-drop, drop, ◌∙◌}
use Rattle.std.proofs.lemmas.List.{take_all}
use Rattle.command_line.specs.cdrc_text.declared.row.Totals.{Totals}
use Rattle.command_line.specs.cdrc_text.Report.{closing_lines}
use Rattle.cdrc_run.specs.Closings.{IsWholeLines}
use Rattle.cdrc_run.proofs.Closings.{few_left, none_back, one_back, still_behind, there}
use Rattle.cdrc_run.proofs.closing.last_lines.Goals as goal
use Rattle.cdrc_run.proofs.closing.last_lines.Goals.{then-loop-start-test+else-feeds-lt-CLOSING, else-loop-start-test}

pub loop-start-preserved-then-text-start-eq10 : goal.loop-start-preserved-then-text-start-eq10
loop-start-preserved-then-text-start-eq10 c =
    let text = c.args.text.now in let start = c.loop-start.start in
    let inv = c.loop-start.invariant in let r = c.requires in
    let some : 0 < start = c.loop-start-test.true in
    let back = one_back text start c.loop-start.feeds some inv.within inv.feeds c.if-text-start-eq10.true in
    let still = λ (front : List ℕ) (distinct : ℕ) (totals : Totals) (whole : IsWholeLines front)
    (is : text ≡ front ++ closing_lines distinct totals).
    still_behind text front distinct totals whole is start c.loop-start.feeds some
    (inv.behind front distinct totals whole is) inv.feeds c.if-feeds-lt-CLOSING.either in
    let few = few_left text r.front r.distinct r.totals r.whole r.is (start - 1)
    (still r.front r.distinct r.totals r.whole r.is) in
    record {
      within = let w = inv.within in omega arith;
      feeds = back;
      few = omega arith;
      behind = still;
    }

pub loop-start-preserved : goal.loop-start-preserved
loop-start-preserved c =
    let text = c.args.text.now in let start = c.loop-start.start in
    let inv = c.loop-start.invariant in let r = c.requires in
    let some : 0 < start = c.loop-start-test.true in
    record {
      within = let w = inv.within in omega arith;
      feeds = none_back text start c.loop-start.feeds some inv.within inv.feeds c.if-text-start-eq10.false;
      few = inv.few;
      behind = λ front distinct totals whole is.
          still_behind text front distinct totals whole is start c.loop-start.feeds some
          (inv.behind front distinct totals whole is) inv.feeds c.if-feeds-lt-CLOSING.either;
    }

pub returns : goal.returns
returns c front distinct totals whole is =
    let text = c.args.text.now in let start = c.loop-start.start in
    let inv = c.loop-start.invariant in
    let stopped : 0 < start → (get_or text (start - 1) 0 ≡ 10) × (3 ≤ c.loop-start.feeds)
    = λ some. elim c.loop-start-test.branch [
      | then-loop-start-test+else-feeds-lt-CLOSING w ↦ w.if-feeds-lt-CLOSING.false
      | else-loop-start-test w ↦ let z = w.loop-start-test.false in absurd (omega arith)
    ] in
    let size = length-drop start text in
    take_all (length text - start) (drop start text) (omega arith)
    ∙ there text front distinct totals whole is start c.loop-start.feeds
    (inv.behind front distinct totals whole is) inv.within inv.feeds stopped
