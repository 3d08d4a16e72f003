use Rattle.std.proofs.Common.{◌≡◌, ◌++◌, ℕ, List, ◌≤◌, drop, length}
use Rattle.command_line.specs.cdrc_text.declared.row.Totals.{Totals}
use Rattle.command_line.specs.cdrc_text.Report.{closing_lines}
use Rattle.cdrc_run.specs.Closings.{IsWholeLines}
use Rattle.cdrc_run.proofs.Feeds.{feeds_in}
use Rattle.cdrc_run.proofs.closing.last_lines.Given as goal

-- the line feeds from here on are counted, and no line of a word is among them
abbrev pub invariant-loop-start : goal.invariant-loop-start
invariant-loop-start l = record {
  within : l.start ≤ length l.text;
  feeds : l.feeds ≡ feeds_in (drop l.start l.text);
  few : l.feeds ≤ 3;
  behind : (front : List ℕ) (distinct : ℕ) (totals : Totals) → IsWholeLines front
      → l.text ≡ front ++ closing_lines distinct totals → length front ≤ l.start;
}

abbrev pub decreases-loop-start : goal.decreases-loop-start
decreases-loop-start l = l.start
