use Rattle.std.proofs.Common.{◌≤◌, ◌+◌, ◌++◌, length}
use Rattle.std.specs.Prelude.{vec_capacity}
use Rattle.std.specs.List.{All}
use Rattle.tally_sums.specs.cdrc_text.Tally.{shown_entries}
use Rattle.lane_domain.specs.directory_calls.Learning.{LearnsIn}
use Rattle.lane_domain.specs.directory_calls.Steps.{Leaves}
use Rattle.lane_domain.specs.lane_files.Keeping.{slots_of}
use Rattle.lane_reports.specs.Holders.{IsRoot, texts, with_texts}
use Rattle.lane_reports.specs.Rows.{IsRecordOf, sums_in}
use Rattle.tally_sums.specs.Sums.{SumsUp}
use Rattle.lane_reports.proofs.records.find_records.Given as goal

abbrev pub invariant-loop-word : goal.invariant-loop-word
invariant-loop-word g l = record {
  words : SumsUp l.tallies (sums_in l.records.items ++ shown_entries l.word-iterator.rest.items);
  room : length l.records.items + length l.word-iterator.rest.items ≤ vec_capacity l.records;
  records : All (IsRecordOf (slots_of l.kept) l.root) l.records.items;
  ready : IsRoot l.domain l.shared l.root;
  leaves : Leaves l.fn.root.view.core.owned l.fn.root.view.core.weaks l.fn.root l.root;
  learns : LearnsIn texts with_texts 0 l.fn.root.view.client l.root.view.client;
}
