use Rattle.std.proofs.Common.{◌≤◌, ◌+◌, ◌++◌, length}
use Rattle.std.specs.Prelude.{vec_capacity}
use Rattle.std.specs.List.{All}
use Rattle.cell_intern.specs.cell_calls.Keeping.{Keeps, Learns}
use Rattle.cell_intern.specs.Interning.{IsInRegion}
use Rattle.tally_sums.specs.Sums.{SumsUp}
use Rattle.tally_sums.specs.cdrc_text.Tally.{shown_entries}
use Rattle.cell_records.specs.Records.{IsRecordOf, sums_in}
use Rattle.cell_records.proofs.records.find_records.Given as goal

abbrev pub invariant-loop-word : goal.invariant-loop-word
invariant-loop-word g l = record {
  words : SumsUp l.tallies (sums_in l.records.items ++ shown_entries l.word-iterator.rest.items);
  room : length l.records.items + length l.word-iterator.rest.items ≤ vec_capacity l.records;
  records : All (IsRecordOf l.root.view.client) l.records.items;
  region : IsInRegion l.domain l.root;
  keeps : Keeps 0 0 l.initial.root.view.core.owned l.initial.root l.root;
  learns : Learns l.initial.root.view.client l.root.view.client;
}
