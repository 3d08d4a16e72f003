use Rattle.std.proofs.Common.{◌≡◌, ◌+◌, ◌≤◌, length, vec_capacity, vec_len}
use Rattle.std.specs.List.{sum_by}
use Rattle.domain_audit.specs.control_word.Resting.{IsUnderNone}
use Rattle.lane_domain.specs.lane_files.Ready.{IsReady}
use Rattle.lane_reports.specs.declared.done.Done.{Done}
use Rattle.lane_reports.specs.Gathering.{EachDid, HasGathered, kept_by}
use Rattle.lane_reports.proofs.gathering.gather.Given as goal

abbrev pub invariant-loop-one : goal.invariant-loop-one
invariant-loop-one l = record {
  ready : IsReady l.domain l.shared l.root;
  none : IsUnderNone l.root.view.core;
  first : l.root.view.core.seat ≡ 0;
  did : EachDid l.work l.domain (1 + length l.yielded) l.one-iterator.rest.items;
  gathers : HasGathered l.work l.yielded l.fn.root l.root l.tallies.items l.kept.items;
  left : length l.yielded + length l.one-iterator.rest.items ≡ length l.fn.done.items;
  slots : vec_len l.tallies + length l.one-iterator.rest.items ≤ vec_capacity l.tallies;
  room : vec_len l.kept + sum_by (λ (one : Done). length (kept_by one)) l.one-iterator.rest.items
      ≤ vec_capacity l.kept;
}
