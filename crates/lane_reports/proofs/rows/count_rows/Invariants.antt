use Rattle.std.proofs.Common.{◌≡◌, ◌≤◌, ◌+◌, ◌++◌, length}
use Rattle.std.specs.Prelude.{Some, vec_capacity}
use Rattle.law_lesson.specs.plain_state.State.{Plain}
use Rattle.lane_domain.specs.directory_calls.Steps.{Leaves}
use Rattle.domain_audit.specs.domain_rule.Views.{own_of}
use Rattle.lane_reports.specs.HolderCounts.{counts_of}
use Rattle.lane_reports.specs.Holders.{IsRoot}
use Rattle.lane_reports.specs.Rows.{AreRowsOf, slots_in}
use Rattle.lane_reports.proofs.rows.count_rows.Given as goal

abbrev pub invariant-loop-of : goal.invariant-loop-of
invariant-loop-of l = record {
  all : l.yielded ++ l.of-iterator.rest.items ≡ l.initial.of-iterator.rest.items;
  room : length l.rows.items + length l.of-iterator.rest.items ≤ vec_capacity l.rows;
  rows : (p : Plain) → (own_of l.fn.root.view).whole ≡ Some p
      → AreRowsOf p l.yielded l.rows.items;
  many : length l.yielded ≡ length l.rows.items;
  trail : l.root.view.core.trail
      ≡ l.fn.root.view.core.trail ++ counts_of (slots_in l.yielded) l.rows.items;
  whole : (own_of l.root.view).whole ≡ (own_of l.fn.root.view).whole;
  leaves : Leaves l.fn.root.view.core.owned l.fn.root.view.core.weaks l.fn.root l.root;
  client : l.root.view.client ≡ l.fn.root.view.client;
  ready : IsRoot l.domain l.shared l.root;
}
