use Rattle.std.proofs.Common.{◌≡◌, ◌+◌, ◌++◌}
use Rattle.cell_intern.specs.cell_calls.cell_law.plain_state.Lists.{times}
use Rattle.cell_intern.specs.cell_calls.cell_law.plain_state.declared.slot.SlotId.{SlotId}
use Rattle.lane_work.specs.Keeping.{slots_of}
use Rattle.cell_records.specs.Clearing.{KnowsNull}
use Rattle.cell_records.specs.Root.{IsRoot}
use Rattle.cell_records.proofs.giving.give_all.Given as goal

abbrev pub invariant-loop-handle : goal.invariant-loop-handle
invariant-loop-handle l = record {
  all : l.yielded ++ l.handle-iterator.rest.items ≡ l.fn.kept.items;
  ready : IsRoot l.domain l.root;
  owned : (s : SlotId)
      → times s l.root.view.core.owned + times s (slots_of l.yielded)
      ≡ times s l.fn.root.view.core.owned;
  client : l.root.view.client ≡ l.fn.root.view.client;
  null : KnowsNull l.fn.root → KnowsNull l.root;
}
