use Rattle.std.proofs.Common.{arith, sym, ◌∙◌}
use Rattle.plain_state.specs.declared.slot.Kind.TheVariants.{Strong}
use Rattle.plain_state.proofs.Kit.{entry_none}
use Rattle.plain_store.proofs.EntryPlaces.{no_entry_more, no_entry_at_all}
use Rattle.plain_store.proofs.entries.index_of_entry.Goals as goal

pub loop-i-init : goal.loop-i-init
loop-i-init c = entry_none c.args.kind c.args.slot

pub loop-i-preserved : goal.loop-i-preserved
loop-i-preserved c =
    no_entry_more c.args.kind c.args.slot (Strong, record { 0 = 0 }) c.args.list.now c.loop-i.i c.loop-i.invariant (omega arith) (sym c.is_of.ensures ∙ c.if-is_of.false)

pub returns-clause-there : goal.returns-clause-there
returns-clause-there c =
    absurd (omega (arith, no_entry_at_all c.args.kind c.args.slot c.args.list.now c.loop-i.i c.loop-i.invariant (omega arith), c.requires))
