use Rattle.std.proofs.Common.{arith, length, ap}
use Rattle.plain_store.specs.Stores.{plain_of}
use Rattle.plain_store.proofs.Settlings.{freely_then}
use Rattle.plain_store.proofs.SettlingEntries.{one_more_needed, entry_slot}
use Rattle.plain_store.proofs.store.Store.eject_or_keep.Goals as goal

pub returns-then-before-entry_count-clause-needed : goal.returns-then-before-entry_count-clause-needed
returns-then-before-entry_count-clause-needed c =
    let h = c.args.self.now in
    let e = c.entry_at-entry.result in
    let before = c.count_before-before.ensures in
    let under = rw c.deref.ensures.value at c.entry_count.ensures in
    one_more_needed h.deferred.items h.snapshots.items c.args.stays e c.requires.there c.entry_at-entry.ensures c.requires.needed
    (omega (arith, before, under, c.if-before-entry_count.true))

pub take_out-requires-clause-later : goal.take_out-requires-clause-later
take_out-requires-clause-later c =
    let before = c.count_before-before.ensures in
    let under = rw c.deref.ensures.value at c.entry_count.ensures in
    omega (arith, before, under, c.if-before-entry_count.false)

pub end_or_give-requires-clause-there : goal.end_or_give-requires-clause-there
end_or_give-requires-clause-there c =
    let h = c.args.self.now in
    let e = c.entry_at-entry.result in
    let at = entry_slot h c.args.stays e c.requires.kept c.requires.there c.entry_at-entry.ensures in
    let size = ap length c.take_out.ensures.slots in
    omega (arith, at, size)

pub returns-clause-settles : goal.returns-clause-settles
returns-clause-settles c =
    freely_then (plain_of c.args.self.now) (plain_of c.take_out.new.self) (plain_of c.end_or_give.new.self)
    c.take_out.ensures.settles c.end_or_give.ensures.settles
