use Rattle.std.proofs.Common.{◌≡◌, ◌++◌, rules}
use Rattle.cdrc_steps.specs.Meaning.{slot_line}
use Rattle.cdrc_steps.proofs.Growing.{lines_more}
use Rattle.cdrc_steps.proofs.running.Running.close.Goals as goal

pub loop-slot-preserved : goal.loop-slot-preserved
loop-slot-preserved c =
    let line = slot_line c.args.self.now.shape c.args.self.now.core in
    let more : c.push_slot.new.text.items ≡ c.loop-slot.text.items ++ line c.loop-slot.slot = search rules in
    lines_more line c.args.text.now.items c.loop-slot.text.items c.push_slot.new.text.items c.loop-slot.slot c.loop-slot.invariant more
