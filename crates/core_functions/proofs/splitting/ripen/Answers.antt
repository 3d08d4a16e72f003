use Rattle.std.proofs.Common.{◌≡◌, ◌<◌, length, vec_capacity, vec_len, rules, ◌∙◌, arith}
use Rattle.eject_scan.specs.Seen.{announced}
use Rattle.core_functions.proofs.Ripens.{ripe_more, ripe_room, ripe_whole}
use Rattle.core_functions.proofs.splitting.ripen.Goals as goal

pub ripen_one-requires-clause-room : goal.ripen_one-requires-clause-room
ripen_one-requires-clause-room c test =
    let room : length c.loop-slot.ripe.items < vec_capacity c.args.ripe.now =
    ripe_room c.args.ripe.now.items c.args.dying.now c.loop-slot.ripe.items
    (announced c.args.seen.now.rows) c.loop-slot.slot-index c.len-were.result
    c.loop-slot.invariant.0 c.loop-slot.invariant.1 _ c.loop-slot-test.true _ c.requires test in
    let same = c.loop-slot.invariant.2 in
    let len : vec_len c.loop-slot.ripe ≡ length c.loop-slot.ripe.items = search rules in
    omega arith

pub loop-slot-preserved : goal.loop-slot-preserved
loop-slot-preserved c = (
  ripe_more c.args.ripe.now.items c.args.dying.now c.loop-slot.ripe.items
      (announced c.args.seen.now.rows) c.loop-slot.slot-index c.len-were.result
      c.loop-slot.invariant.0 c.loop-slot.invariant.1 _ c.loop-slot-test.true
      c.ripen_one.new.ripe.items c.ripen_one.ensures.joined,
  c.loop-slot.invariant.1,
  c.ripen_one.ensures.capacity ∙ c.loop-slot.invariant.2,
)

pub returns-clause-ripened : goal.returns-clause-ripened
returns-clause-ripened c =
    ripe_whole c.args.ripe.now.items c.args.dying.now c.loop-slot.ripe.items
    (announced c.args.seen.now.rows) c.loop-slot.slot-index c.loop-slot-test.false
    c.loop-slot.invariant.0
