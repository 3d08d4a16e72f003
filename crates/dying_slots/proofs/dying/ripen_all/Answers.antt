use Rattle.std.proofs.Common.{rules, ◌<◌, length, deque_len}
use Rattle.dying_slots.proofs.Turning.{is_none, is_some, turn_fails, turn_passes, turn_room, turn_some}
use Rattle.dying_slots.proofs.dying.ripen_all.Goals as goal
use Rattle.dying_slots.proofs.dying.ripen_all.Goals.{in-Some+then-times-eq0, in-Some+else-times-eq0, in_default}

pub push_back_reserved-requires : goal.push_back_reserved-requires
push_back_reserved-requires g c =
    let there : c.loop-turn._turn < length c.args.waiting.now.items = search rules in
    let room = turn_room _ _ _ _ _ _ c.loop-turn.invariant.turned there c.in-Some.slot _
    c.in-Some.ensures.items _ c.requires.room (is_none _ _ c.times.ensures c.if-times-eq0.true) in
    search rules

pub loop-turn-preserved : goal.loop-turn-preserved
loop-turn-preserved g c =
    let there : c.loop-turn._turn < length c.args.waiting.now.items = search rules in
    elim c.match-pop_front.branch [
      | in-Some+then-times-eq0 w ↦ record {
        turned =
            rw (w.waiting-is, w.ripe-is, w.push_back_reserved.ensures.items)
            (turn_passes _ _ _ _ _ _ c.loop-turn.invariant.turned there w.in-Some.slot _
            w.in-Some.ensures.items (is_none _ _ w.times.ensures w.if-times-eq0.true));
        fewer = search rules;
        waiting_room = search rules;
        ripe_room = search rules;
      }
      | in-Some+else-times-eq0 w ↦ record {
        turned =
            rw (w.waiting-is, w.ripe-is, w.push_back_reserved-else-times-eq0.ensures.items)
            (turn_fails _ _ _ _ _ _ c.loop-turn.invariant.turned there w.in-Some.slot _
            w.in-Some.ensures.items (is_some _ _ w.times.ensures w.if-times-eq0.false));
        fewer = search rules;
        waiting_room = search rules;
        ripe_room = search rules;
      }
      | in_default w ↦
          let left = turn_some _ _ _ _ _ _ c.loop-turn.invariant.turned there in
          absurd (let some : 0 < deque_len c.loop-turn.waiting = search rules in search rules)
    ]
