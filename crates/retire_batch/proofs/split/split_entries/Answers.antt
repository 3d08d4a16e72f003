use Rattle.std.proofs.Common.{◌<◌, ◌≤◌, ◌≡◌, length, rules, sym, ◌∙◌}
use Rattle.retire_batch.proofs.Partway.{partway_kept, partway_ejected}
use Rattle.retire_batch.proofs.split.split_entries.Goals as goal
use Rattle.retire_batch.proofs.split.split_entries.Goals.{then-stays, else-stays}

pub loop-place-preserved : goal.loop-place-preserved
loop-place-preserved g c =
    let all = c.args.retired.now.items in
    let list = c.loop-place.retired.items in
    let lt : c.loop-place.place < length all = search rules in
    let same : length list ≡ length all = search rules in
    let before : c.loop-place.staying ≤ c.loop-place.place = search rules in
    elim c.if-stays.branch [
      | then-stays w ↦ record {
        partway =
            rw (w.retired-is, w.owed-is, w.staying-is)
            (partway_kept _ _ _ _ _ _ c.index.result.now c.loop-place.invariant.partway lt same before
            c.index.ensures (sym w.if-stays.true ∙ rw c.deref.ensures.value at c.stays.ensures));
        lengths = search rules;
        same_length = search rules;
        same_room = search rules;
        owed_room = search rules;
      }
      | else-stays w ↦ record {
        partway =
            rw (w.retired-is, w.owed-is, w.staying-is, w.push_back_reserved.ensures.items)
            (partway_ejected _ _ _ _ _ _ c.index.result.now c.loop-place.invariant.partway lt
            c.index.ensures (sym w.if-stays.false ∙ rw c.deref.ensures.value at c.stays.ensures));
        lengths = search rules;
        same_length = search rules;
        same_room = search rules;
        owed_room = search rules;
      }
    ]
