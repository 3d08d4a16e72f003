use Rattle.std.proofs.Common.{ap, sym, subst, arith}
use Rattle.eject_scan.specs.Seen.{IsAscending, total}
use Rattle.eject_scan.proofs.Rows.{ascending_note, total_note}
use Rattle.eject_scan.proofs.seen.Seen.note.Goals as goal

pub invariant_of-self : goal.invariant_of-self
invariant_of-self c =
    let rows = c.self.inside.rows.items in
    let more = ap total c.note_in.ensures.noted in
    let one = total_note c.args.word rows in
    let few = c.note_in.ensures.few in
    let room = c.note_in.ensures.capacity in
    let fewer = c.requires in
    let had = c.self.invariant in
    let is = c.self.view_is in (
      subst (IsAscending 0) (sym c.note_in.ensures.noted)
          (ascending_note 0 c.args.word rows (omega arith) had.0),
      let old = had.1 in omega arith,
      grind arith,
      had.3,
      let old = had.4 in omega arith,
    )
