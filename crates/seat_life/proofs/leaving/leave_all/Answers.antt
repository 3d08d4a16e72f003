use Rattle.std.proofs.Common.{◌∙◌, ◌∷◌, ap, subst, sym, arith}
use Rattle.seat_life.specs.Free.{IsFree, OwnsNothing}
use Rattle.seat_life.specs.Leaving.{LeaveInTurn}
use Rattle.seat_life.proofs.Rests.{all_first, all_rest, first_and_rest}
use Rattle.seat_life.proofs.leaving.leave_all.Goals as goal

pub seats-preserved : goal.seats-preserved
seats-preserved g c =
    let was = c.seats.others.items in
    let rest = c.remove-seat.new.self.items in
    let seat = c.remove-seat.result in
    let count = c.remove-seat.ensures.len in
    let is = first_and_rest was seat (omega arith) c.remove-seat.ensures.value
    ∙ ap (λ xs. seat ∷ xs) (sym c.remove-seat.ensures.items) in
    let held = c.seats.invariant in record {
      root = c.leave_one.ensures.root;
      others = all_rest (IsFree c.args.domain.now) was rest seat is held.others;
      leave = λ new more. held.leave new
          (subst (λ xs. LeaveInTurn g.P.Kind.PayloadKind.fits c.args.domain.now
          (g.P.Protocol.joined c.args.domain.now.protocol) xs c.seats.root new) (sym is)
          (c.leave_one.new.root, c.leave_one.ensures.leaves, more));
      left = let one = c.leave_one.ensures.left in let all = held.left in omega arith;
      owns = λ root others.
          let had = held.owns root others in (
            c.leave_one.ensures.owns had.0 (all_first (λ s. OwnsNothing s.view.core) was rest seat is had.1),
            all_rest (λ s. OwnsNothing s.view.core) was rest seat is had.1,
          );
    }
