use Rattle.std.specs.Prelude.{◌≡◌, ◌+◌, All, length}
use Rattle.domain_audit.specs.acquire_retire.Seats.{SeatState}
use Rattle.seat_life.specs.Free.{IsFree, IsRoot, OwnsNothing}
use Rattle.seat_life.specs.Leaving.{LeaveInTurn}
use Rattle.seat_life.proofs.leaving.leave_all.Given as goal

-- what is still to leave leads on from where the others led
abbrev pub invariant-seats : goal.invariant-seats
invariant-seats g l =
    record {
      root : IsRoot l.domain l.root;
      others : All (IsFree l.domain) l.others.items;
      leave : (new : SeatState g.row.P-View.Denot)
          → LeaveInTurn g.P.Kind.PayloadKind.fits l.domain (g.P.Protocol.joined l.domain.protocol)
          l.others.items l.root new
          → LeaveInTurn g.P.Kind.PayloadKind.fits l.domain (g.P.Protocol.joined l.domain.protocol)
          l.fn.others.items l.fn.root new;
      left : length l.root.view.core.left_seats + length l.others.items
          ≡ length l.fn.root.view.core.left_seats + length l.fn.others.items;
      owns : OwnsNothing l.fn.root.view.core
          → All (λ s. OwnsNothing s.view.core) l.fn.others.items
          → OwnsNothing l.root.view.core × All (λ s. OwnsNothing s.view.core) l.others.items;
    }

abbrev pub decreases-seats : goal.decreases-seats
decreases-seats g l = length l.others.items
