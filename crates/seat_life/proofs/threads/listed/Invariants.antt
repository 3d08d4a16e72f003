use Rattle.std.specs.Prelude.{All, ◌≡◌, ◌+◌, length}
use Rattle.seat_life.specs.Free.{IsFree}
use Rattle.seat_life.proofs.threads.listed.Given as goal

-- as many are listed as are no longer to be, of which there is one fewer after each turn
abbrev pub invariant-loop-pair : goal.invariant-loop-pair
invariant-loop-pair g l =
    record {
      pairs : All (λ pair. IsFree l.domain pair.0) l.pairs.items;
      done : All (IsFree l.domain) l.done.seats.items;
      count : length l.pairs.items + length l.done.seats.items ≡ length l.fn.pairs.items;
      left : length l.pairs.items + l._pair ≡ length l.fn.pairs.items;
    }
