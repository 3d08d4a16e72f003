use Rattle.std.proofs.Common.{◌≡◌, ◌≤◌, length, map, take, vec_capacity, string_bytes}
use Rattle.script_desk.specs.Desks.{maker_at}
use Rattle.script_desk.proofs.makers.makers_of.Given as goal

abbrev pub invariant-loop-slot : goal.invariant-loop-slot
invariant-loop-slot l = record {
  so_far :
      map string_bytes l.names.items
      ≡ map (λ s. (maker_at l.makers s).name) (take l.slot-index l.slots);
  room : length l.slots ≤ vec_capacity l.names;
}
