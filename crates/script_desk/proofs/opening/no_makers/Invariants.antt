use Rattle.std.proofs.Common.{◌≡◌, ◌≤◌, All, length, vec_capacity}
use Rattle.script_desk.specs.Desks.{Maker, nobody}
use Rattle.script_desk.proofs.opening.no_makers.Given as goal

abbrev pub invariant-loop : goal.invariant-loop
invariant-loop l = record {
  size : length l.makers.items ≡ l.counter;
  room : l.slots ≤ vec_capacity l.makers;
  each : All (λ (maker : Maker). maker ≡ nobody) l.makers.items;
}
