use Rattle.std.proofs.Common.{◌≡◌, ◌≤◌, length, map, take, vec_capacity}
use Rattle.script_desk.proofs.Ranking.{number_of}
use Rattle.script_desk.proofs.makers.ranks.Given as goal

abbrev pub invariant-loop-maker : goal.invariant-loop-maker
invariant-loop-maker l = record {
  so_far : l.ranks.items ≡ map number_of (take l.maker-index l.makers);
  room : length l.makers ≤ vec_capacity l.ranks;
}
