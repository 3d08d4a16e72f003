use Rattle.std.proofs.Common.{◌≡◌, ℕ, List, map, take, Bor}
use Rattle.clap.specs.Simple.{app_of}
use Rattle.command_line.specs.Found.{app_raw, option_rule}
use Rattle.command_line.proofs.matching.command.Given as goal

-- the options so far
abbrev pub invariant-loop-name : goal.invariant-loop-name
invariant-loop-name l = app_of l.command ≡ app_raw (map (λ (o : Bor (List ℕ)). option_rule o.now) (take l.name-index l.fn.options))
